-- What the reader of an event gives, by its two cases: the event at the start and the place of the record after it, or a refusal.
use Rattle.std.specs.Prelude.{ℕ, Result, Ok, Err}
use Rattle.wire.specs.declared.event.Event as declared
use Rattle.wire.specs.declared.of_record.Next.{Next}
use Rattle.wire.specs.declared.refusal.Refusal.{Refusal}

abbrev pub NextEvent : Type 0
NextEvent = Result (Next declared.Event) Refusal

abbrev pub Event : declared.Event → ℕ → NextEvent
Event event next = Ok record { found = event; next = next }

pattern abbrev pub Refused : Refusal → NextEvent
Refused refusal = Err refusal
