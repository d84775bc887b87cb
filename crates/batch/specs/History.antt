-- The events of some bytes, and the ANSWER records of a run of events.
use Rattle.std.specs.Prelude.{ℕ, zero, suc, List, [], ◌∷◌, Ok, map, length, drop}
use Rattle.system.specs.declared.System.{System}
use Rattle.system.specs.declared.events.Reply.{Reply}
use Rattle.wire.specs.Event.{next_event}
use Rattle.wire.specs.declared.answer.AnswerRecord.{AnswerRecord}
use Rattle.wire.specs.declared.event.Event.{Event}
use Rattle.wire.specs.NextEvent.{NextEvent}
use Rattle.wire.specs.NextEvent as found
use Rattle.effects.specs.Run.{record_in, history_by}

-- an event and those after its record
abbrev pub and_after : NextEvent → (ℕ → List Event) → List Event
and_after (Ok r) after = r.found ∷ after r.next
and_after (found.Refused refusal) after = []

-- the events of some bytes, up to the first record that is refused, in at most n records
unfoldable pub events_in : ℕ → List ℕ → List Event
events_in zero s = []
events_in (suc n) s = and_after (next_event s) (λ next. events_in n (drop next s))

-- no bytes hold more records than there are bytes
abbrev pub events_of : List ℕ → List Event
events_of s = events_in (length s) s

-- step says what an event does: the ANSWER records of the history of some events
abbrev pub answers_to : (System → Event → Reply) → System → List Event → List AnswerRecord
answers_to step s es = map record_in (history_by step s es)
