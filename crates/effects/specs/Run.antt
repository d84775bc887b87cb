-- A run: some events one after the other, each on the system that the one before left. The system after them, and their history.
use Rattle.std.specs.Prelude.{ℕ, List, [], ◌∷◌}
use Rattle.wire.specs.declared.answer.Answer.{Answer}
use Rattle.wire.specs.declared.answer.AnswerRecord.{AnswerRecord}
use Rattle.wire.specs.declared.event.Event.{Event}
use Rattle.wire.specs.Answer.{record_of}
use Rattle.system.specs.declared.System.{System}
use Rattle.system.specs.declared.events.Reply.{Reply}

-- an event, the answer that it was given, and the owing and the locked cores after it
pub record Entry : Type 0 where
  pub event : Event
  pub answer : Answer
  pub owing : ℕ
  pub locked : ℕ

-- event e and the reply to it, as an entry
abbrev pub entry_with : Event → Reply → Entry
entry_with e r = record { event = e; answer = r.answer; owing = r.system.lock.owing; locked = r.system.lock.locked }

-- the ANSWER record that an entry is told by
abbrev pub record_in : Entry → AnswerRecord
record_in x = record_of x.answer x.owing x.locked

-- step says what an event does: the system after some events, accepted or refused
unfoldable pub system_after : (System → Event → Reply) → System → List Event → System
system_after step s [] = s
system_after step s (e ∷ es) = system_after step (step s e).system es

-- the events with their answers, one after the other
unfoldable pub history_by : (System → Event → Reply) → System → List Event → List Entry
history_by step s [] = []
history_by step s (e ∷ es) = entry_with e (step s e) ∷ history_by step (step s e).system es
