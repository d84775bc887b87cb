-- One turn of a batch, in document 01's order: "four bytes left (1); 2; 3; whole record (1); 13; then" the event.
use Rattle.std.specs.Prelude.{ℕ, ◌≡◌, List, [], ◌∷◌, ◌++◌, Result, Ok, Err, cond, ltb, length, drop}
use Rattle.system.specs.declared.System.{System}
use Rattle.system.specs.declared.events.Reply.{Reply}
use Rattle.wire.specs.Answer.{record_of, answer_bytes, answer_size}
use Rattle.wire.specs.Event.{next_event}
use Rattle.wire.specs.Refusal.{number_of}
use Rattle.wire.specs.declared.answer.AnswerRecord.{AnswerRecord}
use Rattle.wire.specs.declared.event.Event.{Event}
use Rattle.wire.specs.NextEvent.{NextEvent}
use Rattle.wire.specs.NextEvent as found
use Rattle.wire.specs.declared.refusal.Refusal.{Refusal}
use Rattle.wire.specs.declared.refusal.Refusal.TheVariants.{NoRoom}
use Rattle.batch.specs.declared.Batched.{Batched}
use Rattle.batch.specs.declared.turns.Turns.{Turns}

-- "gives the system, bytes read, bytes written and the number (0 at the end)", the bytes written as the answers that they are
pub record Run : Type 0 where
  pub system : System
  pub read : ℕ
  pub answers : List AnswerRecord
  pub number : ℕ

-- the bytes of some answers, one after the other
abbrev pub bytes_of : List AnswerRecord → List ℕ
bytes_of [] = []
bytes_of (a ∷ rest) = answer_bytes a ++ bytes_of rest

abbrev pub wrote : Run → List ℕ
wrote r = bytes_of r.answers

abbrev pub written : Run → ℕ
written r = length (wrote r)

abbrev pub batched : Run → Batched
batched r = record { system = r.system; read = r.read; written = written r; number = r.number }

-- "Output past the written bytes is untouched"
abbrev pub output_after : Run → List ℕ → List ℕ
output_after r out = wrote r ++ drop (written r) out

-- what a call promises: its answer, and every byte of the lent output
pub record Came (r : Run) (before after : List ℕ) (b : Batched) : Type 0 where
  pub told : b ≡ batched r
  pub output : after ≡ output_after r before

-- nothing is read and nothing written
abbrev pub stopped_with : System → ℕ → Run
stopped_with s n = record { system = s; read = 0; answers = []; number = n }

-- the number that turns end with: 0 at the end of the events
abbrev pub number_of_end : Result Unit Refusal → ℕ
number_of_end (Ok done) = 0
number_of_end (Err refusal) = number_of refusal

-- what the turns come to, beside the system after them
abbrev pub batched_with : System → Turns → Batched
batched_with s t = record { system = s; read = t.read; written = t.written; number = number_of_end t.end }

abbrev pub turns_of : (read written : ℕ) → Result Unit Refusal → Turns
turns_of at w end = record { read = at; written = w; end = end }

-- turns that read and write nothing
abbrev pub no_turns : Refusal → Turns
no_turns refusal = turns_of 0 0 (Err refusal)

-- one turn, by the bytes that it read or why it stopped
abbrev pub turns_in : Result ℕ Refusal → Turns
turns_in (Ok next) = turns_of next answer_size (Ok tt)
turns_in (Err refusal) = no_turns refusal

-- the ANSWER to an event: the owing and the locked cores are those after it
abbrev pub answer_to : Reply → AnswerRecord
answer_to r = record_of r.answer r.system.lock.owing r.system.lock.locked

-- "writes one ANSWER each"
abbrev pub answered : Reply → ℕ → Run
answered r next = record { system = r.system; read = next; answers = answer_to r ∷ []; number = 0 }

-- "1, 2, 3" are the record question's; "13: the next answer has no room"
abbrev pub turn_with : (System → Event → Reply) → System → ℕ → NextEvent → Run
turn_with step s room (Ok r) = cond (ltb room answer_size) (stopped_with s (number_of NoRoom)) (answered (step s r.found) r.next)
turn_with step s room (found.Refused refusal) = stopped_with s (number_of refusal)

-- step says what an event does; s is the system, ev the bytes left, room the length of the output left
unfoldable pub turn_of : (System → Event → Reply) → System → List ℕ → ℕ → Run
turn_of step s ev room = turn_with step s room (next_event ev)
