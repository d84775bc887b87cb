-- What a turn comes to that answers an event.
use Rattle.std.specs.Prelude.{ℕ, ◌≤◌, ◌≡◌, refl, List, length, Ok}
use Rattle.std.proofs.Common.{sym, ◌∙◌, append-nil, arith, le-leb}
use Rattle.system.specs.Events.{step_of, reply_of}
use Rattle.system.specs.declared.System.{System}
use Rattle.wire.specs.Answer.{record_of, answer_bytes, answer_size, put_over, written_in}
use Rattle.wire.specs.Event.{next_event}
use Rattle.wire.specs.NextEvent as found
use Rattle.wire.specs.declared.answer.Answer.{Answer}
use Rattle.wire.specs.declared.answer.AnswerRecord.{AnswerRecord}
use Rattle.wire.specs.declared.event.Event.{Event}
use Rattle.batch.specs.Turn.{Came, turn_of, batched_with, turns_of}
use Rattle.batch.specs.laws.Turn.{turn_answers, answer_length}

-- the writer has room for a whole ANSWER
pub room_for : (o : List ℕ) → answer_size ≤ length o → written_in o ≡ Ok answer_size
unfolding written_in
room_for o l = rw (le-leb answer_size (length o) l)

-- e is the event that was read, a its answer, s' the system after it, and o' what the writer left of the output
pub turn_done : (s : System) (ev o : List ℕ) {e : Event} {n : ℕ} {s' : System} {a : Answer} {r : AnswerRecord} {o' : List ℕ}
    → found.Event e n ≡ next_event ev
    → answer_size ≤ length o → step_of s e ≡ reply_of s' a → r ≡ record_of a s'.lock.owing s'.lock.locked → o' ≡ put_over (answer_bytes r) o
    → Came (turn_of step_of s ev (length o)) o o' (batched_with s' (turns_of n answer_size (Ok tt)))
unfolding put_over
turn_done s ev o {r} f l d a w =
    let size = answer_length r in
    rw (turn_answers step_of s ev (length o) (sym f) l, d, ← a)
    (record {
      told = rw (append-nil (answer_bytes r), size) refl;
      output = w ∙ rw (append-nil (answer_bytes r), le-leb (length (answer_bytes r)) (length o) (omega (arith, size))) refl;
    })
