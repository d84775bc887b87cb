-- How much a run reads and writes: no more than there is, and one ANSWER's bytes for each answer.
use Rattle.std.specs.Prelude.{ℕ, ◌*◌, ◌-◌, ◌≤◌, ◌≡◌, List, length}
use Rattle.std.proofs.Math.Nat.{sub-add-eq}
use Rattle.std.proofs.Common.{arith, length-drop}
use Rattle.system.specs.declared.System.{System}
use Rattle.system.specs.declared.events.Reply.{Reply}
use Rattle.wire.specs.Answer.{answer_size}
use Rattle.wire.specs.laws.Reader.{event_whole}
use Rattle.wire.specs.declared.event.Event.{Event}
use Rattle.batch.specs.Turn.{Run, written, answered}
use Rattle.batch.specs.laws.Turn.{bytes_length}
use Rattle.batch.specs.Batch.{and_then}
use Rattle.batch.specs.laws.AndThen.{written_then}
use Rattle.batch.specs.laws.Ran.{Ran, ends, halts, goes}

pub written_is : (r : Run) → written r ≡ answer_size * length r.answers
written_is r = bytes_length r.answers

-- the room after one answer and a run
pub room_left : (step : System → Event → Reply) (s : System) (e : Event) (n room : ℕ) (p : Run)
    → room - written (and_then (answered (step s e) n) p) ≡ room - answer_size - written p
room_left step s e n room p =
    rw (written_then (answered (step s e) n) p, bytes_length (answered (step s e) n).answers) (sub-add-eq room answer_size (written p))

module _ {step : System → Event → Reply} where
  pub read_fits : {s : System} {ev : List ℕ} {room : ℕ} {r : Run} → Ran step s ev room r → r.read ≤ length ev
  read_fits (ends z) = omega arith
  read_fits (halts p w) = omega arith
  read_fits {ev} (goes {n = n} {e = e} f h q) =
      let t = event_whole ev f in
      omega (arith, read_fits q, length-drop n ev)

  answers_fit : {s : System} {ev : List ℕ} {room : ℕ} {r : Run} → Ran step s ev room r → answer_size * length r.answers ≤ room
  answers_fit (ends z) = omega arith
  answers_fit (halts p w) = omega arith
  answers_fit (goes f h q) = omega (arith, answers_fit q)

  pub written_fits : {s : System} {ev : List ℕ} {room : ℕ} {r : Run} → Ran step s ev room r → written r ≤ room
  written_fits {r} q = omega (arith, written_is r, answers_fit q)
