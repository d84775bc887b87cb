-- Document 01: "A batch reads event records .. It stops at 1, 2, 3, 13 or the end."
use Rattle.std.specs.Prelude.{ℕ, zero, suc, ◌+◌, ◌-◌, List, ◌++◌, cond, eqb, length, drop}
use Rattle.system.specs.declared.System.{System}
use Rattle.system.specs.declared.events.Reply.{Reply}
use Rattle.system.specs.Events.{step_of}
use Rattle.system.specs.WellFormed.{well_formed}
use Rattle.wire.specs.Refusal.{number_of}
use Rattle.wire.specs.declared.event.Event.{Event}
use Rattle.wire.specs.declared.refusal.Refusal.TheVariants.{NotWellFormed}
use Rattle.batch.specs.Turn.{Run, written, stopped_with, turn_of}

-- one run and then another, on what the first left
abbrev pub and_then : Run → Run → Run
and_then r q = record { system = q.system; read = r.read + q.read; answers = r.answers ++ q.answers; number = q.number }

-- "with none left a table or batch ends"
abbrev pub batch_ends : System → Run
batch_ends s = stopped_with s 0

-- Turn after turn, in at most n turns: each on the bytes and the output that the one before left
unfoldable pub run_of : (System → Event → Reply) → ℕ → System → List ℕ → ℕ → Run
run_of step zero s ev room = batch_ends s
run_of step (suc n) s ev room =
    cond (eqb (length ev) 0) (batch_ends s)
    (cond (eqb (turn_of step s ev room).number 0)
    (and_then (turn_of step s ev room)
    (run_of step n (turn_of step s ev room).system (drop (turn_of step s ev room).read ev) (room - written (turn_of step s ev room))))
    (turn_of step s ev room))

-- "With 14 nothing is read or written." No batch has more records than bytes
unfoldable pub batch_of : System → List ℕ → ℕ → Run
batch_of s ev room = cond (well_formed s) (run_of step_of (length ev) s ev room) (stopped_with s (number_of NotWellFormed))
