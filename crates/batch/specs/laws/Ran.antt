-- What a run comes to, as a case to take apart: document 01's "It stops at 1, 2, 3, 13 or the end", and else one answer and a run on what is left.
use Rattle.std.specs.Prelude.{ℕ, ◌-◌, ◌≤◌, ◌<◌, ◌≡◌, List, length, drop}
use Rattle.system.specs.declared.System.{System}
use Rattle.system.specs.declared.events.Reply.{Reply}
use Rattle.wire.specs.Answer.{answer_size}
use Rattle.wire.specs.Event.{next_event}
use Rattle.wire.specs.declared.event.Event.{Event}
use Rattle.wire.specs.NextEvent as found
use Rattle.batch.specs.Turn.{Run, stopped_with, answered}
use Rattle.batch.specs.Stops.{Stops}
use Rattle.batch.specs.Batch.{and_then, batch_ends}

pub data Ran (step : System → Event → Reply) : System → List ℕ → ℕ → Run → Type 0 where
  -- no byte is left
  ends : {s : System} {ev : List ℕ} {room : ℕ} → length ev ≡ 0 → Ran step s ev room (batch_ends s)
  halts : {s : System} {ev : List ℕ} {room k : ℕ} → 0 < length ev → Stops ev room k → Ran step s ev room (stopped_with s k)
  goes : {s : System} {ev : List ℕ} {room n : ℕ} {e : Event} {q : Run} → next_event ev ≡ found.Event e n → answer_size ≤ room
      → Ran step (step s e).system (drop n ev) (room - answer_size) q → Ran step s ev room (and_then (answered (step s e) n) q)
