-- What holds of every run: it applies the events of the bytes that it read, and it stops where document 01 says.
use Rattle.std.specs.Prelude.{ℕ, ◌-◌, ◌<◌, ◌≡◌, ◌⊎◌, List, length, drop}
use Rattle.system.specs.declared.System.{System}
use Rattle.system.specs.declared.events.Reply.{Reply}
use Rattle.wire.specs.declared.event.Event.{Event}
use Rattle.effects.specs.Run.{system_after}
use Rattle.batch.specs.Turn.{Run, written}
use Rattle.batch.specs.Stops.{Stops}
use Rattle.batch.specs.History.{answers_to}

-- ---- the events of the bytes that were read

-- a run's system and answers are those of some events
pub record Applies (step : System → Event → Reply) (s : System) (es : List Event) (r : Run) : Type 0 where
  pub system : r.system ≡ system_after step s es
  pub answers : r.answers ≡ answers_to step s es

-- ---- where it stops

-- "It stops at 1, 2, 3, 13 or the end": at the end with 0, or at the record after those that were read
abbrev pub StopsAt : List ℕ → ℕ → Run → Type 0
StopsAt ev room r = ((r.number ≡ 0) × (r.read ≡ length ev)) ⊎ ((r.read < length ev) × Stops (drop r.read ev) (room - written r) r.number)
