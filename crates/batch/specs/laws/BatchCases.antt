-- A batch on a well-formed system and on any other.
use Rattle.std.specs.Prelude.{ℕ, true, false, ◌≡◌, List, length}
use Rattle.system.specs.Events.{step_of}
use Rattle.system.specs.WellFormed.{well_formed}
use Rattle.system.specs.declared.System.{System}
use Rattle.wire.specs.Refusal.{number_of}
use Rattle.wire.specs.declared.refusal.Refusal.TheVariants.{NotWellFormed}
use Rattle.batch.specs.Turn.{stopped_with}
use Rattle.batch.specs.Batch.{run_of, batch_of}

module _ (s : System) (ev : List ℕ) (room : ℕ) where
  pub batch_well : well_formed s ≡ true → batch_of s ev room ≡ run_of step_of (length ev) s ev room
  unfolding batch_of
  batch_well p = rw p

  -- "With 14 nothing is read or written"
  pub batch_ill : well_formed s ≡ false → batch_of s ev room ≡ stopped_with s (number_of NotWellFormed)
  unfolding batch_of
  batch_ill p = rw p
