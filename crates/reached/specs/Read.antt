-- What the table reader accepts is an accepted table: so a system read from bytes is reached, and stays so whatever events follow.
use Rattle.std.specs.Prelude.{ℕ, ◌≡◌, List}
use Rattle.reading.specs.Reading.{reading_of}
use Rattle.reading.specs.Sound.{sound, accepted_ok}
use Rattle.reading.specs.SystemRead.{system_read}
use Rattle.reached.specs.Reached.{Accepted, Reached}
use Rattle.reached.specs.ByEvents.{fresh_reached}

module _ (d : ℕ) (s : List ℕ) where
  pub read_accepted : (reading_of d s).number ≡ 0 → Accepted (reading_of d s).table
  read_accepted e =
      let k = (sound d s).built e in
      record {
        rules = accepted_ok d s e;
        filled = (sound d s).filled e;
        shaped = record {
          priority_size = k.priorities.places;
          budget_size = k.budgets.places;
          gang_size = k.gang_column.places;
          core_size = k.core_column.places;
        };
      }

  pub read_reached : (system_read d s).number ≡ 0 → Reached (system_read d s).system
  read_reached e = fresh_reached (reading_of d s).table (read_accepted e)
