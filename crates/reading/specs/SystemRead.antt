-- "A refused table gives the number, the record's place (for 8, the table's length) and the empty system"; an accepted one its fresh system.
use Rattle.std.specs.Prelude.{ℕ, List, ◌≡◌}
use Rattle.std.proofs.Common.{ap}
use Rattle.system.specs.System.{fresh_system, empty_system}
use Rattle.reading.specs.declared.SystemRead.{SystemRead}
use Rattle.reading.specs.Reading.{Reading, reading_of}
use Rattle.reading.specs.Sound.{refused_empty}

-- a reading with its table made a system
abbrev pub started : Reading → SystemRead
started r = record { system = fresh_system r.table; number = r.number; place = r.place }

abbrev pub system_read : ℕ → List ℕ → SystemRead
system_read d s = started (reading_of d s)

pub refused_empty_system : (d : ℕ) (s : List ℕ) → ((system_read d s).number ≡ 0 → ⊥) → (system_read d s).system ≡ empty_system
refused_empty_system d s ne = ap fresh_system (refused_empty d s ne)
