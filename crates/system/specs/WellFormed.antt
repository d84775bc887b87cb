-- Document 01, "Well formed": the parts of a table, of the threads' states, of the kept counts, of the releases and of the lock.
use Rattle.std.specs.Prelude.{Bool, ◌&&◌}
use Rattle.ledger.specs.WellFormed.{ledger_ok}
use Rattle.lock.specs.LockRules.{Pins, lock_ok}
use Rattle.state.specs.Rules.{states_ok, counts_ok}
use Rattle.table.specs.Rules.{table_ok}
use Rattle.system.specs.declared.System.{System}

-- what the lock is held against
abbrev pub pins_of : System → Pins
pins_of s = record {
  cores = s.table.sizes.cores;
  threads = s.table.sizes.threads;
  gangs = s.table.sizes.gangs;
  core = s.table.core;
  gang = s.table.gang;
}

unfoldable pub well_formed : System → Bool
well_formed s =
    table_ok s.table
    && states_ok s.table.sizes.threads s.state
    && counts_ok s.table.sizes.cores s.kept
    && ledger_ok s.table.sizes.gangs s.ledger
    && lock_ok (pins_of s) s.lock
