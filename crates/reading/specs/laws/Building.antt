-- Laws of `Building`.
use Rattle.std.specs.Prelude.{◌≤◌, true, ◌≡◌}
use Rattle.std.proofs.Common.{arith}
use Rattle.table.specs.declared.Table.{Table}
use Rattle.table.specs.Numbers.{max_gangs, max_threads}
use Rattle.table.specs.TableOk.{filled}
use Rattle.table.specs.Rules.{empty_table, manned_hold, table_ok}
use Rattle.table.specs.TableOk.{TableOk}
use Rattle.table.specs.laws.Ok.{ok_table}
use Rattle.table.specs.laws.Parts.{manned_ok}
use Rattle.reading.specs.laws.Column.{column_empty}
use Rattle.reading.specs.Building.{Below, Budget, Building, Priority}

-- the empty table
pub building_empty : Building empty_table
building_empty = record {
  cores_room = omega arith;
  gangs_room = omega arith;
  threads_room = omega arith;
  priorities = column_empty Priority max_gangs;
  budgets = column_empty Budget max_gangs;
  gang_column = column_empty (Below 0) max_threads;
  core_column = column_empty (Below 0) max_threads;
  distinct = λ g h l m e. absurd (omega arith);
}

-- a table that may end is well formed
module _ (b : Table) (k : Building b) (cores : 1 ≤ b.sizes.cores) (gangs : 1 ≤ b.sizes.gangs) (all : manned_hold b ≡ true) where
  facts : TableOk b
  facts = record {
    sizes = filled cores k.cores_room gangs k.gangs_room k.threads_room;
    priority_low = λ g l. (k.priorities.used g l).0;
    priority_high = λ g l. (k.priorities.used g l).1;
    budget_high = k.budgets.used;
    priority_zero = k.priorities.unused;
    budget_zero = k.budgets.unused;
    gang_there = k.gang_column.used;
    core_there = k.core_column.used;
    gang_zero = k.gang_column.unused;
    core_zero = k.core_column.unused;
    distinct = k.distinct;
    manned = manned_ok b.gang b.sizes.gangs b.sizes.threads all;
  }

  pub building_done : table_ok b ≡ true
  building_done = ok_table b facts
