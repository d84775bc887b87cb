-- "From any state reached from an accepted table by any events": the events one after the other, accepted or refused.
use Rattle.std.specs.Prelude.{◌≤◌, ◌≡◌, true, List}
use Rattle.table.specs.declared.Table.{Table}
use Rattle.table.specs.Rules.{table_ok}
use Rattle.wire.specs.declared.event.Event.{Event}
use Rattle.system.specs.declared.System.{System}
use Rattle.system.specs.System.{fresh_system}
use Rattle.system.specs.Events.{apply_of}
use Rattle.effects.specs.Facts.{TableShaped}
use Rattle.effects.specs.Run.{system_after}

-- what reading a table that it accepts gives: a table that obeys the rules, with at least a core
pub record Accepted (b : Table) : Type 0 where
  pub rules : table_ok b ≡ true
  pub filled : 1 ≤ b.sizes.cores
  pub shaped : TableShaped b

-- the system after some events, accepted or refused
abbrev pub after : System → List Event → System
after = system_after apply_of

-- s is reached from an accepted table by some events
pub record Reached (s : System) : Type 0 where
  pub table : Table
  pub accepted : Accepted table
  pub events : List Event
  pub reaches : after (fresh_system table) events ≡ s
