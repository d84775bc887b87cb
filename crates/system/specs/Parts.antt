-- A system whose parts are lent, to be looked at or for an event to change: the system that they make up, and that each part stays where it stood.
use Rattle.std.specs.Prelude.{ℕ, List, ◌≡◌}
use Rattle.ledger.specs.Lent.{ledger_seen}
use Rattle.ledger.specs.WellFormed.{ledger_of}
use Rattle.lock.specs.declared.Held.{Held}
use Rattle.lock.specs.Lent.{lock_seen}
use Rattle.lock.specs.Serve.{lock_of}
use Rattle.table.specs.declared.Sizes.{Sizes}
use Rattle.table.specs.Rules.{table_of}
use Rattle.table.specs.Seen.{table_seen}
use Rattle.wire.specs.declared.answer.Answer.{Answer}
use Rattle.system.specs.declared.System.{System}
use Rattle.system.specs.declared.parts.SystemMut.{SystemMut}
use Rattle.system.specs.declared.parts.SystemRef.{SystemRef}

-- the system of the parts lent to be looked at
abbrev pub system_seen : SystemRef → System
system_seen s = record {
  table = table_seen s.table;
  state = s.state.now;
  ledger = ledger_seen s.ledger;
  lock = lock_seen s.lock;
  kept = s.kept.now;
}

-- the system of the parts lent for an event to change
abbrev pub system_now : SystemMut → System
system_now s = record {
  table = table_seen s.table;
  state = s.state.now;
  ledger = ledger_of s.number.now s.served.now s.skipped.now s.job.now;
  lock = lock_of s.held s.occupant.now;
  kept = s.kept.now;
}

-- each part is lent from where it was: what is behind it may have changed
abbrev pub SamePlaces : SystemMut → SystemMut → Type 0
SamePlaces a b =
    (b.table ≡ a.table)
    × (b.state.ghost_name ≡ a.state.ghost_name)
    × (b.number.ghost_name ≡ a.number.ghost_name)
    × (b.served.ghost_name ≡ a.served.ghost_name)
    × (b.skipped.ghost_name ≡ a.skipped.ghost_name)
    × (b.job.ghost_name ≡ a.job.ghost_name)
    × (b.occupant.ghost_name ≡ a.occupant.ghost_name)
    × (b.kept.ghost_name ≡ a.kept.ghost_name)

-- the system of parts that are lent each by itself, as the exported call is lent them
unfoldable pub system_of : Sizes → (priority budget gang core state number served skipped job : List ℕ) → Held → (occupant kept : List ℕ) → System
system_of sizes priority budget gang core state number served skipped job held occupant kept = record {
  table = table_of sizes priority budget gang core;
  state = state;
  ledger = ledger_of number served skipped job;
  lock = lock_of held occupant;
  kept = kept;
}

-- what an event hands back: the holder and the core sets after it, and its answer
pub record Stepped : Type 0 where
  pub held : Held
  pub answer : Answer

abbrev pub stepped_of : Held → Answer → Stepped
stepped_of h a = record { held = h; answer = a }
