-- Document 01: "A core is stopped when it has no occupant, the lock is held, and its true sum is at least the holder's budget."
use Rattle.std.specs.Prelude.{ℕ, Bool}
use Rattle.state.specs.Allowance.{holder_budget, stopped_at}
use Rattle.system.specs.declared.System.{System}

-- "the holder's budget"
abbrev pub budget_in : System → ℕ
budget_in s = holder_budget s.table.budget s.lock.holder

-- core c is stopped, by its kept count
abbrev pub stopped : System → ℕ → Bool
stopped s c = stopped_at s.lock.occupant s.lock.holder s.table.budget s.kept c
