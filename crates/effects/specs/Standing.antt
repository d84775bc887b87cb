-- Document 01, "At every reached state", of what follows from well formed alone: the lock is held exactly when some core is locked, and a locked
-- core's occupant is the holder's.
use Rattle.std.specs.Prelude.{ℕ, ◌≤◌, true, ◌≡◌, ◌↔◌}
use Rattle.coreset.specs.Set.{has}
use Rattle.coreset.specs.Counting.{some_core, some_member}
use Rattle.state.specs.Allowance.{holder_budget}
use Rattle.table.specs.Numbers.{max_budget}
use Rattle.system.specs.declared.System.{System}
use Rattle.system.specs.Stop.{budget_in}
use Rattle.system.specs.System.{gang_in, occupant_in}
use Rattle.effects.specs.Facts.{WellFormed}

-- core d is locked
abbrev pub Locked : System → ℕ → Type 0
Locked s d = has s.lock.locked d ≡ true

module _ (s : System) (w : WellFormed s) where
  -- "the lock is held exactly when some core is locked"
  pub held_exactly : (s.lock.holder ≡ 255 → ⊥) ↔ ((d : ℕ) × Locked s d)
  held_exactly = (
    λ held. some_core s.lock.locked (λ e. held (w.lock.held.busy e)),
    λ l free. some_member s.lock.locked l.0 l.1 (w.lock.held.free free),
  )

  -- "a locked core's occupant is the holder's": there is one, and it is a thread of the gang that holds the lock
  pub locked_occupied : (d : ℕ) → Locked s d → occupant_in s d ≡ 255 → ⊥
  locked_occupied d l = ((w.lock.core d).ours l).0

  pub locked_holders : (d : ℕ) → Locked s d → gang_in s (occupant_in s d) ≡ s.lock.holder
  locked_holders d l = ((w.lock.core d).ours l).1

  -- the holder's budget is one that a table may have
  pub budget_fits : (s.lock.holder ≡ 255 → ⊥) → budget_in s ≤ max_budget
  unfolding holder_budget
  budget_fits held = w.table.budget_high s.lock.holder (w.lock.holder_in held)
