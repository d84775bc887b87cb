-- The theorem of a core's first ready thread, in document 01's words: it is `HighestReady`, and nothing else is.
use Rattle.std.specs.Prelude.{ℕ, ◌≤◌, ◌≡◌}
use Rattle.pick.specs.laws.Pick.{first_unique}
use Rattle.table.specs.Order.{Lineup, standing, before, first_ready, HighestReady}
use Rattle.table.specs.laws.Order.{before_strict}
use Rattle.table.specs.laws.First.{first_ready_is, highest_of_first, first_of_highest}

module _ (L : Lineup) (c : ℕ) where
  pub first_highest : L.threads ≤ 255 → HighestReady L c (first_ready L c)
  first_highest small = highest_of_first L c (first_ready L c) (first_ready_is L c small)

  pub highest_first : L.threads ≤ 255 → (r : ℕ) → HighestReady L c r → r ≡ first_ready L c
  highest_first small r h =
      first_unique (standing L c) (before L) (before_strict L) L.threads r (first_ready L c) (first_of_highest L c r h) (first_ready_is L c small)
