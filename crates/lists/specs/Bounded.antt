-- A list of which the first n places are used: in each of them stands a number of at most `top`, and 0 in every other place.
use Rattle.std.specs.Prelude.{ℕ, ◌≤◌, ◌<◌, ◌≡◌, List, get_or}

pub record Bounded (n top : ℕ) (xs : List ℕ) : Type 0 where
  pub used : (i : ℕ) → i < n → get_or xs i 0 ≤ top
  pub unused : (i : ℕ) → n ≤ i → get_or xs i 0 ≡ 0
