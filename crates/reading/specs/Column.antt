-- A column of a table under construction: its first n places hold numbers that obey a rule, and each place after them 0.
use Rattle.std.specs.Prelude.{ℕ, ◌<◌, ◌≤◌, ◌≡◌, List, length, get_or}

pub record Column (P : ℕ → Type 0) (room n : ℕ) (xs : List ℕ) : Type 0 where
  pub places : length xs ≡ room
  pub used : (i : ℕ) → i < n → P (get_or xs i 0)
  pub unused : (i : ℕ) → n ≤ i → i < room → get_or xs i 0 ≡ 0
