-- Whether a number stands among the first n of a list: a priority among the gangs', a gang among the threads'.
use Rattle.std.specs.Prelude.{ℕ, ◌<◌, Bool, ◌≡◌, List, eqb, length, get_or}
use Rattle.ranges.specs.Range.{some}

unfoldable pub occurs : List ℕ → ℕ → ℕ → Bool
occurs xs n v = some n (λ i. eqb (get_or xs i 0) v)

-- a place below n at which v stands
pub record Place (xs : List ℕ) (n v : ℕ) : Type 0 where
  pub at : ℕ
  pub below : at < n
  pub stands : get_or xs at 0 ≡ v

-- a mark for each byte: 1 at those that stand among the first n of xs
pub record Marked (xs : List ℕ) (n : ℕ) (seen : List ℕ) : Type 0 where
  pub room : length seen ≡ 256
  pub marks : (v : ℕ) → v < 256 → eqb (get_or seen v 0) 1 ≡ occurs xs n v
