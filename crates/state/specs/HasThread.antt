-- Which cores a RELEASE makes owe, exactly: "their cores owe", those of gang g's threads, of the first n. And what makes it skipped: one that is
-- not finished.
use Rattle.std.specs.Prelude.{ℕ, ◌<◌, ◌≡◌, List, get_or}
use Rattle.table.specs.Numbers.{finished}
use Rattle.table.specs.Order.{gang_of, core_of}

-- gang g has a thread, of the first n, that is pinned to core d
pub record HasThread (core gang : List ℕ) (g n d : ℕ) : Type 0 where
  pub thread : ℕ
  pub below : thread < n
  pub its_gang : gang_of gang thread ≡ g
  pub its_core : core_of core thread ≡ d

-- gang g has a thread, of the first n, that is not finished
pub record HasUnfinished (state gang : List ℕ) (g n : ℕ) : Type 0 where
  pub thread : ℕ
  pub below : thread < n
  pub its_gang : gang_of gang thread ≡ g
  pub unfinished : get_or state thread 0 ≡ finished → ⊥
