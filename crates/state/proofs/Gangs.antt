-- One thread more: what a turn of the loops over a gang's threads makes of the states and of the owing cores.
use Rattle.std.proofs.Common.{ℕ, ◌+◌, ◌≡◌, List, set, add-one, eq-eqb, ne_eqb}
use Rattle.coreset.specs.Set.{within_width}
use Rattle.ranges.specs.laws.Pass.{upto_all}
use Rattle.ranges.specs.laws.Range.{every_more}
use Rattle.table.specs.Numbers.{ready}
use Rattle.table.specs.Order.{gang_of, core_of}
use Rattle.state.specs.Threads.{readied, owed_by}

module _ (gang : List ℕ) (g n : ℕ) (state s : List ℕ) (h : s ≡ readied gang g n state) where
  pub readied_one : gang_of gang n ≡ g → set s n ready ≡ readied gang g (n + 1) state
  unfolding readied
  readied_one e = rw (add-one, eq-eqb (gang_of gang n) g e, h)

  pub readied_none : (gang_of gang n ≡ g → ⊥) → s ≡ readied gang g (n + 1) state
  unfolding readied
  readied_none e = rw (add-one, ne_eqb (gang_of gang n) g e) h

module _ (core gang : List ℕ) (g n owing m : ℕ) (h : m ≡ owed_by core gang g n owing) where
  pub owed_one : gang_of gang n ≡ g → within_width 32 m (core_of core n) ≡ owed_by core gang g (n + 1) owing
  unfolding owed_by
  owed_one e = rw (add-one, eq-eqb (gang_of gang n) g e, h)

  pub owed_none : (gang_of gang n ≡ g → ⊥) → m ≡ owed_by core gang g (n + 1) owing
  unfolding owed_by
  owed_none e = rw (add-one, ne_eqb (gang_of gang n) g e) h

-- ---- what the loops go by: at the start, after one turn more, and at the end

pub ruleset readied_so_far = (upto_all, readied_one, readied_none)

pub ruleset owed_so_far = (upto_all, owed_one, owed_none)

pub ruleset finished_so_far = (upto_all, every_more)
