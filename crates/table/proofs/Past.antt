-- Past the last place no thread stands, so the threads there change nothing of a core's first ready thread.
use Rattle.std.specs.Prelude.{ℕ, zero, suc, ◌<◌, ◌≤◌, Bool, false, cond, ◌&&◌, ◌≡◌, refl, List, min, eqb, get_or, length}
use Rattle.std.proofs.Common.{sym, ap, ◌∙◌, arith}
use Rattle.std.proofs.Math.Decide.{dec_lt}
use Rattle.std.proofs.Math.ListN.{get_or-eq_default}
use Rattle.std.proofs.Math.Nat.{min-eq_left, min-eq_right}
use Rattle.pick.specs.Pick.{pick_with, pick_below}
use Rattle.table.specs.Order.{stands_at}

pub none_stands : (state core : List ℕ) (c t : ℕ) → length state ≤ t → stands_at state core c t ≡ false
unfolding stands_at
none_stands state core c t l = rw (get_or-eq_default state 0 l) refl

module _ (wanted : ℕ → Bool) (before : ℕ → ℕ → Bool) (m : ℕ) (past : (t : ℕ) → m ≤ t → wanted t ≡ false) where
  -- of the numbers below n only those below m are asked
  pub pick_past : (n : ℕ) → pick_below wanted before (min n m) ≡ pick_below wanted before n
  unfolding pick_below pick_with
  pick_past zero = ap (pick_below wanted before) (min-eq_left (omega arith))
  pick_past (suc n) = go (dec_lt n m) (pick_past n)
    where
      go : Dec (n < m) → pick_below wanted before (min n m) ≡ pick_below wanted before n
          → pick_below wanted before (min (suc n) m) ≡ pick_below wanted before (suc n)
      go (yes l) before_it = ap (pick_below wanted before) (min-eq_left (omega arith))
      go (no l) before_it =
          let here : min (suc n) m ≡ m = min-eq_right (omega arith) in
          let same : min n m ≡ m = min-eq_right (omega arith) in
          rw (past n (omega arith)) (ap (pick_below wanted before) (here ∙ sym same) ∙ before_it)
