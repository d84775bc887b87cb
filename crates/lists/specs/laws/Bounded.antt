-- The test of a bounded list and what it means; and what keeps a list bounded.
use Rattle.std.specs.Prelude.{ℕ, ◌≤◌, ◌<◌, Bool, true, ◌≡◌, List, eqb, leb, length, get_or, set, replicate}
use Rattle.std.proofs.Common.{◌∙◌, arith, get_or-set_same, get_or-set_other, le-leb, leb-true, eq-eqb, eqb-true}
use Rattle.std.proofs.Math.ListN.{get_or-eq_default}
use Rattle.ranges.specs.laws.Logic.{at_or_away}
use Rattle.ranges.specs.laws.Places.{placed, every_used, every_unused, make_places}
use Rattle.ranges.specs.Range.{every}
use Rattle.lists.specs.Bounded.{Bounded}
use Rattle.lists.specs.laws.Lists.{same_throughout}

-- the test of place i
abbrev bounded_at : (n top : ℕ) → List ℕ → ℕ → Bool
bounded_at n top xs = placed n (λ i. leb (get_or xs i 0) top) (λ i. eqb (get_or xs i 0) 0)

module _ (n top : ℕ) (xs : List ℕ) (size : ℕ) where
  pub bounded : length xs ≡ size → every size (bounded_at n top xs) ≡ true → Bounded n top xs
  bounded room e = record {
    used = every_used size n _ _ (λ i. get_or xs i 0 ≤ top) (λ i. get_or xs i 0 ≡ 0) past e (λ i. leb-true (get_or xs i 0) top) (λ i z. omega arith);
    unused = every_unused size n _ _ (λ i. get_or xs i 0 ≤ top) (λ i. get_or xs i 0 ≡ 0) past e (λ i. eqb-true (get_or xs i 0) 0);
  }
    where
      past : (i : ℕ) → size ≤ i → get_or xs i 0 ≡ 0
      past i k = get_or-eq_default xs 0 (omega arith)

  pub make_bounded : Bounded n top xs → every size (bounded_at n top xs) ≡ true
  make_bounded b = make_places size n _ _ (λ i l. le-leb (get_or xs i 0) top (b.used i l)) (λ i l k. eq-eqb (get_or xs i 0) 0 (b.unused i l))

-- ---- what keeps a list bounded

pub bounded_none : (n top size : ℕ) → Bounded n top (replicate size 0)
bounded_none n top size = record { used = λ i l. let z = same_throughout size i 0 in omega arith; unused = λ i l. same_throughout size i 0 }

-- one used place
pub bounded_set : {n top : ℕ} {xs : List ℕ} (i v : ℕ) → Bounded n top xs → i < n → i < length xs → v ≤ top → Bounded n top (set xs i v)
bounded_set {n} {top} {xs} i v b l k h = record {
  used = at_or_away (λ (j : ℕ). j < n → get_or (set xs i v) j 0 ≤ top) i
      (λ q. let e = get_or-set_same xs i v 0 k in omega arith)
      (λ j ne q. let e = get_or-set_other xs i j v 0 ne in let o = b.used j q in omega arith);
  unused = λ j q. get_or-set_other xs i j v 0 (λ e. omega arith) ∙ b.unused j q;
}
