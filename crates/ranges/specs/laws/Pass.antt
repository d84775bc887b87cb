-- Loops that go through the places 0, 1, .. below n in turn: what such a loop keeps, at the start, after one turn more and at the end.
use Rattle.std.specs.Prelude.{ℕ, ◌+◌, ◌≤◌, ◌<◌, Bool, true, false, ◌&&◌, ◌≡◌, refl}
use Rattle.std.proofs.Common.{sym, ap₂, ◌∙◌, subst, arith}
use Rattle.ranges.specs.Range.{every}
use Rattle.ranges.specs.laws.Range.{every_more, not_every}

-- ---- any such loop

-- it has come to place i, and P holds of the places passed
pub record Upto (n : ℕ) (P : ℕ → Type 0) (i : ℕ) : Type 0 where
  pub place : i ≤ n
  pub holds : P i

pub upto_all : {n i : ℕ} {P : ℕ → Type 0} → Upto n P i → n ≤ i → P n
upto_all {n} {i} {P} u l = let k = u.place in let e : i ≡ n = omega arith in subst P e u.holds

-- ---- a loop that tests every place

-- it has come to place i, and `ok` is whether every place passed holds
pub record Passed (n : ℕ) (p : ℕ → Bool) (i : ℕ) (ok : Bool) : Type 0 where
  pub place : i ≤ n
  pub so_far : ok ≡ every i p

pub passed_none : (n : ℕ) (p : ℕ → Bool) → Passed n p 0 true
unfolding every
passed_none n p = record { place = omega arith; so_far = refl }

module _ {n i : ℕ} {p : ℕ → Bool} {ok : Bool} (u : Passed n p i ok) where
  pub passed_more : {test : Bool} → i < n → test ≡ p i → Passed n p (i + 1) (ok && test)
  passed_more l e = record { place = omega arith; so_far = ap₂ ◌&&◌ u.so_far e ∙ sym (every_more i p) }

  pub passed_all : n ≤ i → ok ≡ every n p
  passed_all l = let k = u.place in let e : i ≡ n = omega arith in rw e at u.so_far

-- where the loop ends at a place that fails, that one decides
pub passed_not : (n : ℕ) (p : ℕ → Bool) (i : ℕ) → i < n → false ≡ p i → false ≡ every n p
passed_not n p i l e = sym (not_every n p i l (sym e))
