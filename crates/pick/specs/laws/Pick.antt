-- What is picked is the first, nothing else is, and it depends on which numbers are wanted alone; one turn of a loop that picks, and its branches.
use Rattle.std.specs.Prelude.{ℕ, zero, suc, ◌+◌, ◌<◌, ◌≤◌, Bool, true, false, cond, ◌≡◌, eqb}
use Rattle.std.proofs.Math.Path.{refl}
use Rattle.std.proofs.Common.{sym, ap, ◌∙◌, add-one, arith, eq-eqb, ne_eqb, eqb-true}
use Rattle.std.proofs.Math.Decide.{ℕ_discrete}
use Rattle.std.proofs.lemmas.Bool.{eqb-false}
use Rattle.ranges.specs.laws.Logic.{clash, last-or-below}
use Rattle.pick.specs.Pick.{pick_with, pick_below}

-- an order in which, of any two numbers, exactly one comes before the other
pub record Strict (before : ℕ → ℕ → Bool) : Type 0 where
  pub irrefl : (t : ℕ) → before t t ≡ false
  pub trans : (t u v : ℕ) → before t u ≡ true → before u v ≡ true → before t v ≡ true
  pub total : (t u : ℕ) → (t ≡ u → ⊥) → before t u ≡ false → before u t ≡ true

-- r is the first of the numbers below n, or 255 where none is wanted
pub record IsFirst (wanted : ℕ → Bool) (before : ℕ → ℕ → Bool) (n r : ℕ) : Type 0 where
  pub none : r ≡ 255 → (u : ℕ) → u < n → wanted u ≡ true → ⊥
  pub inside : (r ≡ 255 → ⊥) → r < n
  pub stands : (r ≡ 255 → ⊥) → wanted r ≡ true
  pub least : (r ≡ 255 → ⊥) → (u : ℕ) → u < n → wanted u ≡ true → (u ≡ r → ⊥) → before r u ≡ true

module _ (wanted : ℕ → Bool) (before : ℕ → ℕ → Bool) (𝓢 : Strict before) where
  -- one number more, by the three tests of `pick_with`
  step : (n t : ℕ) → n < 255 → IsFirst wanted before n t → (x y z : Bool) → wanted n ≡ x → eqb t 255 ≡ y → before n t ≡ z
      → IsFirst wanted before (suc n) (cond x (cond y n (cond z n t)) t)
  step n t l i false y z wx ty bz = record {
    none = λ e u h o. last-or-below u n h (λ q. clash o (ap wanted q ∙ wx)) (λ q. i.none e u q o);
    inside = λ e. let q : t < n = i.inside e in omega arith;
    stands = λ e. i.stands e;
    least = λ e u h o ne. last-or-below u n h (λ q. absurd (clash o (ap wanted q ∙ wx))) (λ q. i.least e u q o ne);
  }
  step n t l i true true z wx ty bz = record {
    none = λ e u h o. absurd (omega arith);
    inside = λ e. omega arith;
    stands = λ e. wx;
    least = λ e u h o ne. last-or-below u n h (λ q. absurd (ne q)) (λ q. absurd (i.none (eqb-true t 255 ty) u q o));
  }
  step n t l i true false true wx ty bz = record {
    none = λ e u h o. absurd (omega arith);
    inside = λ e. omega arith;
    stands = λ e. wx;
    least = λ e u h o ne. last-or-below u n h (λ q. absurd (ne q)) (λ q. passed u q o (ℕ_discrete u t));
  }
    where
      passed : (u : ℕ) → u < n → wanted u ≡ true → Dec (u ≡ t) → before n u ≡ true
      passed u q o (yes e) = ap (before n) e ∙ bz
      passed u q o (no e) = 𝓢.trans n t u bz (i.least (eqb-false t 255 ty) u q o e)
  step n t l i true false false wx ty bz = record {
    none = λ e. absurd (eqb-false t 255 ty e);
    inside = λ e. let q : t < n = i.inside e in omega arith;
    stands = λ e. i.stands e;
    least = λ e u h o ne. last-or-below u n h (λ q. ap (before t) q ∙ 𝓢.total n t (λ w. ne (q ∙ w)) bz) (λ q. i.least e u q o ne);
  }

  -- what is picked is the first
  pub pick_first : (n : ℕ) → n ≤ 255 → IsFirst wanted before n (pick_below wanted before n)
  unfolding pick_below pick_with
  pick_first zero l = record {
    none = λ e u h o. absurd (omega arith);
    inside = λ e. absurd (e refl);
    stands = λ e. absurd (e refl);
    least = λ e. absurd (e refl);
  }
  pick_first (suc n) l =
      let t = pick_below wanted before n in
      step n t l (pick_first n (omega arith)) (wanted n) (eqb t 255) (before n t) refl refl refl

  -- and nothing else is
  pub first_unique : (n r q : ℕ) → IsFirst wanted before n r → IsFirst wanted before n q → r ≡ q
  first_unique n r q i j = go (ℕ_discrete r 255) (ℕ_discrete q 255) (ℕ_discrete q r)
    where
      go : Dec (r ≡ 255) → Dec (q ≡ 255) → Dec (q ≡ r) → r ≡ q
      go (yes e) (yes f) d = e ∙ sym f
      go (yes e) (no f) d = absurd (i.none e q (j.inside f) (j.stands f))
      go (no e) (yes f) d = absurd (j.none f r (i.inside e) (i.stands e))
      go (no e) (no f) (yes d) = sym d
      go (no e) (no f) (no d) =
          let r_q : before r q ≡ true = i.least e q (j.inside f) (j.stands f) d in
          let q_r : before q r ≡ true = j.least f r (i.inside e) (i.stands e) (λ w. d (sym w)) in
          absurd (clash (𝓢.trans r q r r_q q_r) (𝓢.irrefl r))

-- one turn of a loop that picks
pub pick_more : (wanted : ℕ → Bool) (before : ℕ → ℕ → Bool) (n t : ℕ) → t ≡ pick_below wanted before n
    → pick_with wanted before t n ≡ pick_below wanted before (n + 1)
unfolding pick_below
pick_more wanted before n t e = ap (λ (x : ℕ). pick_with wanted before x n) e ∙ ap (pick_below wanted before) (sym (add-one n))

-- what is picked depends on nothing but which of the numbers below n are wanted
pub pick_cong : (wanted wanted' : ℕ → Bool) (before : ℕ → ℕ → Bool) (n : ℕ) → ((u : ℕ) → u < n → wanted u ≡ wanted' u)
    → pick_below wanted before n ≡ pick_below wanted' before n
unfolding pick_below pick_with
pick_cong wanted wanted' before zero h = refl
pick_cong wanted wanted' before (suc n) h = rw (h n (omega arith), pick_cong wanted wanted' before n (λ u l. h u (omega arith)))

-- ---- `pick_with`, case by case

module _ (wanted : ℕ → Bool) (before : ℕ → ℕ → Bool) (t u : ℕ) where
  pub pick_not : wanted u ≡ false → pick_with wanted before t u ≡ t
  unfolding pick_with
  pick_not h = rw h

  pub pick_only : wanted u ≡ true → t ≡ 255 → pick_with wanted before t u ≡ u
  unfolding pick_with
  pick_only h e = rw (h, eq-eqb t 255 e)

  pub pick_new : wanted u ≡ true → (t ≡ 255 → ⊥) → before u t ≡ true → pick_with wanted before t u ≡ u
  unfolding pick_with
  pick_new h e p = rw (h, ne_eqb t 255 e, p)

  pub pick_old : wanted u ≡ true → (t ≡ 255 → ⊥) → before u t ≡ false → pick_with wanted before t u ≡ t
  unfolding pick_with
  pick_old h e p = rw (h, ne_eqb t 255 e, p)
