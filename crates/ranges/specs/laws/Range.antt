-- What a test of every, or of some, number below n says of each number.
use Rattle.std.specs.Prelude.{ℕ, zero, suc, ◌+◌, ◌<◌, Bool, true, false, not, ◌&&◌, ◌||◌, ◌≡◌, refl}
use Rattle.std.proofs.Math.Bool.{or-true}
use Rattle.std.proofs.Common.{sym, ap, ◌∙◌, add-one, arith}
use Rattle.ranges.specs.laws.Logic.{clash, is_false, both, last-or-below}
use Rattle.ranges.specs.Range.{every, some}

-- a number below n of which p holds
pub record FoundBelow (n : ℕ) (p : ℕ → Bool) : Type 0 where
  pub at : ℕ
  pub below : at < n
  pub holds : p at ≡ true

-- ---- every

pub every_true : (n : ℕ) (p : ℕ → Bool) → every n p ≡ true → (i : ℕ) → i < n → p i ≡ true
unfolding every
every_true zero p e i l = absurd (omega arith)
every_true (suc n) p e i l = let b = both (every n p) (p n) e in last-or-below i n l (λ q. ap p q ∙ b.1) (every_true n p b.0 i)

pub make_every : (n : ℕ) (p : ℕ → Bool) → ((i : ℕ) → i < n → p i ≡ true) → every n p ≡ true
unfolding every
make_every zero p h = refl
make_every (suc n) p h = rw (make_every n p (λ i l. h i (omega arith)), h n (omega arith))

-- one number that fails is enough
pub not_every : (n : ℕ) (p : ℕ → Bool) (i : ℕ) → i < n → p i ≡ false → every n p ≡ false
not_every n p i l e = is_false (every n p) (λ h. clash (every_true n p h i l) e)

-- where it does not hold of every number, there is one that fails
pub every_fails : (n : ℕ) (p : ℕ → Bool) → every n p ≡ false → FoundBelow n (λ i. not (p i))
unfolding every
every_fails zero p e = absurd (clash refl e)
every_fails (suc n) p e = go (every n p) e (every_fails n p)
  where
    go : (x : Bool) → (x && p n) ≡ false → (x ≡ false → FoundBelow n (λ i. not (p i))) → FoundBelow (suc n) (λ i. not (p i))
    go true q f = record { at = n; below = omega arith; holds = ap not q }
    go false q f = let k = f refl in record { at = k.at; below = let l : k.at < n = k.below in omega arith; holds = k.holds }

-- one number more
pub every_more : (n : ℕ) (p : ℕ → Bool) → every (n + 1) p ≡ (every n p && p n)
unfolding every
every_more n p = ap (λ (m : ℕ). every m p) (add-one n)

-- ---- some

pub some_found : (n : ℕ) (p : ℕ → Bool) → some n p ≡ true → FoundBelow n p
unfolding some
some_found zero p e = absurd (clash e refl)
some_found (suc n) p e = go (some n p) e (some_found n p)
  where
    go : (x : Bool) → (x || p n) ≡ true → (x ≡ true → FoundBelow n p) → FoundBelow (suc n) p
    go true q f = let k = f refl in record { at = k.at; below = let l : k.at < n = k.below in omega arith; holds = k.holds }
    go false q f = record { at = n; below = omega arith; holds = q }

pub make_some : (n : ℕ) (p : ℕ → Bool) (i : ℕ) → i < n → p i ≡ true → some n p ≡ true
unfolding some
make_some zero p i l e = absurd (omega arith)
make_some (suc n) p i l e =
    last-or-below i n l (λ q. let h : p n ≡ true = ap p (sym q) ∙ e in rw h (or-true (some n p))) (λ q. rw (make_some n p i q e))

-- it holds of none
pub no_some : (n : ℕ) (p : ℕ → Bool) → some n p ≡ false → (i : ℕ) → i < n → p i ≡ false
no_some n p e i l = is_false (p i) (λ h. clash (make_some n p i l h) e)

pub make_none : (n : ℕ) (p : ℕ → Bool) → ((i : ℕ) → i < n → p i ≡ false) → some n p ≡ false
unfolding some
make_none zero p h = refl
make_none (suc n) p h = rw (make_none n p (λ i l. h i (omega arith)), h n (omega arith))

-- one number more
pub some_more : (n : ℕ) (p : ℕ → Bool) → some (n + 1) p ≡ (some n p || p n)
unfolding some
some_more n p = ap (λ (m : ℕ). some m p) (add-one n)
