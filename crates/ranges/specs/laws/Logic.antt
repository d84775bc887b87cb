-- Plain logic that many laws share.
use Rattle.std.specs.Prelude.{ℕ, suc, ◌<◌, Bool, true, false, cond, ◌&&◌, ◌≡◌, refl}
use Rattle.std.proofs.Common.{true≢false, sym, ◌∙◌, subst, arith}
use Rattle.std.proofs.Math.Bool.{and-eq-true_iff}
use Rattle.std.proofs.Math.Decide.{ℕ_discrete}
use Rattle.ranges.specs.Range.{implies}

pub clash : {x : Bool} → x ≡ true → x ≡ false → ⊥
clash p q = true≢false (sym p ∙ q)

pub is_false : (x : Bool) → (x ≡ true → ⊥) → x ≡ false
is_false true h = absurd (h refl)
is_false false h = refl

-- the two halves of a test
pub both : (x y : Bool) → (x && y) ≡ true → (x ≡ true) × (y ≡ true)
both x y e = (and-eq-true_iff x y).0 e

pub implied : (x y : Bool) → implies x y ≡ true → x ≡ true → y ≡ true
implied true y h p = h
implied false y h p = absurd (clash p refl)

pub make_implies : (x y : Bool) → (x ≡ true → y ≡ true) → implies x y ≡ true
make_implies true y h = h refl
make_implies false y h = refl

pub unimplied : (x y : Bool) → implies x y ≡ false → (x ≡ true) × (y ≡ false)
unimplied true y h = (refl, h)
unimplied false y h = absurd (clash refl h)

-- what holds of both ends of a test holds of its result
pub either : {A : Type 0} (P : A → Type 0) (x : Bool) {a b : A} → (x ≡ true → P a) → (x ≡ false → P b) → P (cond x a b)
either P true p q = p refl
either P false p q = q refl

-- what holds at c and at every other number holds at each
pub at_or_away : (P : ℕ → Type 0) (c : ℕ) → P c → ((d : ℕ) → (d ≡ c → ⊥) → P d) → (d : ℕ) → P d
at_or_away P c p q d = go (ℕ_discrete d c)
  where
    go : Dec (d ≡ c) → P d
    go (yes e) = subst P (sym e) p
    go (no e) = q d e

-- a number below n + 1 is n or one below n
pub last-or-below {ℓ} : {A : Type ℓ} (i n : ℕ) → i < suc n → (i ≡ n → A) → (i < n → A) → A
last-or-below {A = A} i n h f g = go (ℕ_discrete i n)
  where
    go : Dec (i ≡ n) → A
    go (yes e) = f e
    go (no e) = g (omega arith)
