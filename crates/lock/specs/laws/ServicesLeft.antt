-- The count of services left: how its values compare before and after a service, and what its tests tell.
use Rattle.std.specs.Prelude.{ℕ, ◌<◌, ◌≤◌, Bool, true, false, cond, not, ◌≡◌, ◌⊎◌, eqb, refl}
use Rattle.std.proofs.Common.{⊎_elim, arith, eq-eqb, ne_eqb, eqb-true}
use Rattle.coreset.specs.Set.{has}
use Rattle.coreset.specs.laws.Members.{apart, make_apart}
use Rattle.ranges.specs.laws.Logic.{clash, is_false}
use Rattle.lock.specs.declared.Lock.{Lock}
use Rattle.lock.specs.World.{World, Ready, first_gang}
use Rattle.lock.specs.ServicesLeft.{no_locked_owes, may_take, services_for, services_left}

-- ---- the values compared: before (with ₀) and after a service, of the served core and of another

value_le : (z o k x : Bool) → services_for z o k x ≤ 3
value_le true true true x = omega arith
value_le true true false x = omega arith
value_le true false k true = omega arith
value_le true false k false = omega arith
value_le false true k x = omega arith
value_le false false k x = omega arith

pub services_left_le : (W : World) (l : Lock) (d : ℕ) → services_left W l d ≤ 3
unfolding services_left
services_left_le W l d = value_le (no_locked_owes l) (has l.owing d) (may_take W l.holder d) (has l.locked d)

pub served_before : (z o k x k₀ x₀ : Bool) → o ≡ false → services_for z o k x < services_for false true k₀ x₀
served_before z true k x k₀ x₀ e = absurd (clash refl e)
served_before true false k true k₀ x₀ e = omega arith
served_before true false k false k₀ x₀ e = omega arith
served_before false false k x k₀ x₀ e = omega arith

pub other_before : (z o k x o₀ k₀ x₀ : Bool) → (z ≡ false → o ≡ true → o₀ ≡ true) → services_for z o k x ≤ services_for false o₀ k₀ x₀
other_before z o k x true k₀ x₀ h = value_le z o k x
other_before true true true x false k₀ x₀ h = omega arith
other_before true true false x false k₀ x₀ h = omega arith
other_before true false k true false k₀ x₀ h = omega arith
other_before true false k false false k₀ x₀ h = omega arith
other_before false true k x false k₀ x₀ h = absurd (clash (h refl refl) refl)
other_before false false k x false k₀ x₀ h = omega arith

pub served_clear : (o k x k₀ x₀ : Bool) → o ≡ false → (x ≡ true → k₀ ≡ true) → services_for true o k x < services_for true true k₀ x₀
served_clear true k x k₀ x₀ e h = absurd (clash refl e)
served_clear false k true true x₀ e h = omega arith
served_clear false k true false x₀ e h = absurd (clash (h refl) refl)
served_clear false k false true x₀ e h = omega arith
served_clear false k false false x₀ e h = omega arith

pub other_clear : (o k x o₀ k₀ x₀ : Bool) → (x ≡ true → x₀ ≡ true)
    → (o ≡ true → ((o₀ ≡ true) × (k ≡ true → k₀ ≡ true)) ⊎ ((x₀ ≡ true) × (k ≡ false)))
    → services_for true o k x ≤ services_for true o₀ k₀ x₀
other_clear true true x true true x₀ h b = omega arith
other_clear true true x true false x₀ h b = ⊎_elim (λ w. absurd (clash (w.1 refl) refl)) (λ w. absurd (clash refl w.1)) (b refl)
other_clear true true x false k₀ x₀ h b = ⊎_elim (λ w. absurd (clash w.0 refl)) (λ w. absurd (clash refl w.1)) (b refl)
other_clear true false x true true x₀ h b = omega arith
other_clear true false x true false x₀ h b = omega arith
other_clear true false x false k₀ true h b = omega arith
other_clear true false x false k₀ false h b = ⊎_elim (λ w. absurd (clash w.0 refl)) (λ w. absurd (clash w.0 refl)) (b refl)
other_clear false k true true true x₀ h b = omega arith
other_clear false k true true false x₀ h b = omega arith
other_clear false k true false k₀ true h b = omega arith
other_clear false k true false k₀ false h b = absurd (clash (h refl) refl)
other_clear false k false true true x₀ h b = omega arith
other_clear false k false true false x₀ h b = omega arith
other_clear false k false false k₀ true h b = omega arith
other_clear false k false false k₀ false h b = omega arith

-- ---- what the tests tell

pub no_locked_owes_lem : (l : Lock) → no_locked_owes l ≡ true → (d : ℕ) → has l.locked d ≡ true → has l.owing d ≡ false
unfolding no_locked_owes
no_locked_owes_lem l e = apart l.locked l.owing (eqb-true _ 0 e)

pub make_no_locked_owes : (l : Lock) → ((d : ℕ) → has l.locked d ≡ true → has l.owing d ≡ false) → no_locked_owes l ≡ true
unfolding no_locked_owes
make_no_locked_owes l h = eq-eqb _ 0 (make_apart l.locked l.owing h)

module _ (W : World) (h d : ℕ) where
  pub takes_ready : may_take W h d ≡ true → Ready W d
  unfolding may_take
  takes_ready e f = clash (rw (eq-eqb (W.first d) 255 f) at e) refl

  pub takes_free : Ready W d → h ≡ 255 → may_take W h d ≡ true
  unfolding may_take
  takes_free n e = rw (ne_eqb (W.first d) 255 n, eq-eqb h 255 e)

  pub takes_held : Ready W d → W.higher h (first_gang W d) ≡ false → may_take W h d ≡ true
  unfolding may_take
  takes_held n a = go (eqb h 255)
    where
      go : (x : Bool) → cond (eqb (W.first d) 255) false (cond x true (not (W.higher h (first_gang W d)))) ≡ true
      go true = rw (ne_eqb (W.first d) 255 n)
      go false = rw (ne_eqb (W.first d) 255 n, a)

  pub takes_not : (h ≡ 255 → ⊥) → W.higher h (first_gang W d) ≡ true → may_take W h d ≡ false
  unfolding may_take
  takes_not n a = go (eqb (W.first d) 255)
    where
      go : (x : Bool) → cond x false (cond (eqb h 255) true (not (W.higher h (first_gang W d)))) ≡ false
      go true = refl
      go false = rw (ne_eqb h 255 n, a)

  pub takes_over : (h ≡ 255 → ⊥) → may_take W h d ≡ true → W.higher h (first_gang W d) ≡ false
  takes_over n e = is_false _ (λ a. clash e (takes_not n a))
