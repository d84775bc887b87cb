-- Where no core owes, the lock is what the first ready threads give, and nothing else.
use Rattle.std.specs.Prelude.{ℕ, Bool, true, false, ◌≡◌, refl, get_or}
use Rattle.std.proofs.Common.{sym, ap, ◌∙◌, ext_get_or}
use Rattle.std.proofs.Math.Decide.{ℕ_discrete}
use Rattle.coreset.specs.Set.{has}
use Rattle.coreset.specs.laws.Members.{has_empty, ext, empty_ext}
use Rattle.lock.specs.declared.Lock.{Lock}
use Rattle.ranges.specs.laws.Logic.{clash, is_false}
use Rattle.lock.specs.World.{World, Ready, first_gang}
use Rattle.lock.specs.Good.{Stands, StandsIn, Good}
use Rattle.lock.specs.laws.Good.{locked_first, locked_gang}

pub record AtRest (W : World) (l : Lock) : Type 0 where
  pub good : Good W l
  pub none_owes : l.owing ≡ 0

-- every core stands in one of the three ways
pub at_rest_lem : (W : World) (l : Lock) → AtRest W l → (d : ℕ) → StandsIn W l d
at_rest_lem W l R d = R.good.stands d (ap (λ (m : ℕ). has m d) R.none_owes ∙ has_empty d)

-- a core that is locked under h does not stand under an h' behind h
overruled : (W : World) (h h' d : ℕ) (x' y' : Bool) (o' : ℕ) → W.higher h h' ≡ true → Ready W d → first_gang W d ≡ h
    → Stands W h' d x' y' o' → ⊥
overruled W h h' d true y' o' a n e s = clash a (ap (λ (k : ℕ). W.higher k h') (sym e ∙ s.1) ∙ W.strict.irrefl h')
overruled W h h' d false true o' a n e s = clash (W.strict.trans h h' h a (ap (W.higher h') (sym e) ∙ s.1)) (W.strict.irrefl h)
overruled W h h' d false false o' a n e s = n s.0

-- how a core stands under one holder is settled
one_way : (W : World) (h d : ℕ) (x y x' y' : Bool) (o o' : ℕ) → Stands W h d x y o → Stands W h d x' y' o'
    → (x ≡ x') × (y ≡ y') × (o ≡ o')
one_way W h d true y true y' o o' s s' = (refl, s.3 ∙ sym s'.3, s.2 ∙ sym s'.2)
one_way W h d true y false true o o' s s' = absurd (clash s'.1 (ap (W.higher h) s.1 ∙ W.strict.irrefl h))
one_way W h d true y false false o o' s s' = absurd (s.0 s'.0)
one_way W h d false true true y' o o' s s' = absurd (clash s.1 (ap (W.higher h) s'.1 ∙ W.strict.irrefl h))
one_way W h d false true false true o o' s s' = (refl, refl, s.2 ∙ sym s'.2)
one_way W h d false true false false o o' s s' = absurd (s.0 s'.0)
one_way W h d false false true y' o o' s s' = absurd (s'.0 s.0)
one_way W h d false false false true o o' s s' = absurd (s'.0 s.0)
one_way W h d false false false false o o' s s' = (refl, refl, s.1 ∙ sym s'.1)

-- under a free lock, where no core is locked or blocked, no thread is ready
pub free_none : (W : World) (l : Lock) → AtRest W l → l.holder ≡ 255 → (d : ℕ) → W.first d ≡ 255
free_none W l R e d = idle.0
  where
    idle : Stands W l.holder d false false (get_or l.occupant d 255)
    idle = rw (ap (λ (m : ℕ). has m d) (R.good.held.free e) ∙ has_empty d, ap (λ (m : ℕ). has m d) (R.good.idle e) ∙ has_empty d)
        at (at_rest_lem W l R d)

-- a lock with no locked core is free
unlocked_free : (W : World) (l : Lock) → AtRest W l → ((d : ℕ) → has l.locked d ≡ true → ⊥) → l.holder ≡ 255
unlocked_free W l R h = R.good.held.busy (empty_ext l.locked (λ d. is_false (has l.locked d) (h d)))

-- where no thread is ready the lock is free
pub none_free : (W : World) (l : Lock) → AtRest W l → ((d : ℕ) → W.first d ≡ 255) → l.holder ≡ 255
none_free W l R h = unlocked_free W l R (λ d p. locked_first W l d (at_rest_lem W l R d) p (h d))

-- of two locks at rest neither's holder is ahead of the other's
not_ahead : (W : World) (l l' : Lock) → AtRest W l → AtRest W l' → (l.holder ≡ 255 → ⊥) → W.higher l.holder l'.holder ≡ true → ⊥
not_ahead W l l' R R' ne a =
    ne (unlocked_free W l R (λ d p.
    let s = at_rest_lem W l R d in
    overruled W l.holder l'.holder d (has l'.locked d) (has l'.blocked d) (get_or l'.occupant d 255) a
    (locked_first W l d s p) (locked_gang W l d s p) (at_rest_lem W l' R' d)))

same_holder : (W : World) (l l' : Lock) → AtRest W l → AtRest W l' → l.holder ≡ l'.holder
same_holder W l l' R R' =
    go (ℕ_discrete l.holder l'.holder) (ℕ_discrete l.holder 255) (ℕ_discrete l'.holder 255)
    (W.higher l.holder l'.holder) refl
  where
    go : Dec (l.holder ≡ l'.holder) → Dec (l.holder ≡ 255) → Dec (l'.holder ≡ 255) → (x : Bool)
        → W.higher l.holder l'.holder ≡ x → l.holder ≡ l'.holder
    go (yes e) f g x a = e
    go (no e) (yes f) g x a = f ∙ sym (none_free W l' R' (free_none W l R f))
    go (no e) (no f) (yes g) x a = none_free W l R (free_none W l' R' g) ∙ sym g
    go (no e) (no f) (no g) true a = absurd (not_ahead W l l' R R' f a)
    go (no e) (no f) (no g) false a =
        let b = W.strict.total l.holder l'.holder (R.good.holder_in f) (R'.good.holder_in g) e a in
        absurd (not_ahead W l' l R' R g b)

pub rest_unique : (W : World) (l l' : Lock) → AtRest W l → AtRest W l' → l ≡ l'
rest_unique W l l' R R' = λ i. record {
  holder = same_holder W l l' R R' i;
  locked = ext l.locked l'.locked (λ d. (both d).0) i;
  blocked = ext l.blocked l'.blocked (λ d. (both d).1) i;
  owing = (R.none_owes ∙ sym R'.none_owes) i;
  occupant = ext_get_or 255 l.occupant l'.occupant (R.good.room ∙ sym R'.good.room) (λ d h. (both d).2) i;
}
  where
    moved : (d : ℕ) → Stands W l.holder d (has l'.locked d) (has l'.blocked d) (get_or l'.occupant d 255)
    moved d = rw (same_holder W l l' R R') (at_rest_lem W l' R' d)

    both : (d : ℕ)
        → (has l.locked d ≡ has l'.locked d) × (has l.blocked d ≡ has l'.blocked d)
        × (get_or l.occupant d 255 ≡ get_or l'.occupant d 255)
    both d =
        one_way W l.holder d (has l.locked d) (has l.blocked d) (has l'.locked d) (has l'.blocked d)
        (get_or l.occupant d 255) (get_or l'.occupant d 255) (at_rest_lem W l R d) (moved d)
