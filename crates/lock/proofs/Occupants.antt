-- "a locked core's occupant is the holder's": SERVE keeps it so.
use Rattle.std.specs.Prelude.{ℕ, ◌<◌, Bool, true, ◌≡◌, refl, length, get_or, set}
use Rattle.std.proofs.Common.{sym, ap, ◌∙◌, subst, inl, inr, get_or-set_same, get_or-set_other}
use Rattle.coreset.specs.Set.{has, with_core}
use Rattle.coreset.specs.laws.Members.{has_with_other, has_without_same, has_without_other, has_empty}
use Rattle.ranges.specs.laws.Logic.{clash, at_or_away}
use Rattle.lock.specs.declared.Lock.{Lock}
use Rattle.lock.specs.Serve.{locked_for, displaced_of, serve_of}
use Rattle.lock.specs.laws.ServeSteps.{Left, freed, kept, Admitted, none, took, seized, blocked, serve_of_way}
use Rattle.lock.specs.HeldWhenLocked.{HeldWhenLocked}
use Rattle.lock.specs.laws.Held.{held_left}
use Rattle.lock.specs.LockOk.{Of}
use Rattle.lock.specs.laws.Occupants.{left_room}

abbrev HoldersOccupants : (ℕ → ℕ) → Lock → Type 0
HoldersOccupants gang l = (d : ℕ) → has l.locked d ≡ true → Of gang l.holder (get_or l.occupant d 255)

-- (a) and (b) keep it for the other cores; c is not locked then
left_occupants : (gang : ℕ → ℕ) {t g : ℕ} {l : Lock} {c : ℕ} {m : Lock} → HoldersOccupants gang l → Left t g l c m → HoldersOccupants gang m
left_occupants gang H (freed e) = λ d p. absurd (clash p (ap (λ (x : ℕ). has x d) e ∙ has_empty d))
left_occupants gang {l = l} {c = c} {m = m} H (kept e) =
    at_or_away (λ (d : ℕ). has m.locked d ≡ true → Of gang m.holder (get_or m.occupant d 255)) c
    (λ p. absurd (clash p (has_without_same l.locked c)))
    (λ d nd p. subst (Of gang l.holder) (sym (get_or-set_other l.occupant c d 255 255 nd))
    (H d (sym (has_without_other l.locked c d nd) ∙ p)))

-- a core that takes the lock has a thread of the gang that takes it as occupant
module _ (gang : ℕ → ℕ) (m : Lock) (c t : ℕ) (i : c < length m.occupant) (n : t ≡ 255 → ⊥) where
  locked_occupants : ((d : ℕ) → has m.locked d ≡ true → Of gang (gang t) (get_or m.occupant d 255))
      → HoldersOccupants gang (locked_for m c t (gang t))
  locked_occupants H =
      at_or_away (λ (d : ℕ). has (with_core m.locked c) d ≡ true → Of gang (gang t) (get_or (set m.occupant c t) d 255)) c
      (λ p. subst (Of gang (gang t)) (sym (get_or-set_same m.occupant c t 255 i)) (n, refl))
      (λ d nd p. subst (Of gang (gang t)) (sym (get_or-set_other m.occupant c d t 255 nd))
      (H d (sym (has_with_other m.locked c d nd) ∙ p)))

-- (c) keeps it
admitted_occupants : (gang : ℕ → ℕ) (t : ℕ) {a : Bool} {m : Lock} {c : ℕ} {r : Lock} → c < length m.occupant → HeldWhenLocked m
    → HoldersOccupants gang m → Admitted t (gang t) a m c r → HoldersOccupants gang r
admitted_occupants gang t i h H (none e) = H
admitted_occupants gang t {m = m} {c = c} i h H (took n (inl e)) =
    locked_occupants gang m c t i n (λ d p. absurd (clash p (ap (λ (x : ℕ). has x d) (h.free e) ∙ has_empty d)))
admitted_occupants gang t {m = m} {c = c} i h H (took n (inr e)) =
    locked_occupants gang m c t i n (λ d p. subst (λ (g : ℕ). Of gang g (get_or m.occupant d 255)) e (H d p))
admitted_occupants gang t {m = m} {c = c} i h H (seized n f k s) =
    locked_occupants gang (displaced_of m) c t i n (λ d p. absurd (clash p (has_empty d)))
admitted_occupants gang t i h H (blocked n f k s) = λ d p. H d p

pub serve_occupants : (gang : ℕ → ℕ) (l : Lock) (c t : ℕ) (a : Bool) → c < length l.occupant → HeldWhenLocked l
    → HoldersOccupants gang l → HoldersOccupants gang (serve_of l c t (gang t) a)
serve_occupants gang l c t a i h H =
    serve_of_way l c t (gang t) a (HoldersOccupants gang) H (λ m r b s.
    admitted_occupants gang t (subst (λ (n : ℕ). c < n) (sym (left_room b)) i) (held_left b h) (left_occupants gang H b) s)
