-- The shape of the rest state: where no core owes, what the lock is, part by part.
use Rattle.std.specs.Prelude.{ℕ, Bool, true, false, ◌≡◌, refl, get_or}
use Rattle.std.proofs.Common.{ap, ◌∙◌}
use Rattle.coreset.specs.Set.{has}
use Rattle.coreset.specs.Counting.{some_core}
use Rattle.lock.specs.declared.Lock.{Lock}
use Rattle.ranges.specs.laws.Logic.{clash}
use Rattle.lock.specs.World.{World, Ready, first_gang}
use Rattle.lock.specs.Good.{Stands}
use Rattle.lock.specs.laws.Good.{locked_first, locked_gang}
use Rattle.lock.specs.laws.AtRest.{AtRest, at_rest_lem, free_none, none_free}

-- g is the gang of some core's first ready thread
pub record IsReady (W : World) (g : ℕ) : Type 0 where
  pub core : ℕ
  pub ready : Ready W core
  pub its_gang : first_gang W core ≡ g

pub record Shape (W : World) (l : Lock) : Type 0 where
  -- where some core has a first ready thread, the lock is held,
  pub held : (d : ℕ) → Ready W d → l.holder ≡ 255 → ⊥
  -- by a gang with a ready thread,
  pub by_ready : (d : ℕ) → Ready W d → IsReady W l.holder
  -- which is ahead of every other one
  pub by_highest : (e : ℕ) → Ready W e → (first_gang W e ≡ l.holder → ⊥) → W.higher l.holder (first_gang W e) ≡ true
  -- a core whose first ready thread is the holder's is locked, and that thread is its occupant
  pub runs : (d : ℕ) → Ready W d → first_gang W d ≡ l.holder
      → (has l.locked d ≡ true) × (get_or l.occupant d 255 ≡ W.first d)
  -- any other core is not locked, and has no occupant
  pub empty : (d : ℕ) → (Ready W d → first_gang W d ≡ l.holder → ⊥)
      → (has l.locked d ≡ false) × (get_or l.occupant d 255 ≡ 255)
  -- it is blocked where it has a first ready thread,
  pub blocked : (d : ℕ) → Ready W d → (first_gang W d ≡ l.holder → ⊥) → has l.blocked d ≡ true
  -- and no other core is
  pub unblocked : (d : ℕ) → (Ready W d → first_gang W d ≡ l.holder) → has l.blocked d ≡ false
  -- where no core has a first ready thread, the lock is free, and no core is locked or blocked
  pub free : ((d : ℕ) → W.first d ≡ 255) → (l.holder ≡ 255) × (l.locked ≡ 0) × (l.blocked ≡ 0)

-- ---- each way that a core stands, with what is known of its first ready thread

module _ (W : World) (h d : ℕ) where
  behind : (x y : Bool) (o : ℕ) → Stands W h d x y o → Ready W d → (first_gang W d ≡ h → ⊥)
      → (W.higher h (first_gang W d) ≡ true) × (y ≡ true)
  behind true y o s n ne = absurd (ne s.1)
  behind false true o s n ne = (s.1, refl)
  behind false false o s n ne = absurd (n s.0)

  running : (x y : Bool) (o : ℕ) → Stands W h d x y o → Ready W d → first_gang W d ≡ h → (x ≡ true) × (o ≡ W.first d)
  running true y o s n e = (refl, s.2)
  running false true o s n e = absurd (clash s.1 (ap (W.higher h) e ∙ W.strict.irrefl h))
  running false false o s n e = absurd (n s.0)

  not_running : (x y : Bool) (o : ℕ) → Stands W h d x y o → (Ready W d → first_gang W d ≡ h → ⊥) → (x ≡ false) × (o ≡ 255)
  not_running true y o s ne = absurd (ne s.0 s.1)
  not_running false true o s ne = (refl, s.2)
  not_running false false o s ne = (refl, s.1)

  not_behind : (x y : Bool) (o : ℕ) → Stands W h d x y o → (Ready W d → first_gang W d ≡ h) → y ≡ false
  not_behind true y o s e = s.3
  not_behind false true o s e = absurd (clash s.1 (ap (W.higher h) (e s.0) ∙ W.strict.irrefl h))
  not_behind false false o s e = refl

-- ---- so the rest state has the shape

abbrev locked_at : Lock → ℕ → Bool
locked_at l d = has l.locked d

abbrev blocked_at : Lock → ℕ → Bool
blocked_at l d = has l.blocked d

abbrev occupant_at : Lock → ℕ → ℕ
occupant_at l d = get_or l.occupant d 255

module _ (W : World) (l : Lock) (R : AtRest W l) where
  -- a held lock is held for some locked core, whose first ready thread is the holder's
  holder_ready : (l.holder ≡ 255 → ⊥) → IsReady W l.holder
  holder_ready ne =
      let u = some_core l.locked (λ e. ne (R.good.held.busy e)) in
      let s = at_rest_lem W l R u.0 in
      record { core = u.0; ready = locked_first W l u.0 s u.1; its_gang = locked_gang W l u.0 s u.1 }

  pub rest_shape : Shape W l
  rest_shape = record {
    held = λ d n e. n (free_none W l R e d);
    by_ready = λ d n. holder_ready (λ e. n (free_none W l R e d));
    by_highest = λ e n ne. (behind W l.holder e (locked_at l e) (blocked_at l e) (occupant_at l e) (at_rest_lem W l R e) n ne).0;
    runs = λ d. running W l.holder d (locked_at l d) (blocked_at l d) (occupant_at l d) (at_rest_lem W l R d);
    empty = λ d. not_running W l.holder d (locked_at l d) (blocked_at l d) (occupant_at l d) (at_rest_lem W l R d);
    blocked = λ d n ne. (behind W l.holder d (locked_at l d) (blocked_at l d) (occupant_at l d) (at_rest_lem W l R d) n ne).1;
    unblocked = λ d. not_behind W l.holder d (locked_at l d) (blocked_at l d) (occupant_at l d) (at_rest_lem W l R d);
    free = λ h. let e = none_free W l R h in (e, R.good.held.free e, R.good.idle e);
  }
