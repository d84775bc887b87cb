-- The test of a lock and the facts of a well-formed one say the same.
use Rattle.std.specs.Prelude.{ℕ, ◌<◌, ◌≤◌, Bool, true, cond, not, ◌&&◌, ◌≡◌, eqb, ltb, length}
use Rattle.std.proofs.Math.Decide.{ℕ_discrete, dec_lt}
use Rattle.std.proofs.Common.{arith, eq-eqb, ne_eqb, lt-ltb, eqb-true, ltb-true}
use Rattle.std.proofs.lemmas.Bool.{eqb-false, not-true}
use Rattle.std.specs.Int.Bits.{bit_or}
use Rattle.std.proofs.Math.ListN.{get_or-eq_default}
use Rattle.coreset.specs.Set.{has}
use Rattle.coreset.specs.laws.Members.{has_beyond, or_either, or_left, or_right}
use Rattle.ranges.specs.Range.{every, NoneOr, implies}
use Rattle.ranges.specs.laws.Range.{every_true, make_every}
use Rattle.ranges.specs.laws.Logic.{clash, both, implied, make_implies}
use Rattle.lock.specs.declared.Lock.{Lock}
use Rattle.lock.specs.HeldWhenLocked.{HeldWhenLocked}
use Rattle.lock.specs.LockRules.{
  Pins,
  pin_core,
  pin_gang,
  occupant_of,
  named,
  held_ok,
  idle_ok,
  sets_ok,
  pinned_ok,
  ours_ok,
  core_ok,
  cores_ok,
  lock_ok,
}
use Rattle.lock.specs.LockOk.{CoreOk, LockOk, Masks}

-- ---- part by part

held_ok_lem : (n : ℕ) (l : Lock) → held_ok n l.holder l.locked ≡ true → HeldWhenLocked l × NoneOr n l.holder
unfolding held_ok
held_ok_lem n l e = go (ℕ_discrete l.holder 255)
  where
    go : Dec (l.holder ≡ 255) → HeldWhenLocked l × NoneOr n l.holder
    go (yes q) =
        let z : eqb l.locked 0 ≡ true = rw (eq-eqb l.holder 255 q) at e in
        (record { free = λ w. eqb-true l.locked 0 z; busy = λ w. q }, λ ne. absurd (ne q))
    go (no q) =
        let b : (not (eqb l.locked 0) && ltb l.holder n) ≡ true = rw (ne_eqb l.holder 255 q) at e in
        let s = both (not (eqb l.locked 0)) (ltb l.holder n) b in (
          record { free = λ w. absurd (q w); busy = λ w. absurd (eqb-false l.locked 0 (not-true _ s.0) w) },
          λ ne. ltb-true l.holder n s.1,
        )

ok_held : (n : ℕ) (l : Lock) → HeldWhenLocked l → NoneOr n l.holder → held_ok n l.holder l.locked ≡ true
unfolding held_ok
ok_held n l h i = go (ℕ_discrete l.holder 255)
  where
    go : Dec (l.holder ≡ 255) → cond (eqb l.holder 255) (eqb l.locked 0) (not (eqb l.locked 0) && ltb l.holder n) ≡ true
    go (yes q) = rw (eq-eqb l.holder 255 q, eq-eqb l.locked 0 (h.free q))
    go (no q) = rw (ne_eqb l.holder 255 q, ne_eqb l.locked 0 (λ z. q (h.busy z)), lt-ltb l.holder n (i q))

not_none : (t : ℕ) → (t ≡ 255 → ⊥) → not (eqb t 255) ≡ true
not_none t ne = rw (ne_eqb t 255 ne)

none_not : (t : ℕ) → not (eqb t 255) ≡ true → t ≡ 255 → ⊥
none_not t h = eqb-false t 255 (not-true (eqb t 255) h)

module _ (p : Pins) (l : Lock) (d : ℕ) where
  abbrev t : ℕ
  t = occupant_of l d

  abbrev at_home : Bool
  at_home = ltb t p.threads && eqb (pin_core p t) d && ltb d p.cores

  abbrev holders : Bool
  holders = not (eqb t 255) && eqb (pin_gang p t) l.holder

  core_ok_lem : core_ok p l d ≡ true → CoreOk p l d
  unfolding core_ok sets_ok pinned_ok ours_ok
  core_ok_lem e =
      let a = both (implies (has (named l) d) (ltb d p.cores) && implies (not (eqb t 255)) at_home) (implies (has l.locked d) holders) e in
      let b = both (implies (has (named l) d) (ltb d p.cores)) (implies (not (eqb t 255)) at_home) a.0 in
      record {
        locked_in = λ h. inside b.0 (or_left (bit_or l.locked l.blocked) l.owing d (or_left l.locked l.blocked d h));
        blocked_in = λ h. inside b.0 (or_left (bit_or l.locked l.blocked) l.owing d (or_right l.locked l.blocked d h));
        owing_in = λ h. inside b.0 (or_right (bit_or l.locked l.blocked) l.owing d h);
        pinned = λ ne.
            let s = both (ltb t p.threads && eqb (pin_core p t) d) (ltb d p.cores) (implied (not (eqb t 255)) at_home b.1 (not_none t ne)) in
            let u = both (ltb t p.threads) (eqb (pin_core p t) d) s.0 in
            (ltb-true t p.threads u.0, eqb-true (pin_core p t) d u.1, ltb-true d p.cores s.1);
        ours = λ h.
            let s = both (not (eqb t 255)) (eqb (pin_gang p t) l.holder) (implied (has l.locked d) holders a.1 h) in
            (none_not t s.0, eqb-true (pin_gang p t) l.holder s.1);
      }
    where
      inside : implies (has (named l) d) (ltb d p.cores) ≡ true → has (named l) d ≡ true → d < p.cores
      inside f h = ltb-true d p.cores (implied (has (named l) d) (ltb d p.cores) f h)

  ok_core : CoreOk p l d → core_ok p l d ≡ true
  unfolding core_ok sets_ok pinned_ok ours_ok
  ok_core C = rw (
    make_implies (has (named l) d) (ltb d p.cores)
        (λ h. lt-ltb d p.cores (or_either (bit_or l.locked l.blocked) l.owing d h
        (λ q. or_either l.locked l.blocked d q C.locked_in C.blocked_in) C.owing_in)),
    make_implies (not (eqb t 255)) at_home
        (λ h. let s = C.pinned (none_not t h) in rw (lt-ltb t p.threads s.0, eq-eqb (pin_core p t) d s.1, lt-ltb d p.cores s.2)),
    make_implies (has l.locked d) holders (λ h. let s = C.ours h in rw (ne_eqb t 255 s.0, eq-eqb (pin_gang p t) l.holder s.1)),
  )

  -- past the 32 cores a u32 and a [u8; 32] have nothing
  core_past : Masks 32 l → length l.occupant ≡ 32 → 32 ≤ d → CoreOk p l d
  core_past M r i =
      let nl = has_beyond 32 l.locked d M.locked_fits i in
      record {
        locked_in = λ h. absurd (clash h nl);
        blocked_in = λ h. absurd (clash h (has_beyond 32 l.blocked d M.blocked_fits i));
        owing_in = λ h. absurd (clash h (has_beyond 32 l.owing d M.owing_fits i));
        pinned = λ ne. absurd (ne (get_or-eq_default l.occupant 255 (omega arith)));
        ours = λ h. absurd (clash h nl);
      }

-- ---- the whole

pub lock_ok_lem : (p : Pins) (l : Lock) → Masks 32 l → length l.occupant ≡ 32 → lock_ok p l ≡ true → LockOk p l
unfolding lock_ok idle_ok cores_ok
lock_ok_lem p l M r e = record {
  held = h.0;
  holder_in = h.1;
  idle = λ w. eqb-true l.blocked 0 (implied (eqb l.holder 255) (eqb l.blocked 0) b.1 (eq-eqb l.holder 255 w));
  core = λ d. go d (dec_lt d 32);
}
  where
    a : ((held_ok p.gangs l.holder l.locked && implies (eqb l.holder 255) (eqb l.blocked 0)) ≡ true)
        × (every 32 (core_ok p l) ≡ true)
    a = both _ _ e

    b : (held_ok p.gangs l.holder l.locked ≡ true) × (implies (eqb l.holder 255) (eqb l.blocked 0) ≡ true)
    b = both _ _ a.0

    h : HeldWhenLocked l × NoneOr p.gangs l.holder
    h = held_ok_lem p.gangs l b.0

    go : (d : ℕ) → Dec (d < 32) → CoreOk p l d
    go d (yes i) = core_ok_lem p l d (every_true 32 (core_ok p l) a.1 d i)
    go d (no i) = core_past p l d M r (omega arith)

pub ok_lock : (p : Pins) (l : Lock) → LockOk p l → lock_ok p l ≡ true
unfolding lock_ok idle_ok cores_ok
ok_lock p l L = rw (
  ok_held p.gangs l L.held L.holder_in,
  make_implies (eqb l.holder 255) (eqb l.blocked 0) (λ h. eq-eqb l.blocked 0 (L.idle (eqb-true l.holder 255 h))),
  make_every 32 (core_ok p l) (λ i k. ok_core p l i (L.core i)),
)
