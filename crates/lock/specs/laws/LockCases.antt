-- What the test of a lock comes to where a clause of it fails, and where all hold: what the code's branches go by.
use Rattle.std.specs.Prelude.{ℕ, ◌<◌, true, false, ◌&&◌, ◌≡◌}
use Rattle.std.proofs.Math.Bool.{and-false}
use Rattle.coreset.specs.Set.{has}
use Rattle.ranges.specs.laws.Range.{make_every, not_every}
use Rattle.lock.specs.declared.Lock.{Lock}
use Rattle.lock.specs.LockRules.{
  Pins,
  pin_core,
  pin_gang,
  occupant_of,
  named,
  held_ok,
  idle_ok,
  sets_ok,
  pinned_ok,
  ours_ok,
  core_ok,
  cores_ok,
  lock_ok,
}

-- ---- core c with the occupant t

module _ (p : Pins) (l : Lock) (c t : ℕ) (e : t ≡ occupant_of l c) where
  pub core_not_named : sets_ok p.cores c (has (named l) c) ≡ false → core_ok p l c ≡ false
  unfolding core_ok
  core_not_named f = rw f

  pub core_not_pinned : pinned_ok p.cores p.threads c t (pin_core p t) ≡ false → core_ok p l c ≡ false
  unfolding core_ok
  core_not_pinned f = rw (← e, f, and-false (sets_ok p.cores c (has (named l) c)))

  pub core_not_ours : ours_ok l.holder (has l.locked c) t (pin_gang p t) ≡ false → core_ok p l c ≡ false
  unfolding core_ok
  core_not_ours f = rw (← e, f, and-false _)

  pub core_all : sets_ok p.cores c (has (named l) c) ≡ true → pinned_ok p.cores p.threads c t (pin_core p t) ≡ true
      → ours_ok l.holder (has l.locked c) t (pin_gang p t) ≡ true → core_ok p l c ≡ true
  unfolding core_ok
  core_all f g h = rw (← e, f, g, h)

module _ (p : Pins) (l : Lock) where
  pub lock_not_held : held_ok p.gangs l.holder l.locked ≡ false → lock_ok p l ≡ false
  unfolding lock_ok
  lock_not_held e = rw e

  pub lock_not_idle : idle_ok l.holder l.blocked ≡ false → lock_ok p l ≡ false
  unfolding lock_ok
  lock_not_idle e = rw (e, and-false (held_ok p.gangs l.holder l.locked))

  pub lock_not_core : (c : ℕ) → c < 32 → core_ok p l c ≡ false → lock_ok p l ≡ false
  unfolding lock_ok cores_ok
  lock_not_core c h e =
      rw (not_every 32 (core_ok p l) c h e) (and-false (held_ok p.gangs l.holder l.locked && idle_ok l.holder l.blocked))

  pub lock_all : held_ok p.gangs l.holder l.locked ≡ true → idle_ok l.holder l.blocked ≡ true
      → ((c : ℕ) → c < 32 → core_ok p l c ≡ true) → lock_ok p l ≡ true
  unfolding lock_ok cores_ok
  lock_all h i e = rw (h, i, make_every 32 (core_ok p l) e)
