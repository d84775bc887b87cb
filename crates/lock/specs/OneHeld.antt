-- A promise on `lock_of r o`, `lock_now l` or `lock_seen l` allows one holder with its core sets, and one list of occupants: those of `Lock::held`,
-- `Held::owe`, `LockMut::serve`, `LockMut::owe` and `Lock::lent`.
use Rattle.std.specs.Prelude.{ℕ, List, ◌≡◌}
use Rattle.std.proofs.Common.{sym, ◌∙◌}
use Rattle.lock.specs.declared.Held.{Held}
use Rattle.lock.specs.declared.Lock.{Lock}
use Rattle.lock.specs.declared.LockMut.{LockMut}
use Rattle.lock.specs.declared.LockRef.{LockRef}
use Rattle.lock.specs.Lent.{lock_now, lock_seen}
use Rattle.lock.specs.Serve.{lock_of}

-- a lock's holder and core sets
abbrev held_of : Lock → Held
held_of l = record { holder = l.holder; locked = l.locked; blocked = l.blocked; owing = l.owing }

pub one_held : (d : Lock) {r q : Held} {o p : List ℕ} → lock_of r o ≡ d → lock_of q p ≡ d → (r ≡ q) × (o ≡ p)
one_held d {r} {q} {o} {p} e f = (λ i. held_of (same i), λ i. (same i).occupant)
  where
    same : lock_of r o ≡ lock_of q p
    same = e ∙ sym f

-- the same of occupants that are lent
pub one_lent : (d : Lock) (l m : LockMut) → lock_now l ≡ d → lock_now m ≡ d → (l.held ≡ m.held) × (l.occupant.now ≡ m.occupant.now)
one_lent d l m = one_held d

pub one_lock_seen : (d : Lock) (l m : LockRef) → lock_seen l ≡ d → lock_seen m ≡ d → (l.held ≡ m.held) × (l.occupant.now ≡ m.occupant.now)
one_lock_seen d l m = one_held d
