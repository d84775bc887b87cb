-- A lock whose occupants are lent, to be read or to be written: the lock that they make with its holder and core sets.
use Rattle.std.specs.Prelude.{◌≡◌}
use Rattle.lock.specs.declared.Lock.{Lock}
use Rattle.lock.specs.declared.LockRef.{LockRef}
use Rattle.lock.specs.declared.LockMut.{LockMut}
use Rattle.lock.specs.declared.Pins as lent
use Rattle.lock.specs.Serve.{lock_of}
use Rattle.lock.specs.LockRules.{Pins, pins}

-- the lock of occupants lent for reading
abbrev pub lock_seen : LockRef → Lock
lock_seen l = lock_of l.held l.occupant.now

-- the lock of occupants lent for writing
abbrev pub lock_now : LockMut → Lock
lock_now l = lock_of l.held l.occupant.now

-- the occupants are in the place they were
abbrev pub SameLockPlaces : LockMut → LockMut → Type 0
SameLockPlaces l m = m.occupant.ghost_name ≡ l.occupant.ghost_name

-- what a lock is held against, of lists lent for reading
abbrev pub pins_seen : lent.Pins → Pins
pins_seen p = pins p.cores p.threads p.gangs p.core.now p.gang.now
