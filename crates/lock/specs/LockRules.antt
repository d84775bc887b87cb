-- Document 01, "Well formed", of the lock: a test in named parts, one for each clause.
use Rattle.std.specs.Prelude.{ℕ, Bool, cond, not, ◌&&◌, List, eqb, ltb, get_or}
use Rattle.std.specs.Int.Bits.{bit_or}
use Rattle.coreset.specs.Set.{has}
use Rattle.ranges.specs.Range.{every}
use Rattle.lock.specs.declared.Lock.{Lock}
use Rattle.ranges.specs.Range.{implies}

-- what the lock is held against: how many cores, threads and gangs there are, and each thread's core and gang
pub record Pins : Type 0 where
  pub cores : ℕ
  pub threads : ℕ
  pub gangs : ℕ
  pub core : List ℕ
  pub gang : List ℕ

abbrev pub pins : ℕ → ℕ → ℕ → List ℕ → List ℕ → Pins
pins cores threads gangs core gang = record { cores = cores; threads = threads; gangs = gangs; core = core; gang = gang }

-- the core that thread t is pinned to
abbrev pub pin_core : Pins → ℕ → ℕ
pin_core p t = get_or p.core t 0

-- thread t's gang
abbrev pub pin_gang : Pins → ℕ → ℕ
pin_gang p t = get_or p.gang t 0

-- core d's occupant, 255 for none
abbrev pub occupant_of : Lock → ℕ → ℕ
occupant_of l d = get_or l.occupant d 255

-- the cores that some core set names
abbrev pub named : Lock → ℕ
named l = bit_or (bit_or l.locked l.blocked) l.owing

-- ---- the whole lock

-- "held exactly when a core is locked", by a gang, "holder 255 for none"
unfoldable pub held_ok : ℕ → ℕ → ℕ → Bool
held_ok gangs holder locked = cond (eqb holder 255) (eqb locked 0) (not (eqb locked 0) && ltb holder gangs)

-- "no core blocked while the lock is free"
unfoldable pub idle_ok : ℕ → ℕ → Bool
idle_ok holder blocked = implies (eqb holder 255) (eqb blocked 0)

-- ---- one core

-- "core sets name only existing cores": core c, where x says whether one names it
unfoldable pub sets_ok : ℕ → ℕ → Bool → Bool
sets_ok cores c x = implies x (ltb c cores)

-- "occupants are pinned to their core", "255 for none": core c with the occupant t, which is pinned to `home`
unfoldable pub pinned_ok : ℕ → ℕ → ℕ → ℕ → ℕ → Bool
pinned_ok cores threads c t home = implies (not (eqb t 255)) (ltb t threads && eqb home c && ltb c cores)

-- "each locked core's occupant the holder's": the occupant t of gang g, of a core that is locked where x
unfoldable pub ours_ok : ℕ → Bool → ℕ → ℕ → Bool
ours_ok holder x t g = implies x (not (eqb t 255) && eqb g holder)

-- what is asked of each core
unfoldable pub core_ok : Pins → Lock → ℕ → Bool
core_ok p l c =
    sets_ok p.cores c (has (named l) c)
    && pinned_ok p.cores p.threads c (occupant_of l c) (pin_core p (occupant_of l c))
    && ours_ok l.holder (has l.locked c) (occupant_of l c) (pin_gang p (occupant_of l c))

-- ---- all of it

unfoldable pub cores_ok : Pins → Lock → Bool
cores_ok p l = every 32 (core_ok p l)

-- a well-formed lock
unfoldable pub lock_ok : Pins → Lock → Bool
lock_ok p l = held_ok p.gangs l.holder l.locked && idle_ok l.holder l.blocked && cores_ok p l
