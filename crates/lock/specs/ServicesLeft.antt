-- How often a core may still be served, by four tests on the lock: the count that each service takes from.
use Rattle.std.specs.Prelude.{ℕ, Bool, true, false, cond, not, eqb}
use Rattle.std.specs.Int.Bits.{bit_and}
use Rattle.coreset.specs.Set.{has}
use Rattle.lock.specs.declared.Lock.{Lock}
use Rattle.lock.specs.World.{World, first_gang}

-- no locked core owes: from then on serving owing cores does not free the lock
unfoldable pub no_locked_owes : Lock → Bool
no_locked_owes l = eqb (bit_and l.locked l.owing) 0

-- d may still take the lock from h
unfoldable pub may_take : World → ℕ → ℕ → Bool
may_take W h d = cond (eqb (W.first d) 255) false (cond (eqb h 255) true (not (W.higher h (first_gang W d))))

-- z: no locked core owes. o: the core owes. k: it may still take the lock. x: it is locked
abbrev pub services_for : Bool → Bool → Bool → Bool → ℕ
services_for true true true x = 2
services_for true true false x = 1
services_for true false k true = 1
services_for true false k false = 0
services_for false true k x = 3
services_for false false k x = 2

-- how often core d may still be served, at most
unfoldable pub services_left : World → Lock → ℕ → ℕ
services_left W l d = services_for (no_locked_owes l) (has l.owing d) (may_take W l.holder d) (has l.locked d)
