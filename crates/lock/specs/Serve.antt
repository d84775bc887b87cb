-- SERVE, sentence by sentence as document 01 has it: "SERVE core c, owing or not, in this order", (a), (b), (c).
use Rattle.std.specs.Prelude.{ℕ, Bool, cond, List, eqb, ltb, set, replicate}
use Rattle.std.specs.Int.Bits.{bit_or}
use Rattle.coreset.specs.Set.{with_core, without_core, within_width}
use Rattle.lock.specs.declared.Held.{Held}
use Rattle.lock.specs.declared.Lock.{Lock}

-- the lock of a holder and core sets, and of the occupants
abbrev pub lock_of : Held → List ℕ → Lock
lock_of h o = record { holder = h.holder; locked = h.locked; blocked = h.blocked; owing = h.owing; occupant = o }

-- a fresh system's lock is free, with no core locked, blocked or owing and no occupant
abbrev pub free_lock : Lock
free_lock = record { holder = 255; locked = 0; blocked = 0; owing = 0; occupant = replicate 32 255 }

-- the lock with other owing cores
abbrev pub with_owing : Lock → ℕ → Lock
with_owing l m = record { holder = l.holder; locked = l.locked; blocked = l.blocked; owing = m; occupant = l.occupant }

-- "its core owes", or "their cores owe": core c is one of them; past the 32 cores there is none
abbrev pub owe_of : Lock → ℕ → Lock
owe_of l c = with_owing l (within_width 32 l.owing c)

-- ---- step (a)

-- "c no longer owes and is no longer blocked"
abbrev pub unmarked_of : Lock → ℕ → Lock
unmarked_of l c = record {
  holder = l.holder;
  locked = l.locked;
  blocked = without_core l.blocked c;
  owing = without_core l.owing c;
  occupant = l.occupant;
}

-- ---- step (b)

-- "If c was locked it is unlocked", and "c has no occupant"
abbrev pub vacated_of : Lock → ℕ → Lock
vacated_of l c = record {
  holder = l.holder;
  locked = without_core l.locked c;
  blocked = l.blocked;
  owing = l.owing;
  occupant = set l.occupant c 255;
}

-- "the lock is free, every blocked core owes and none is blocked"
abbrev pub freed_of : Lock → Lock
freed_of l = record {
  holder = 255;
  locked = l.locked;
  blocked = 0;
  owing = bit_or l.owing l.blocked;
  occupant = l.occupant;
}

-- "if no core is locked now", that
unfoldable pub settled_of : Lock → Lock
settled_of l = cond (eqb l.locked 0) (freed_of l) l

-- step (b), whole: c gives up the lock, whatever its first ready thread t, or 255, and that thread's gang g
unfoldable pub left_of : Lock → ℕ → ℕ → ℕ → Lock
left_of l c t g = settled_of (vacated_of l c)

-- ---- step (c)

-- "its gang holds it, c is locked, the thread is occupant": thread t of gang g
abbrev pub locked_for : Lock → ℕ → ℕ → ℕ → Lock
locked_for l c t g = record {
  holder = g;
  locked = with_core l.locked c;
  blocked = l.blocked;
  owing = l.owing;
  occupant = set l.occupant c t;
}

-- "every locked core owes and is unlocked (its occupant stays until it is served)"
abbrev pub displaced_of : Lock → Lock
displaced_of l = record {
  holder = l.holder;
  locked = 0;
  blocked = l.blocked;
  owing = bit_or l.owing l.locked;
  occupant = l.occupant;
}

-- "c is blocked"
abbrev pub blocked_of : Lock → ℕ → Lock
blocked_of l c = record {
  holder = l.holder;
  locked = l.locked;
  blocked = with_core l.blocked c;
  owing = l.owing;
  occupant = l.occupant;
}

-- "Lock free", "Same gang", "Higher priority than the holder", "Lower", for thread t of gang g, which is ahead of the holder where a
unfoldable pub claimed_of : Lock → ℕ → ℕ → ℕ → Bool → Lock
claimed_of l c t g a =
    cond (eqb l.holder 255) (locked_for l c t g)
    (cond (eqb l.holder g) (locked_for l c t g)
    (cond a (locked_for (displaced_of l) c t g)
    (blocked_of l c)))

-- "Take c's first ready thread", t. "None: done"
unfoldable pub admitted_of : Lock → ℕ → ℕ → ℕ → Bool → Lock
admitted_of l c t g a = cond (eqb t 255) l (claimed_of l c t g a)

-- ---- the three steps, where t is c's first ready thread, or 255, and g its gang

-- SERVE c, where `ahead h` says whether g is ahead of gang h: step (c) asks for the holder that (b) leaves
unfoldable pub serve_by : (ℕ → Bool) → Lock → ℕ → ℕ → ℕ → Lock
serve_by ahead l c t g =
    let m = left_of (unmarked_of l c) c t g in
    admitted_of m c t g (ahead m.holder)

-- SERVE c, where a says whether g is ahead of the holder; past the 32 cores there is none to serve
unfoldable pub serve_of : Lock → ℕ → ℕ → ℕ → Bool → Lock
serve_of l c t g a = cond (ltb c 32) (serve_by (λ (h : ℕ). a) l c t g) l
