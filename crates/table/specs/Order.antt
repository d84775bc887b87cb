-- Document 01: "A core's first ready thread is that of highest priority among the ready threads pinned there; among equals, the lowest
-- thread number." Each rule is said over the lists that its code is lent, whatever their lengths (past the end stands 0), and then of a
-- line-up, which holds them all.
use Rattle.std.specs.Prelude.{ℕ, ◌<◌, ◌≤◌, Bool, true, false, cond, ◌&&◌, ◌≡◌, List, eqb, ltb, get_or}
use Rattle.pick.specs.Pick.{pick_below}
use Rattle.table.specs.declared.Table.{Table}
use Rattle.table.specs.Numbers.{ready}

-- thread t's gang
abbrev pub gang_of : List ℕ → ℕ → ℕ
gang_of gang t = get_or gang t 0

-- the core that thread t is pinned to
abbrev pub core_of : List ℕ → ℕ → ℕ
core_of core t = get_or core t 0

-- gang g's priority
abbrev pub priority_of : List ℕ → ℕ → ℕ
priority_of priority g = get_or priority g 0

-- ---- over lists

-- "Priority .. larger is higher": gang g is ahead of gang h
unfoldable pub ahead_by : (priority : List ℕ) → ℕ → ℕ → Bool
ahead_by priority g h = ltb (priority_of priority h) (priority_of priority g)

-- "the ready threads pinned there": thread t is ready, and pinned to core c
unfoldable pub stands_at : (state core : List ℕ) → ℕ → ℕ → Bool
stands_at state core c t = eqb (get_or state t 0) ready && eqb (core_of core t) c

-- "highest priority ..; among equals, the lowest thread number": thread t comes before thread u
unfoldable pub before_by : (gang priority : List ℕ) → ℕ → ℕ → Bool
before_by gang priority t u =
    cond (ahead_by priority (gang_of gang t) (gang_of gang u)) true (cond (ahead_by priority (gang_of gang u) (gang_of gang t)) false (ltb t u))

-- ---- of a line-up

-- what the order of gangs and the order of ready threads go by
pub record Lineup : Type 0 where
  -- how many threads there are, and each one's state, core and gang
  pub threads : ℕ
  pub state : List ℕ
  pub core : List ℕ
  pub gang : List ℕ
  -- each gang's priority
  pub priority : List ℕ

abbrev pub lineup : (threads : ℕ) (state core gang priority : List ℕ) → Lineup
lineup threads state core gang priority = record { threads = threads; state = state; core = core; gang = gang; priority = priority }

-- a table's threads and gangs, with the threads' states
abbrev pub lineup_of : Table → (state : List ℕ) → Lineup
lineup_of b state = lineup b.sizes.threads state b.core b.gang b.priority

-- gang g is ahead of gang h
abbrev pub ahead : Lineup → ℕ → ℕ → Bool
ahead L g h = ahead_by L.priority g h

-- thread t is ready, and pinned to core c
abbrev pub standing : Lineup → ℕ → ℕ → Bool
standing L c t = stands_at L.state L.core c t

-- thread t comes before thread u
abbrev pub before : Lineup → ℕ → ℕ → Bool
before L t u = before_by L.gang L.priority t u

-- "A core's first ready thread": core c's, 255 for none
unfoldable pub first_ready : Lineup → ℕ → ℕ
first_ready L c = pick_below (standing L c) (before L) L.threads

-- thread r is, of the ready threads pinned to core c, one of highest priority and, among equals, of the lowest number; or there is none, and r is 255
pub record HighestReady (L : Lineup) (c r : ℕ) : Type 0 where
  pub none : r ≡ 255 → (u : ℕ) → u < L.threads → get_or L.state u 0 ≡ ready → core_of L.core u ≡ c → ⊥
  pub inside : (r ≡ 255 → ⊥) → r < L.threads
  pub is_ready : (r ≡ 255 → ⊥) → get_or L.state r 0 ≡ ready
  pub pinned : (r ≡ 255 → ⊥) → core_of L.core r ≡ c
  pub highest : (r ≡ 255 → ⊥) → (u : ℕ) → u < L.threads → get_or L.state u 0 ≡ ready → core_of L.core u ≡ c
      → priority_of L.priority (gang_of L.gang u) ≤ priority_of L.priority (gang_of L.gang r)
  pub lowest : (r ≡ 255 → ⊥) → (u : ℕ) → u < L.threads → get_or L.state u 0 ≡ ready → core_of L.core u ≡ c
      → priority_of L.priority (gang_of L.gang u) ≡ priority_of L.priority (gang_of L.gang r) → r ≤ u
