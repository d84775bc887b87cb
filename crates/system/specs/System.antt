-- Document 01, "The system and its events": what a system says of its threads, cores and gangs.
use Rattle.std.specs.Prelude.{ℕ, Bool, List, get_or, replicate}
use Rattle.ledger.specs.Releases.{empty_ledger}
use Rattle.ledger.specs.declared.Ledger.{Ledger}
use Rattle.lock.specs.Serve.{free_lock}
use Rattle.lock.specs.declared.Lock.{Lock}
use Rattle.table.specs.declared.Table.{Table}
use Rattle.table.specs.Numbers.{finished, max_cores, max_threads}
use Rattle.table.specs.Order.{gang_of, core_of, Lineup, lineup_of, ahead, first_ready}
use Rattle.table.specs.Rules.{empty_table}
use Rattle.system.specs.declared.System.{System}
use Rattle.state.specs.Threads.{is_running}

-- a table's system before any event: "Each thread is finished (at first)"
abbrev pub fresh_system : Table → System
fresh_system b = record {
  table = b;
  state = replicate max_threads finished;
  ledger = empty_ledger;
  lock = free_lock;
  kept = replicate max_cores 0;
}

-- "the empty system, with no cores, gangs or threads"
abbrev pub empty_system : System
empty_system = fresh_system empty_table

-- thread t's state, core and gang
abbrev pub state_in : System → ℕ → ℕ
state_in s t = get_or s.state t 0

abbrev pub core_in : System → ℕ → ℕ
core_in s t = core_of s.table.core t

abbrev pub gang_in : System → ℕ → ℕ
gang_in s t = gang_of s.table.gang t

-- core c's occupant, 255 for none
abbrev pub occupant_in : System → ℕ → ℕ
occupant_in s c = get_or s.lock.occupant c 255

-- core c's kept count
abbrev pub kept_in : System → ℕ → ℕ
kept_in s c = get_or s.kept c 0

-- the number of gang g's last release
abbrev pub number_in : System → ℕ → ℕ
number_in s g = get_or s.ledger.number g 0

-- thread t is running
abbrev pub running : System → ℕ → Bool
running s t = is_running s.state s.table.core s.lock.occupant t

-- what the order of its gangs and of its ready threads goes by
abbrev pub lineup_in : System → Lineup
lineup_in s = lineup_of s.table s.state

-- core c's first ready thread, 255 for none
abbrev pub first_in : System → ℕ → ℕ
first_in s c = first_ready (lineup_in s) c

-- gang g is ahead of gang h
abbrev pub ahead_in : System → ℕ → ℕ → Bool
ahead_in s g h = ahead (lineup_in s) g h

-- the system with another part
abbrev pub with_state : System → List ℕ → System
with_state s x = record { table = s.table; state = x; ledger = s.ledger; lock = s.lock; kept = s.kept }

abbrev pub with_ledger : System → Ledger → System
with_ledger s x = record { table = s.table; state = s.state; ledger = x; lock = s.lock; kept = s.kept }

abbrev pub with_lock : System → Lock → System
with_lock s x = record { table = s.table; state = s.state; ledger = s.ledger; lock = x; kept = s.kept }

abbrev pub with_kept : System → List ℕ → System
with_kept s x = record { table = s.table; state = s.state; ledger = s.ledger; lock = s.lock; kept = x }
