-- What is shown of a system, as facts in named parts: how many places its lists have, and that it is well formed.
use Rattle.std.specs.Prelude.{ℕ, ◌≤◌, ◌≡◌, length}
use Rattle.ledger.specs.Sized.{Sized}
use Rattle.ledger.specs.Releases.{last_number}
use Rattle.ledger.specs.WellFormed.{LedgerOk}
use Rattle.lock.specs.LockOk.{LockOk, Masks}
use Rattle.state.specs.Rules.{StatesOk, CountsOk}
use Rattle.table.specs.declared.Table.{Table}
use Rattle.table.specs.Numbers.{max_cores, max_gangs, max_threads}
use Rattle.table.specs.TableOk.{TableOk}
use Rattle.system.specs.declared.System.{System}
use Rattle.system.specs.System.{number_in}
use Rattle.system.specs.WellFormed.{pins_of}

-- ---- what the types say of a system and its value alone does not

-- "room for 128 threads" and 32 gangs: a table's lists
pub record TableShaped (b : Table) : Type 0 where
  pub priority_size : length b.priority ≡ max_gangs
  pub budget_size : length b.budget ≡ max_gangs
  pub gang_size : length b.gang ≡ max_threads
  pub core_size : length b.core ≡ max_threads

pub record Shaped (s : System) : Type 0 where
  pub table_shaped : TableShaped s.table
  pub state_size : length s.state ≡ max_threads
  pub ledger_sized : Sized s.ledger
  pub masks : Masks 32 s.lock
  pub occupant_size : length s.lock.occupant ≡ max_cores
  pub kept_size : length s.kept ≡ max_cores
  -- a u32
  pub number_fits : (g : ℕ) → number_in s g ≤ last_number

-- ---- document 01, "Well formed": `well_formed` tests just these

pub record WellFormed (s : System) : Type 0 where
  -- "empty, or obeying the table rules"
  pub table : TableOk s.table
  -- "Each thread is finished .., ready or waiting"; "unused places zero"
  pub states : StatesOk s.table.sizes.threads s.state
  -- "counts at most 1,000,000"; "unused places zero"
  pub counts : CountsOk s.table.sizes.cores s.kept
  -- "job number at most the release number and served plus skipped equal to it; unused places zero"
  pub releases : LedgerOk s.table.sizes.gangs s.ledger
  -- "core sets name only existing cores; occupants are pinned to their core; held exactly when a core is locked; .."
  pub lock : LockOk (pins_of s) s.lock
