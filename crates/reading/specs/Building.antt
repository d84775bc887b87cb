-- A table under construction: well formed but for its end, where there must be cores and gangs, and a thread of each gang.
use Rattle.std.specs.Prelude.{ℕ, ◌<◌, ◌≤◌, ◌≡◌}
use Rattle.table.specs.declared.Table.{Table}
use Rattle.table.specs.Numbers.{max_cores, max_gangs, max_threads, top_priority, max_budget}
use Rattle.table.specs.Order.{priority_of}
use Rattle.reading.specs.Column.{Column}

-- the rule of each column: "Priority 1 to 99", "Budget 0 to 1,000,000", a gang and a core of the table
abbrev pub Priority : ℕ → Type 0
Priority p = (1 ≤ p) × (p ≤ top_priority)

abbrev pub Budget : ℕ → Type 0
Budget m = m ≤ max_budget

abbrev pub Below : ℕ → ℕ → Type 0
Below n x = x < n

pub record Building (b : Table) : Type 0 where
  pub cores_room : b.sizes.cores ≤ max_cores
  pub gangs_room : b.sizes.gangs ≤ max_gangs
  pub threads_room : b.sizes.threads ≤ max_threads
  pub priorities : Column Priority max_gangs b.sizes.gangs b.priority
  pub budgets : Column Budget max_gangs b.sizes.gangs b.budget
  pub gang_column : Column (Below b.sizes.gangs) max_threads b.sizes.threads b.gang
  pub core_column : Column (Below b.sizes.cores) max_threads b.sizes.threads b.core
  pub distinct : (g h : ℕ) → g < b.sizes.gangs → h < b.sizes.gangs → priority_of b.priority g ≡ priority_of b.priority h → g ≡ h
