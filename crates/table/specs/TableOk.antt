-- Document 01, "Well formed: empty, or obeying the table rules .. unused places zero", as facts of a table: `table_ok` tests just these.
use Rattle.std.specs.Prelude.{ℕ, ◌<◌, ◌≤◌, ◌≡◌}
use Rattle.table.specs.declared.Sizes.{Sizes}
use Rattle.table.specs.declared.Table.{Table}
use Rattle.table.specs.Numbers.{max_cores, max_gangs, max_threads, top_priority, max_budget}
use Rattle.table.specs.Order.{gang_of, core_of, priority_of}
use Rattle.table.specs.Occurs.{Place}
use Rattle.table.specs.Rules.{budget_of}

-- nothing at all, or cores and gangs, and room for all
pub data RightSizes (n : Sizes) : Type 0 where
  empty : n.cores ≡ 0 → n.gangs ≡ 0 → n.threads ≡ 0 → RightSizes n
  filled : 1 ≤ n.cores → n.cores ≤ max_cores → 1 ≤ n.gangs → n.gangs ≤ max_gangs → n.threads ≤ max_threads → RightSizes n

pub record TableOk (b : Table) : Type 0 where
  pub sizes : RightSizes b.sizes
  pub priority_low : (g : ℕ) → g < b.sizes.gangs → 1 ≤ priority_of b.priority g
  pub priority_high : (g : ℕ) → g < b.sizes.gangs → priority_of b.priority g ≤ top_priority
  pub budget_high : (g : ℕ) → g < b.sizes.gangs → budget_of b.budget g ≤ max_budget
  pub priority_zero : (g : ℕ) → b.sizes.gangs ≤ g → g < max_gangs → priority_of b.priority g ≡ 0
  pub budget_zero : (g : ℕ) → b.sizes.gangs ≤ g → g < max_gangs → budget_of b.budget g ≡ 0
  pub gang_there : (t : ℕ) → t < b.sizes.threads → gang_of b.gang t < b.sizes.gangs
  pub core_there : (t : ℕ) → t < b.sizes.threads → core_of b.core t < b.sizes.cores
  pub gang_zero : (t : ℕ) → b.sizes.threads ≤ t → t < max_threads → gang_of b.gang t ≡ 0
  pub core_zero : (t : ℕ) → b.sizes.threads ≤ t → t < max_threads → core_of b.core t ≡ 0
  pub distinct : (g h : ℕ) → g < b.sizes.gangs → h < b.sizes.gangs → priority_of b.priority g ≡ priority_of b.priority h → g ≡ h
  pub manned : (g : ℕ) → g < b.sizes.gangs → Place b.gang b.sizes.threads g
