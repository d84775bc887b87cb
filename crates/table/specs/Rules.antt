-- Document 01, "Well formed: empty, or obeying the table rules .. unused places zero", of a table: a test in five parts.
use Rattle.std.specs.Prelude.{ℕ, Bool, cond, not, ◌&&◌, List, eqb, ltb, leb, get_or, replicate}
use Rattle.ranges.specs.Range.{every}
use Rattle.table.specs.declared.Sizes.{Sizes}
use Rattle.table.specs.declared.Table.{Table}
use Rattle.table.specs.Numbers.{max_cores, max_gangs, max_threads, top_priority, max_budget}
use Rattle.table.specs.Order.{gang_of, core_of, priority_of}
use Rattle.table.specs.Occurs.{occurs}

-- gang g's budget
abbrev pub budget_of : List ℕ → ℕ → ℕ
budget_of budget g = get_or budget g 0

-- "the empty system, with no cores, gangs or threads": its table
abbrev pub empty_table : Table
empty_table = record {
  sizes = record { cores = 0; gangs = 0; threads = 0 };
  priority = replicate max_gangs 0;
  budget = replicate max_gangs 0;
  gang = replicate max_threads 0;
  core = replicate max_threads 0;
}

-- the table of these parts
abbrev pub table_of : Sizes → (priority budget gang core : List ℕ) → Table
table_of sizes priority budget gang core = record { sizes = sizes; priority = priority; budget = budget; gang = gang; core = core }

-- x is low to high
unfoldable pub within : ℕ → ℕ → ℕ → Bool
within low x high = leb low x && leb x high

-- "1 to 32 cores, 1 to 32 gangs, room for 128 threads"; or nothing at all
unfoldable pub sizes_ok : Sizes → Bool
sizes_ok n =
    cond (eqb n.cores 0) (eqb n.gangs 0 && eqb n.threads 0)
    (leb n.cores max_cores && within 1 n.gangs max_gangs && leb n.threads max_threads)

-- "Priority 1 to 99", "Budget 0 to 1,000,000"; "unused places zero"
unfoldable pub gang_ok : ℕ → ℕ → ℕ → ℕ → Bool
gang_ok g gangs priority budget =
    cond (ltb g gangs) (within 1 priority top_priority && leb budget max_budget) (eqb priority 0 && eqb budget 0)

abbrev pub gang_place : List ℕ → List ℕ → ℕ → ℕ → Bool
gang_place priority budget gangs g = gang_ok g gangs (priority_of priority g) (budget_of budget g)

unfoldable pub gangs_ok : List ℕ → List ℕ → ℕ → Bool
gangs_ok priority budget gangs = every max_gangs (gang_place priority budget gangs)

-- a thread's gang and core are "in the table"; "unused places zero"
unfoldable pub thread_ok : ℕ → ℕ → ℕ → ℕ → ℕ → ℕ → Bool
thread_ok t threads gang gangs core cores = cond (ltb t threads) (ltb gang gangs && ltb core cores) (eqb gang 0 && eqb core 0)

abbrev pub thread_place : List ℕ → List ℕ → Sizes → ℕ → Bool
thread_place gang core n t = thread_ok t n.threads (gang_of gang t) n.gangs (core_of core t) n.cores

unfoldable pub threads_ok : List ℕ → List ℕ → Sizes → Bool
threads_ok gang core n = every max_threads (thread_place gang core n)

-- "priority already taken", by one of the first n gangs
abbrev pub taken : List ℕ → ℕ → ℕ → Bool
taken priority n p = occurs priority n p

-- "no two gangs equal": no gang's priority is taken by a gang below it
unfoldable pub distinct : List ℕ → ℕ → Bool
distinct priority gangs = every gangs (λ g. not (taken priority g (priority_of priority g)))

-- no "gang that has no thread"
unfoldable pub manned : List ℕ → ℕ → ℕ → Bool
manned gang gangs threads = every gangs (occurs gang threads)

-- the five parts, of a table
abbrev pub sizes_hold : Table → Bool
sizes_hold b = sizes_ok b.sizes

abbrev pub gangs_hold : Table → Bool
gangs_hold b = gangs_ok b.priority b.budget b.sizes.gangs

abbrev pub threads_hold : Table → Bool
threads_hold b = threads_ok b.gang b.core b.sizes

abbrev pub distinct_hold : Table → Bool
distinct_hold b = distinct b.priority b.sizes.gangs

abbrev pub manned_hold : Table → Bool
manned_hold b = manned b.gang b.sizes.gangs b.sizes.threads

-- a well-formed table
unfoldable pub table_ok : Table → Bool
table_ok b = sizes_hold b && gangs_hold b && threads_hold b && distinct_hold b && manned_hold b
