-- Document 01, "CORES first and once, then GANG and THREAD mixed; a THREAD names a gang already read": the rules on one more record, as a value.
-- In the order of "Refusal numbers": 4, 5, 6, 7.
use Rattle.std.specs.Prelude.{ℕ, ◌+◌, Bool, cond, ◌&&◌, eqb, ltb, leb, set}
use Rattle.table.specs.declared.Table.{Table}
use Rattle.table.specs.Numbers.{max_cores, max_gangs, max_threads, top_priority, max_budget}
use Rattle.table.specs.Occurs.{occurs}
use Rattle.table.specs.Rules.{within}
use Rattle.wire.specs.Refusal.{number_of}
use Rattle.wire.specs.declared.refusal.Refusal.{Refusal}
use Rattle.wire.specs.declared.refusal.Refusal.TheVariants.{NotCoresFirst, TooMany, OutOfRange, PriorityTaken}
use Rattle.wire.specs.declared.table_record.TableRecord.{TableRecord}
use Rattle.wire.specs.declared.table_record.TableRecord.TheVariants as put
use Rattle.reading.specs.Verdict.{Verdict, Accepted, Refused}

-- the table with a record in it, or as it came where the record is refused
pub record Taken : Type 0 where
  pub table : Table
  pub verdict : Verdict

-- the table as a record leaves it, beside the verdict on the record
abbrev pub taken_of : Table → Verdict → Taken
taken_of b verdict = record { table = b; verdict = verdict }

-- the number of a verdict: 0, or the refusal's
abbrev pub verdict_number : Verdict → ℕ
verdict_number Accepted = 0
verdict_number (Refused refusal) = number_of refusal

-- a refused record leaves the table as it came
abbrev pub record_refused : Table → Refusal → Taken
record_refused b refusal = record { table = b; verdict = Refused refusal }

abbrev pub record_accepted : Table → Taken
record_accepted b = record { table = b; verdict = Accepted }

-- ---- the table with one record more

abbrev pub with_cores : Table → ℕ → Table
with_cores b n = record {
  sizes = record { cores = n; gangs = b.sizes.gangs; threads = b.sizes.threads };
  priority = b.priority;
  budget = b.budget;
  gang = b.gang;
  core = b.core;
}

-- gangs and threads are "numbered from 0"
abbrev pub with_gang : Table → ℕ → ℕ → Table
with_gang b p m = record {
  sizes = record { cores = b.sizes.cores; gangs = b.sizes.gangs + 1; threads = b.sizes.threads };
  priority = set b.priority b.sizes.gangs p;
  budget = set b.budget b.sizes.gangs m;
  gang = b.gang;
  core = b.core;
}

abbrev pub with_thread : Table → ℕ → ℕ → Table
with_thread b g c = record {
  sizes = record { cores = b.sizes.cores; gangs = b.sizes.gangs; threads = b.sizes.threads + 1 };
  priority = b.priority;
  budget = b.budget;
  gang = set b.gang b.sizes.threads g;
  core = set b.core b.sizes.threads c;
}

-- ---- not 6: "a count, priority, budget, number .. out of range or not in the table"

-- "1 to 32 cores"
abbrev pub count_fits : ℕ → Bool
count_fits n = within 1 n max_cores

-- "Priority 1 to 99"; "Budget 0 to 1,000,000"
unfoldable pub gang_fits : ℕ → ℕ → Bool
gang_fits p m = within 1 p top_priority && leb m max_budget

-- "a THREAD names a gang already read", and a core of the table
unfoldable pub thread_fits : ℕ → ℕ → ℕ → ℕ → Bool
thread_fits g gangs c cores = ltb g gangs && ltb c cores

-- ---- one more record: a table has no cores before its CORES record, and some after

-- "a second CORES" is 4
unfoldable pub cores_taken : Table → ℕ → Taken
cores_taken b n =
    cond (eqb b.sizes.cores 0) (cond (count_fits n) (record_accepted (with_cores b n)) (record_refused b OutOfRange)) (record_refused b NotCoresFirst)

-- "first table record not CORES" is 4, "a 33rd gang" 5, "priority already taken" 7
unfoldable pub gang_taken : Table → ℕ → ℕ → Taken
gang_taken b p m =
    cond (eqb b.sizes.cores 0) (record_refused b NotCoresFirst)
    (cond (leb max_gangs b.sizes.gangs) (record_refused b TooMany)
    (cond (gang_fits p m) (cond (occurs b.priority b.sizes.gangs p) (record_refused b PriorityTaken) (record_accepted (with_gang b p m)))
    (record_refused b OutOfRange)))

-- "first table record not CORES" is 4, a "129th thread" 5
unfoldable pub thread_taken : Table → ℕ → ℕ → Taken
thread_taken b g c =
    cond (eqb b.sizes.cores 0) (record_refused b NotCoresFirst)
    (cond (leb max_threads b.sizes.threads) (record_refused b TooMany)
    (cond (thread_fits g b.sizes.gangs c b.sizes.cores) (record_accepted (with_thread b g c)) (record_refused b OutOfRange)))

-- d is what "length 3 has no budget" means
abbrev pub record_taken : ℕ → Table → TableRecord → Taken
record_taken d b (put.Cores n) = cores_taken b n
record_taken d b (put.Gang p m) = gang_taken b p m
record_taken d b (put.ShortGang p) = gang_taken b p d
record_taken d b (put.Thread g c) = thread_taken b g c
