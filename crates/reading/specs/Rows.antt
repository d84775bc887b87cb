-- Document 01's table of refusal numbers, of one more record of a table and of a table's end: each row's cases are constructors, and each says too
-- that no earlier number applies ("then 4, 5, 6, 7"). Beside them, what an accepted record makes of the table.
use Rattle.std.specs.Prelude.{ℕ, ◌≤◌, ◌<◌, ◌⊎◌, ◌≡◌}
use Rattle.table.specs.declared.Table.{Table}
use Rattle.table.specs.Numbers.{max_cores, max_gangs, max_threads, top_priority, max_budget}
use Rattle.table.specs.Occurs.{Place}
use Rattle.wire.specs.declared.refusal.Refusal.{Refusal}
use Rattle.wire.specs.declared.refusal.Refusal.TheVariants.{NotCoresFirst, TooMany, OutOfRange, PriorityTaken, Unfinished}
use Rattle.wire.specs.declared.table_record.TableRecord.{TableRecord}
use Rattle.wire.specs.declared.table_record.TableRecord.TheVariants as put
use Rattle.reading.specs.Verdict.{Verdict, Accepted, Refused}
use Rattle.reading.specs.Building.{Priority, Budget}
use Rattle.reading.specs.Taken.{Taken, record_refused, record_accepted, with_cores, with_gang, with_thread}

-- a table has no cores before its CORES record, and some after
abbrev pub NoCores : Table → Type 0
NoCores b = b.sizes.cores ≡ 0

abbrev pub SomeCores : Table → Type 0
SomeCores b = 1 ≤ b.sizes.cores

-- "out of range" of 1 to the highest
abbrev pub NotOneTo : ℕ → ℕ → Type 0
NotOneTo high x = (x ≡ 0) ⊎ (high < x)

-- a thread of gang g, and a gang of priority p, among those read so far
abbrev pub ThreadRead : Table → ℕ → Type 0
ThreadRead b g = Place b.gang b.sizes.threads g

abbrev pub PriorityRead : Table → ℕ → Type 0
PriorityRead b p = Place b.priority b.sizes.gangs p

-- a record where b is the table so far, and the refusal that it is given; d is the budget of a short GANG
pub data RefusesRecord (d : ℕ) (b : Table) : TableRecord → Refusal → Type 0 where
  -- 4, "first table record not CORES, or a second CORES"
  second_cores : {n : ℕ} → SomeCores b → RefusesRecord d b (put.Cores n) NotCoresFirst
  gang_too_soon : {p m : ℕ} → NoCores b → RefusesRecord d b (put.Gang p m) NotCoresFirst
  thread_too_soon : {g c : ℕ} → NoCores b → RefusesRecord d b (put.Thread g c) NotCoresFirst
  -- 5, "a 33rd gang or 129th thread"
  gang_too_many : {p m : ℕ} → SomeCores b → max_gangs ≤ b.sizes.gangs → RefusesRecord d b (put.Gang p m) TooMany
  thread_too_many : {g c : ℕ} → SomeCores b → max_threads ≤ b.sizes.threads → RefusesRecord d b (put.Thread g c) TooMany
  -- 6, "a count, priority, budget, number .. out of range or not in the table"
  bad_count : {n : ℕ} → NoCores b → NotOneTo max_cores n → RefusesRecord d b (put.Cores n) OutOfRange
  bad_priority : {p m : ℕ} → SomeCores b → b.sizes.gangs < max_gangs → NotOneTo top_priority p → RefusesRecord d b (put.Gang p m) OutOfRange
  bad_budget : {p m : ℕ} → SomeCores b → b.sizes.gangs < max_gangs → max_budget < m → RefusesRecord d b (put.Gang p m) OutOfRange
  gang_unread : {g c : ℕ} → SomeCores b → b.sizes.threads < max_threads → b.sizes.gangs ≤ g → RefusesRecord d b (put.Thread g c) OutOfRange
  core_absent : {g c : ℕ} → SomeCores b → b.sizes.threads < max_threads → b.sizes.cores ≤ c → RefusesRecord d b (put.Thread g c) OutOfRange
  -- 7, "priority already taken"
  taken_already : {p m : ℕ} → SomeCores b → b.sizes.gangs < max_gangs → Priority p → Budget m → PriorityRead b p
      → RefusesRecord d b (put.Gang p m) PriorityTaken
  -- "length 3 has no budget and means" d
  short_refused : {p : ℕ} {r : Refusal} → RefusesRecord d b (put.Gang p d) r → RefusesRecord d b (put.ShortGang p) r

-- any other record, and the table with it in place
pub data AcceptsRecord (d : ℕ) (b : Table) : TableRecord → Table → Type 0 where
  -- "CORES first and once", "1 to 32 cores"
  takes_cores : {n : ℕ} → NoCores b → 1 ≤ n → n ≤ max_cores → AcceptsRecord d b (put.Cores n) (with_cores b n)
  -- "1 to 32 gangs", "no two gangs equal"
  takes_gang : {p m : ℕ} → SomeCores b → b.sizes.gangs < max_gangs → Priority p → Budget m → (PriorityRead b p → ⊥)
      → AcceptsRecord d b (put.Gang p m) (with_gang b p m)
  takes_short : {p : ℕ} {more : Table} → AcceptsRecord d b (put.Gang p d) more → AcceptsRecord d b (put.ShortGang p) more
  -- "room for 128 threads", "a THREAD names a gang already read"
  takes_thread : {g c : ℕ} → SomeCores b → b.sizes.threads < max_threads → g < b.sizes.gangs → c < b.sizes.cores
      → AcceptsRecord d b (put.Thread g c) (with_thread b g c)

-- what the record comes to
pub data RecordWay (d : ℕ) (b : Table) (one : TableRecord) : Taken → Type 0 where
  record_bad : {r : Refusal} → RefusesRecord d b one r → RecordWay d b one (record_refused b r)
  record_good : {more : Table} → AcceptsRecord d b one more → RecordWay d b one (record_accepted more)

-- 8, "table ends without CORES, without a gang, or with a gang that has no thread"
pub data RefusesEnd (b : Table) : Refusal → Type 0 where
  ends_without_cores : NoCores b → RefusesEnd b Unfinished
  ends_without_gang : b.sizes.gangs ≡ 0 → RefusesEnd b Unfinished
  ends_without_thread : (g : ℕ) → g < b.sizes.gangs → (ThreadRead b g → ⊥) → RefusesEnd b Unfinished

-- or it may end there
pub record AcceptsEnd (b : Table) : Type 0 where
  pub has_cores : SomeCores b
  pub has_gang : 1 ≤ b.sizes.gangs
  pub all_manned : (g : ℕ) → g < b.sizes.gangs → ThreadRead b g

pub data EndWay (b : Table) : Verdict → Type 0 where
  end_bad : {r : Refusal} → RefusesEnd b r → EndWay b (Refused r)
  end_good : AcceptsEnd b → EndWay b Accepted
