-- The refusal numbers of a table: 1 to 3 from the record question, 4 to 7 from the rules on a record, and 8 at the end.
use Rattle.std.specs.Prelude.{ℕ, ◌≤◌, Bool, true, false, cond, List, eqb, leb, Ok}
use Rattle.std.proofs.Common.{arith}
use Rattle.table.specs.declared.Table.{Table}
use Rattle.table.specs.Numbers.{max_gangs, max_threads}
use Rattle.table.specs.Occurs.{occurs}
use Rattle.wire.specs.laws.Reader.{TableRecordIn, table_record_in}
use Rattle.wire.specs.Table.{next_table_record}
use Rattle.wire.specs.declared.refusal.Refusal.TheVariants.{NotCoresFirst, TooMany, OutOfRange, PriorityTaken}
use Rattle.wire.specs.NextTableRecord.{NextTableRecord}
use Rattle.wire.specs.NextTableRecord as found
use Rattle.wire.specs.declared.table_record.TableRecord.{TableRecord}
use Rattle.wire.specs.declared.table_record.TableRecord.TheVariants as put
use Rattle.reading.specs.Taken.{verdict_number, record_refused, record_accepted, with_cores, with_gang, with_thread, count_fits, gang_fits}
use Rattle.reading.specs.Taken.{thread_fits}
use Rattle.reading.specs.Taken.{cores_taken, gang_taken, thread_taken, record_taken}
use Rattle.reading.specs.Turn.{table_turn_with, table_turn}

-- ---- 4 to 7

module _ (b : Table) where
  cores_known : (n : ℕ) → verdict_number (cores_taken b n).verdict ≤ 7
  unfolding cores_taken
  cores_known n = go (eqb b.sizes.cores 0) (count_fits n)
    where
      go : (x y : Bool)
          → verdict_number
          (cond x (cond y (record_accepted (with_cores b n)) (record_refused b OutOfRange)) (record_refused b NotCoresFirst)).verdict ≤ 7
      go false y = omega arith
      go true false = omega arith
      go true true = omega arith

  gang_known : (p m : ℕ) → verdict_number (gang_taken b p m).verdict ≤ 7
  unfolding gang_taken
  gang_known p m = go (eqb b.sizes.cores 0) (leb max_gangs b.sizes.gangs) (gang_fits p m) (occurs b.priority b.sizes.gangs p)
    where
      go : (x y z t : Bool)
          → verdict_number (cond x (record_refused b NotCoresFirst) (cond y (record_refused b TooMany)
          (cond z (cond t (record_refused b PriorityTaken) (record_accepted (with_gang b p m))) (record_refused b OutOfRange)))).verdict
          ≤ 7
      go true y z t = omega arith
      go false true z t = omega arith
      go false false false t = omega arith
      go false false true true = omega arith
      go false false true false = omega arith

  thread_known : (g c : ℕ) → verdict_number (thread_taken b g c).verdict ≤ 7
  unfolding thread_taken
  thread_known g c = go (eqb b.sizes.cores 0) (leb max_threads b.sizes.threads) (thread_fits g b.sizes.gangs c b.sizes.cores)
    where
      go : (x y z : Bool)
          → verdict_number (cond x (record_refused b NotCoresFirst) (cond y (record_refused b TooMany)
          (cond z (record_accepted (with_thread b g c)) (record_refused b OutOfRange)))).verdict
          ≤ 7
      go true y z = omega arith
      go false true z = omega arith
      go false false false = omega arith
      go false false true = omega arith

  taken_known : (d : ℕ) (one : TableRecord) → verdict_number (record_taken d b one).verdict ≤ 7
  taken_known d (put.Cores n) = cores_known n
  taken_known d (put.Gang p m) = gang_known p m
  taken_known d (put.ShortGang p) = gang_known p d
  taken_known d (put.Thread g c) = thread_known g c

-- ---- a turn's: 1 to 3 are the record question's

pub turn_known : (d : ℕ) (b : Table) (s : List ℕ) → verdict_number (table_turn d b s).taken.verdict ≤ 7
unfolding table_turn
turn_known d b s = go (next_table_record s) (table_record_in s)
  where
    go : (f : NextTableRecord) → TableRecordIn s f → verdict_number (table_turn_with d b f).taken.verdict ≤ 7
    go (Ok one) w = taken_known b d one.found
    go (found.Refused refusal) o = omega arith
