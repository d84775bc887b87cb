-- A turn that is accepted takes a whole record of the bytes left.
use Rattle.std.specs.Prelude.{ℕ, ◌≡◌, List, Ok}
use Rattle.std.proofs.Common.{arith}
use Rattle.table.specs.declared.Table.{Table}
use Rattle.wire.specs.Question.{WholeRecord}
use Rattle.wire.specs.laws.Reader.{TableRecordIn, table_record_in}
use Rattle.wire.specs.Table.{next_table_record}
use Rattle.wire.specs.declared.refusal.Refusal.{Refusal}
use Rattle.wire.specs.NextTableRecord.{NextTableRecord}
use Rattle.wire.specs.NextTableRecord as found
use Rattle.reading.specs.Verdict.{Accepted, Refused}
use Rattle.reading.specs.Turn.{table_turn_with, table_turn}

denied : {refusal : Refusal} → Refused refusal ≡ Accepted → ⊥
denied e = let z : ◌≡◌ {A = ℕ} 0 1 = cc in omega arith

pub turn_whole : (d : ℕ) (b : Table) (s : List ℕ) → (table_turn d b s).taken.verdict ≡ Accepted → WholeRecord s 0 (table_turn d b s).size
unfolding table_turn
turn_whole d b s = go (next_table_record s) (table_record_in s)
  where
    go : (f : NextTableRecord) → TableRecordIn s f → (table_turn_with d b f).taken.verdict ≡ Accepted → WholeRecord s 0 (table_turn_with d b f).size
    go (Ok one) w v = w
    go (found.Refused refusal) o v = absurd (denied v)
