-- A whole table, from its bytes: its records are accepted one after the other, up to the first that is refused or to the table's end.
use Rattle.std.specs.Prelude.{ℕ, ◌<◌, List, ◌≡◌, length}
use Rattle.table.specs.declared.Table.{Table}
use Rattle.table.specs.Rules.{empty_table}
use Rattle.wire.specs.Question.{Question}
use Rattle.wire.specs.Record.{payload_at}
use Rattle.wire.specs.Table.{table_record_of}
use Rattle.wire.specs.declared.kinds.Stream.TheVariants as stream
use Rattle.wire.specs.Seen.{Record, Refused}
use Rattle.wire.specs.declared.refusal.Refusal.{Refusal}
use Rattle.wire.specs.declared.table_record.TableRecord.{TableRecord}
use Rattle.reading.specs.Rows.{RefusesRecord, AcceptsRecord, RefusesEnd, AcceptsEnd}

-- the record of that kind at a place
abbrev pub record_there : List ℕ → ℕ → ℕ → TableRecord
record_there s at kind = table_record_of kind (payload_at stream.Table s at)

-- every record before the place at is accepted, and b is the table that they make; d is the budget of a short GANG
pub data ReadTo (d : ℕ) (s : List ℕ) : ℕ → Table → Type 0 where
  walk_start : ReadTo d s 0 empty_table
  walk_on : {at kind next : ℕ} {b more : Table} → ReadTo d s at b → Question stream.Table s at (Record kind next)
      → AcceptsRecord d b (record_there s at kind) more → ReadTo d s next more

-- why the table is refused at a place, where b is the table so far
pub data TableStops (d : ℕ) (s : List ℕ) (at : ℕ) (b : Table) : Refusal → Type 0 where
  -- "four bytes left (1); 2; 3; whole record (1)"; "with none left a table or batch ends, and only the record question gives 1"
  question_refuses : {r : Refusal} → at < length s → Question stream.Table s at (Refused r) → TableStops d s at b r
  -- "then 4, 5, 6, 7"
  rules_refuse : {kind next : ℕ} {r : Refusal} → Question stream.Table s at (Record kind next) → RefusesRecord d b (record_there s at kind) r
      → TableStops d s at b r
  -- "8 at the table's end"
  end_refused : {r : Refusal} → at ≡ length s → RefusesEnd b r → TableStops d s at b r

-- "A refused table gives the number, the record's place (for 8, the table's length)": r and at, of the first record that is refused
pub record RefusesTable (d : ℕ) (s : List ℕ) (r : Refusal) (at : ℕ) : Type 0 where
  pub table_then : Table
  pub before : ReadTo d s at table_then
  pub reason : TableStops d s at table_then r

-- any other table: every record is accepted, and it may end
pub record AcceptsTable (d : ℕ) (s : List ℕ) (b : Table) : Type 0 where
  pub every_record : ReadTo d s (length s) b
  pub may_end : AcceptsEnd b

pub data TableWay (d : ℕ) (s : List ℕ) : Type 0 where
  table_bad : {r : Refusal} {at : ℕ} → RefusesTable d s r at → TableWay d s
  table_good : {b : Table} → AcceptsTable d s b → TableWay d s
