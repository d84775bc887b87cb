-- One turn of reading a table. Document 01's order: the record question's 1, 2 and 3, "then 4, 5, 6, 7".
use Rattle.std.specs.Prelude.{ℕ, List, Ok}
use Rattle.table.specs.declared.Table.{Table}
use Rattle.wire.specs.Table.{next_table_record}
use Rattle.wire.specs.NextTableRecord.{NextTableRecord}
use Rattle.wire.specs.NextTableRecord as found
use Rattle.reading.specs.Taken.{Taken, record_refused, record_taken}

-- the table after the turn, and how many bytes the record took
pub record TableTurn : Type 0 where
  pub taken : Taken
  pub size : ℕ

-- the record that was found, taken into the table, and how many bytes it took
abbrev pub table_turn_with : ℕ → Table → NextTableRecord → TableTurn
table_turn_with d b (Ok one) = record { taken = record_taken d b one.found; size = one.next }
table_turn_with d b (found.Refused refusal) = record { taken = record_refused b refusal; size = 0 }

-- d is a short GANG's budget, b the table so far, s the bytes left
unfoldable pub table_turn : ℕ → Table → List ℕ → TableTurn
table_turn d b s = table_turn_with d b (next_table_record s)
