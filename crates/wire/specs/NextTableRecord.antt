-- What the reader of a table record gives, by its two cases: the record at the start and the place of the record after it, or a refusal.
use Rattle.std.specs.Prelude.{ℕ, Result, Ok, Err}
use Rattle.wire.specs.declared.of_record.Next.{Next}
use Rattle.wire.specs.declared.refusal.Refusal.{Refusal}
use Rattle.wire.specs.declared.table_record.TableRecord.{TableRecord}

abbrev pub NextTableRecord : Type 0
NextTableRecord = Result (Next TableRecord) Refusal

abbrev pub Record : TableRecord → ℕ → NextTableRecord
Record one next = Ok record { found = one; next = next }

pattern abbrev pub Refused : Refusal → NextTableRecord
Refused refusal = Err refusal
