-- What the record question gives, by its two cases: a whole record's kind and the place of the next record, or a refusal.
use Rattle.std.specs.Prelude.{ℕ, Result, Ok, Err}
use Rattle.wire.specs.declared.record.Record as declared
use Rattle.wire.specs.declared.refusal.Refusal.{Refusal}

abbrev pub Seen : Type 0
Seen = Result declared.Record Refusal

abbrev pub Record : ℕ → ℕ → Seen
Record kind next = Ok record { kind = kind; next = next }

pattern abbrev pub Refused : Refusal → Seen
Refused refusal = Err refusal
