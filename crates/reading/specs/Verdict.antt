-- Whether a record, or a table's end, is accepted.
use Rattle.std.specs.Prelude.{⊤, Result, Ok, Err}
use Rattle.wire.specs.declared.refusal.Refusal.{Refusal}

abbrev pub Verdict : Type 0
Verdict = Result ⊤ Refusal

pattern abbrev pub Accepted : Verdict
Accepted = Ok tt

pattern abbrev pub Refused : Refusal → Verdict
Refused refusal = Err refusal
