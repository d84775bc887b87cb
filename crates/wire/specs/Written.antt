-- What a writer says, by its two cases: how many bytes it wrote, or why it wrote none.
use Rattle.std.specs.Prelude.{ℕ, Result, Ok, Err}
use Rattle.wire.specs.declared.refusal.Refusal.{Refusal}

abbrev pub Written : Type 0
Written = Result ℕ Refusal

pattern abbrev pub Bytes : ℕ → Written
Bytes size = Ok size

pattern abbrev pub Refused : Refusal → Written
Refused refusal = Err refusal
