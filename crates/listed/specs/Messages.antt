-- Document 01, "The listing": the message lines.
use Rattle.std.specs.Prelude.{ℕ, List, ◌++◌}
use Rattle.lines.specs.Message.{refusal_at}
use Rattle.lines.specs.Text.{bytes_in}

-- "input too long"
abbrev pub input_too_long : List ℕ
input_too_long = bytes_in "input too long\n"

-- "table refused R at P"
abbrev pub table_refused : ℕ → ℕ → List ℕ
table_refused r p = bytes_in "table refused " ++ refusal_at r p

-- "stopped R at P"
abbrev pub events_stopped : ℕ → ℕ → List ℕ
events_stopped r p = bytes_in "stopped " ++ refusal_at r p
