-- Document 01, "The listing": "a table, then events from the first record with a kind of 16 or more".
use Rattle.std.specs.Prelude.{ℕ, zero, suc, List, cond, ltb, length, Ok}
use Rattle.wire.specs.Record.{header_size, kind_at, bytes_left, record_at}
use Rattle.wire.specs.declared.kinds.Stream.TheVariants as stream
use Rattle.wire.specs.Seen.{Seen, Refused}

-- "a kind of 16 or more"
abbrev pub first_event_kind : ℕ
first_event_kind = 16

-- where no table record stands at a place: the events start there if a kind of 16 or more does, whatever its length; else nowhere
unfoldable pub split_at : List ℕ → ℕ → ℕ
split_at s at =
    cond (ltb (bytes_left s at) header_size) (length s) (cond (ltb (kind_at s at) first_event_kind) (length s) at)

-- what the record question finds: a record, after which the table goes on, or why not
abbrev pub on_seen : Seen → (ℕ → ℕ) → ℕ → ℕ
on_seen (Ok record_seen) on off = on record_seen.next
on_seen (Refused refusal) on off = off

-- from a place on, past at most n table records
unfoldable pub start_from : ℕ → List ℕ → ℕ → ℕ
start_from zero s at = length s
start_from (suc n) s at = on_seen (record_at stream.Table s at) (start_from n s) (split_at s at)

-- where the events start: no table has more records than bytes
abbrev pub events_start : List ℕ → ℕ
events_start s = start_from (length s) s 0
