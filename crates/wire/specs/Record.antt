-- Document 01, "Records": the record question, the payload, and what a reader makes of a record.
use Rattle.std.specs.Prelude.{ℕ, ◌+◌, ◌-◌, List, [], cond, length, take, drop, ltb, Result, Ok, Err}
use Rattle.wire.specs.declared.kinds.Stream.{Stream}
use Rattle.wire.specs.Seen.{Seen}
use Rattle.wire.specs.Seen.{Record, Refused}
use Rattle.wire.specs.declared.of_record.Next.{Next}
use Rattle.wire.specs.declared.record.RecordTold.{RecordTold}
use Rattle.wire.specs.declared.refusal.Refusal.{Refusal}
use Rattle.wire.specs.declared.refusal.Refusal.TheVariants.{CutShort, WrongKind, WrongLength}
use Rattle.wire.specs.Kinds.{lengths, fits_in, in_stream}
use Rattle.wire.specs.Number.{le16}
use Rattle.wire.specs.Refusal.{number_of}

-- "A record is a length (u16), a kind (u16), then a payload": the bytes of the first two
abbrev pub header_size : ℕ
header_size = 4

-- "Length counts kind and payload, so a record takes length + 2 bytes"
abbrev pub uncounted : ℕ
uncounted = 2

-- a record's length and its kind
abbrev pub length_at : List ℕ → ℕ → ℕ
length_at s at = le16 s at

abbrev pub kind_at : List ℕ → ℕ → ℕ
kind_at s at = le16 s (at + 2)

abbrev pub next_at : List ℕ → ℕ → ℕ
next_at s at = at + (length_at s at + uncounted)

-- how many bytes are left at a place: none past the end
abbrev pub bytes_left : List ℕ → ℕ → ℕ
bytes_left s at = length s - at

-- In the order of "Refusal numbers": four bytes left (1); 2; 3; whole record (1)
unfoldable pub record_at : Stream → List ℕ → ℕ → Seen
record_at stream s at =
    cond (ltb (bytes_left s at) header_size) (Refused CutShort)
    (cond (in_stream stream (kind_at s at))
    (cond (fits_in (kind_at s at) (length_at s at) lengths)
    (cond (ltb (bytes_left s at) (length_at s at + uncounted)) (Refused CutShort) (Record (kind_at s at) (next_at s at)))
    (Refused WrongLength))
    (Refused WrongKind))

-- "tells a record's kind and the place of the next record, or 1, 2 or 3 with both 0"
abbrev pub record_told : Seen → RecordTold
record_told (Ok r) = record { refusal = 0; kind = r.kind; next = r.next }
record_told (Refused refusal) = record { refusal = number_of refusal; kind = 0; next = 0 }

-- "the payload as the very part of the caller's bytes, empty where the record is refused"
abbrev pub payload_of : Seen → List ℕ → ℕ → List ℕ
payload_of (Ok r) s at = take (r.next - (at + header_size)) (drop (at + header_size) s)
payload_of (Refused refusal) s at = []

abbrev pub payload_at : Stream → List ℕ → ℕ → List ℕ
payload_at stream s at = payload_of (record_at stream s at) s at

-- what a reader makes of what the question finds: of a record's kind, its payload and the next place; or of a refusal
abbrev pub read_seen : {A : Type 0} → (ℕ → List ℕ → ℕ → A) → (Refusal → A) → Seen → List ℕ → A
read_seen found refused (Ok r) payload = found r.kind payload r.next
read_seen found refused (Refused refusal) payload = refused refusal

-- the same of the record at the start of some bytes
abbrev pub read_first : {A : Type 0} → (ℕ → List ℕ → ℕ → A) → (Refusal → A) → Stream → List ℕ → A
read_first found refused stream s = read_seen found refused (record_at stream s 0) (payload_at stream s 0)

-- the same, where a record's value is what is found
abbrev pub read_as : {T : Type 0} → (ℕ → List ℕ → T) → Stream → List ℕ → Result (Next T) Refusal
read_as means stream s = read_first (λ kind payload next. Ok record { found = means kind payload; next = next }) Err stream s
