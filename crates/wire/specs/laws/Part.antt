-- The record at a place is the first of the bytes from there on: what a reader that is handed that part makes of it.
use Rattle.std.specs.Prelude.{ℕ, ◌+◌, ◌*◌, ◌-◌, ◌≡◌, refl, List, get_or, take, drop, Ok}
use Rattle.std.proofs.Common.{sym, ap, ap₂, ◌∙◌, arith, length-drop, get_or-drop, drop-drop}
use Rattle.wire.specs.declared.kinds.Stream.{Stream}
use Rattle.wire.specs.Seen.{Seen}
use Rattle.wire.specs.Seen.{Record, Refused}
use Rattle.wire.specs.declared.refusal.Refusal.{Refusal}
use Rattle.wire.specs.Number.{le16}
use Rattle.wire.specs.Record.{header_size, length_at, kind_at, bytes_left, record_at, payload_of, payload_at, read_seen, read_first}
use Rattle.wire.specs.Question.{Question, no_header, wrong_kind, wrong_length, cut_short, whole, question, question_gives}

-- what is found in the part from the place at on, with its place told from the start of the whole
abbrev seen_from : ℕ → Seen → Seen
seen_from at (Ok r) = Record r.kind (at + r.next)
seen_from at (Refused refusal) = Refused refusal

module _ (s : List ℕ) (at : ℕ) where
  u16_from : (i j : ℕ) → j ≡ at + i → le16 s j ≡ le16 (drop at s) i
  u16_from i j e =
      let q : j + 1 ≡ at + (i + 1) = omega arith in
      ap₂ (λ (x y : ℕ). x + 256 * y) (ap (λ (k : ℕ). get_or s k 0) e ∙ sym (get_or-drop at s i 0))
      (ap (λ (k : ℕ). get_or s k 0) q ∙ sym (get_or-drop at s (i + 1) 0))

  length_from : length_at s at ≡ length_at (drop at s) 0
  length_from = u16_from 0 at (omega arith)

  kind_from : kind_at s at ≡ kind_at (drop at s) 0
  kind_from = u16_from 2 (at + 2) (omega arith)

  left_from : bytes_left s at ≡ bytes_left (drop at s) 0
  left_from = simp length-drop (omega arith)

  module _ (stream : Stream) where
    record_from : record_at stream s at ≡ seen_from at (record_at stream (drop at s) 0)
    record_from = by (question stream (drop at s) 0)
      where
        by : {r : Seen} → Question stream (drop at s) 0 r → record_at stream s at ≡ seen_from at r
        by (no_header h) = question_gives stream s at (no_header (rw left_from h))
        by (wrong_kind h k) = question_gives stream s at (wrong_kind (rw left_from h) (rw kind_from k))
        by (wrong_length h k n) =
            question_gives stream s at (wrong_length (rw left_from h) (rw kind_from k) (rw (kind_from, length_from) n))
        by (cut_short h k n l) =
            question_gives stream s at (cut_short (rw left_from h) (rw kind_from k) (rw (kind_from, length_from) n) (rw (left_from, length_from) l))
        by (whole h k n l) =
            question_gives stream s at (whole (rw left_from h) (rw kind_from k) (rw (kind_from, length_from) n) (rw (left_from, length_from) l))
            ∙ ap₂ (λ (k n : ℕ). Record k (at + n)) kind_from (let e = length_from in omega arith)

    payload_seen : (r : Seen) → payload_of (seen_from at r) s at ≡ payload_of r (drop at s) 0
    payload_seen (Ok r) =
        let e : at + r.next - (at + header_size) ≡ r.next - header_size = omega arith in
        ap₂ (λ (n : ℕ) (p : List ℕ). take n p) e (sym (drop-drop header_size at s))
    payload_seen (Refused refusal) = refl

    payload_from : payload_at stream s at ≡ payload_at stream (drop at s) 0
    payload_from = ap (λ (r : Seen). payload_of r s at) record_from ∙ payload_seen (record_at stream (drop at s) 0)

    -- a reader that is handed the part tells how many bytes the record takes
    pub read_from_lem : {A : Type 0} (found : ℕ → List ℕ → ℕ → A) (refused : Refusal → A)
        → read_first found refused stream (drop at s)
        ≡ read_seen (λ kind payload next. found kind payload (next - at)) refused (record_at stream s at) (payload_at stream s at)
    read_from_lem found refused = sym (
        ap₂ (read_seen (λ kind payload next. found kind payload (next - at)) refused) record_from payload_from
        ∙ by (record_at stream (drop at s) 0) (payload_at stream (drop at s) 0))
      where
        by : (r : Seen) (p : List ℕ)
            → read_seen (λ kind payload next. found kind payload (next - at)) refused (seen_from at r) p ≡ read_seen found refused r p
        by (Ok r) p = let e : at + r.next - at ≡ r.next = omega arith in ap (found r.kind p) e
        by (Refused refusal) p = refl
