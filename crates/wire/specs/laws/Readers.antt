-- What a reader makes of the record at the start of some bytes, in any stream; and that it is the same whatever follows the record.
use Rattle.std.specs.Prelude.{ℕ, ◌+◌, ◌*◌, ◌-◌, ◌≤◌, ◌<◌, ◌≡◌, refl, List, ◌++◌, length, drop, Ok}
use Rattle.std.proofs.Common.{ap, ap₂, ◌∙◌, arith, length-append, length-drop}
use Rattle.std.proofs.Math.ListN.{get_or-append}
use Rattle.std.proofs.lemmas.List.{take-append-le, drop-append-le}
use Rattle.wire.specs.declared.kinds.Stream.{Stream}
use Rattle.wire.specs.Seen.{Seen}
use Rattle.wire.specs.Seen.{Record, Refused}
use Rattle.wire.specs.declared.refusal.Refusal.{Refusal}
use Rattle.wire.specs.Number.{le16}
use Rattle.wire.specs.Record.{header_size, uncounted, length_at, kind_at, next_at, bytes_left, record_at, payload_of, payload_at}
use Rattle.wire.specs.Record.{read_seen, read_first}
use Rattle.wire.specs.Question.{Question, no_header, wrong_kind, wrong_length, cut_short, whole, question, question_gives}
use Rattle.wire.specs.Question.{WholeRecord, OneToThree, SeenAt, seen_at}

-- ---- bytes that follow a record

u16_same : (a b : List ℕ) (i : ℕ) → i + 1 < length a → le16 (a ++ b) i ≡ le16 a i
u16_same a b i l =
    ap₂ (λ (x y : ℕ). x + 256 * y) (get_or-append a b 0 i (omega arith)) (get_or-append a b 0 (i + 1) l)

module _ (a b : List ℕ) (at : ℕ) (four : at + header_size ≤ length a) where
  length_same : length_at (a ++ b) at ≡ length_at a at
  length_same = u16_same a b at (omega arith)

  kind_same : kind_at (a ++ b) at ≡ kind_at a at
  kind_same = u16_same a b (at + 2) (omega arith)

  module _ (fits : next_at a at ≤ length a) where
    longer : {n : ℕ} → n ≤ bytes_left a at → n ≤ bytes_left (a ++ b) at
    longer l = simp length-append (omega arith)

    record_same : (stream : Stream) → record_at stream (a ++ b) at ≡ record_at stream a at
    record_same stream = by (question stream a at)
      where
        by : {r : Seen} → Question stream a at r → record_at stream (a ++ b) at ≡ r
        by (no_header h) = absurd (omega arith)
        by (wrong_kind h k) = question_gives stream (a ++ b) at (wrong_kind (longer h) (rw kind_same k))
        by (wrong_length h k n) =
            question_gives stream (a ++ b) at (wrong_length (longer h) (rw kind_same k) (rw (kind_same, length_same) n))
        by (cut_short h k n l) = absurd (omega arith)
        by (whole h k n l) =
            question_gives stream (a ++ b) at (whole (longer h) (rw kind_same k) (rw (kind_same, length_same) n) (rw length_same (longer l)))
            ∙ ap₂ (λ (k n : ℕ). Record k (at + (n + uncounted))) kind_same length_same

    payload_same : (r : Seen) → SeenAt a at r → payload_of r (a ++ b) at ≡ payload_of r a at
    payload_same (Ok r) w =
        rw (
          drop-append-le (at + header_size) a b four,
          take-append-le (r.next - (at + header_size)) (drop (at + header_size) a) b (simp length-drop (omega arith)),
        )
    payload_same (Refused refusal) o = refl

-- ---- a reader, by what it makes of a record and of a refusal

module _ {A : Type 0} (found : ℕ → List ℕ → ℕ → A) (refused : Refusal → A) (stream : Stream) where
  -- it reads what was seen at the start, with the payload of that
  pub reader : (s : List ℕ) {r : Seen} {p : List ℕ} → r ≡ record_at stream s 0 → p ≡ payload_of r s 0
      → read_seen found refused r p ≡ read_first found refused stream s
  reader s e f = ap₂ (read_seen found refused) e (f ∙ ap (λ (r : Seen). payload_of r s 0) e)

  -- what holds of each whole record and of each refusal 1, 2 or 3 holds of what it reads
  pub read_case : (s : List ℕ) (P : A → Type 0) → ((kind next : ℕ) (p : List ℕ) → WholeRecord s 0 next → P (found kind p next))
      → ((refusal : Refusal) → OneToThree refusal → P (refused refusal)) → P (read_first found refused stream s)
  read_case s P f g = go (record_at stream s 0) (seen_at stream s 0)
    where
      go : (r : Seen) → SeenAt s 0 r → P (read_seen found refused r (payload_at stream s 0))
      go (Ok r) w = f r.kind r.next (payload_at stream s 0) w
      go (Refused refusal) o = g refusal o

  -- it reads the same whatever follows the record,
  read_same : (a b : List ℕ) → header_size ≤ length a → next_at a 0 ≤ length a
      → read_first found refused stream (a ++ b) ≡ read_first found refused stream a
  read_same a b four fits =
      let e = record_same a b 0 four fits stream in
      ap₂ (read_seen found refused) e
      (ap (λ (r : Seen). payload_of r (a ++ b) 0) e ∙ payload_same a b 0 four fits (record_at stream a 0) (seen_at stream a 0))

  -- where that lies in the bytes without it,
  pub read_longer : (a b : List ℕ) {next : ℕ} → WholeRecord a 0 next
      → read_first found refused stream (a ++ b) ≡ read_first found refused stream a
  read_longer a b w = read_same a b (omega arith) (omega arith)

  -- or in the bytes with it, and ends before what follows
  pub read_shorter : (a b : List ℕ) {next : ℕ} → WholeRecord (a ++ b) 0 next → next ≤ length a
      → read_first found refused stream (a ++ b) ≡ read_first found refused stream a
  read_shorter a b w l =
      let four : header_size ≤ length a = omega arith in
      read_same a b four (omega (arith, length_same a b 0 four))
