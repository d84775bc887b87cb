-- The record question's cases as one view, for every stream and every place, and what follows from it.
use Rattle.std.specs.Prelude.{ℕ, ◌+◌, ◌≤◌, ◌<◌, ◌≡◌, refl, Bool, true, false, ◌&&◌, cond, List, [], ◌∷◌, eqb, leb, ltb, length, Ok}
use Rattle.std.proofs.Common.{arith, lt-ltb, le-ltb, ltb-true, ltb-false, leb-true, eqb-true}
use Rattle.std.proofs.lemmas.Bool.{false≢true}
use Rattle.wire.specs.declared.kinds.Pair.{Pair}
use Rattle.wire.specs.declared.kinds.Stream.{Stream}
use Rattle.wire.specs.Seen.{Seen}
use Rattle.wire.specs.Seen.{Record, Refused}
use Rattle.wire.specs.declared.refusal.Refusal.{Refusal}
use Rattle.wire.specs.declared.refusal.Refusal.TheVariants.{CutShort, WrongKind, WrongLength}
use Rattle.wire.specs.Kinds.{lengths, fits_in, in_stream}
use Rattle.wire.specs.Record.{header_size, uncounted, length_at, kind_at, next_at, bytes_left, record_at}
use Rattle.wire.specs.Refusal.{number_of}

-- what the question gives, and when: "four bytes left (1); 2; 3; whole record (1)"
pub data Question (stream : Stream) (s : List ℕ) (at : ℕ) : Seen → Type 0 where
  no_header : bytes_left s at < header_size → Question stream s at (Refused CutShort)
  wrong_kind : header_size ≤ bytes_left s at → in_stream stream (kind_at s at) ≡ false → Question stream s at (Refused WrongKind)
  wrong_length : header_size ≤ bytes_left s at → in_stream stream (kind_at s at) ≡ true → fits_in (kind_at s at) (length_at s at) lengths ≡ false
      → Question stream s at (Refused WrongLength)
  cut_short : header_size ≤ bytes_left s at → in_stream stream (kind_at s at) ≡ true → fits_in (kind_at s at) (length_at s at) lengths ≡ true
      → bytes_left s at < length_at s at + uncounted → Question stream s at (Refused CutShort)
  whole : header_size ≤ bytes_left s at → in_stream stream (kind_at s at) ≡ true → fits_in (kind_at s at) (length_at s at) lengths ≡ true
      → length_at s at + uncounted ≤ bytes_left s at → Question stream s at (Record (kind_at s at) (next_at s at))

module _ (stream : Stream) (s : List ℕ) (at : ℕ) where
  -- one of the cases holds,
  pub question : Question stream s at (record_at stream s at)
  unfolding record_at
  question =
      go (ltb (bytes_left s at) header_size) refl (in_stream stream (kind_at s at)) refl (fits_in (kind_at s at) (length_at s at) lengths) refl
      (ltb (bytes_left s at) (length_at s at + uncounted)) refl
    where
      go : (a : Bool) → ltb (bytes_left s at) header_size ≡ a → (b : Bool) → in_stream stream (kind_at s at) ≡ b
          → (c : Bool) → fits_in (kind_at s at) (length_at s at) lengths ≡ c → (d : Bool) → ltb (bytes_left s at) (length_at s at + uncounted) ≡ d
          → Question stream s at
          (cond a (Refused CutShort)
          (cond b (cond c (cond d (Refused CutShort) (Record (kind_at s at) (next_at s at))) (Refused WrongLength)) (Refused WrongKind)))
      go true a b k c n d l = no_header (ltb-true (bytes_left s at) header_size a)
      go false a false k c n d l = wrong_kind (ltb-false (bytes_left s at) header_size a) k
      go false a true k false n d l = wrong_length (ltb-false (bytes_left s at) header_size a) k n
      go false a true k true n true l =
          cut_short (ltb-false (bytes_left s at) header_size a) k n (ltb-true (bytes_left s at) (length_at s at + uncounted) l)
      go false a true k true n false l =
          whole (ltb-false (bytes_left s at) header_size a) k n (ltb-false (bytes_left s at) (length_at s at + uncounted) l)

  -- and the case that holds is what the question gives
  pub question_gives : {r : Seen} → Question stream s at r → record_at stream s at ≡ r
  unfolding record_at
  question_gives (no_header h) = rw (lt-ltb (bytes_left s at) header_size h)
  question_gives (wrong_kind h k) = rw (le-ltb (bytes_left s at) header_size h, k)
  question_gives (wrong_length h k n) = rw (le-ltb (bytes_left s at) header_size h, k, n)
  question_gives (cut_short h k n l) =
      rw (le-ltb (bytes_left s at) header_size h, k, n, lt-ltb (bytes_left s at) (length_at s at + uncounted) l)
  question_gives (whole h k n l) =
      rw (le-ltb (bytes_left s at) header_size h, k, n, le-ltb (bytes_left s at) (length_at s at + uncounted) l)

-- ---- a length counts its kind

-- every length of the list is at least m
abbrev long_enough : ℕ → List Pair → Bool
long_enough m [] = true
long_enough m (p ∷ ps) = leb m p.len && long_enough m ps

fits_long : (m k n : ℕ) (ps : List Pair) → long_enough m ps ≡ true → fits_in k n ps ≡ true → m ≤ n
fits_long m k n [] l f = absurd (false≢true f)
fits_long m k n (p ∷ ps) l f = here (leb m p.len) refl (eqb p.kind k) (eqb p.len n) refl l f (fits_long m k n ps)
  where
    here : (a : Bool) → leb m p.len ≡ a → (b c : Bool) → eqb p.len n ≡ c → (a && long_enough m ps) ≡ true
        → cond (b && c) true (fits_in k n ps) ≡ true → (long_enough m ps ≡ true → fits_in k n ps ≡ true → m ≤ n) → m ≤ n
    here false ea b c ec l f r = absurd (false≢true l)
    here true ea false c ec l f r = r l f
    here true ea true false ec l f r = r l f
    here true ea true true ec l f r = omega (arith, leb-true m p.len ea, eqb-true p.len n ec)

-- "Length counts kind and payload": no length of the one list is below the kind's two bytes
fits_two : (k n : ℕ) → fits_in k n lengths ≡ true → 2 ≤ n
unfolding lengths
fits_two k n f = fits_long 2 k n lengths refl f

-- ---- what the question can find

-- a whole record: its header and its payload lie within the bytes, and it takes as many as its length says
pub record WholeRecord (s : List ℕ) (at next : ℕ) : Type 0 where
  pub header : at + header_size ≤ next
  pub inside : next ≤ length s
  pub size : next ≡ next_at s at

-- "1, 2 or 3 with both 0": the refusals of the record question
pub record OneToThree (refusal : Refusal) : Type 0 where
  pub least : 1 ≤ number_of refusal
  pub most : number_of refusal ≤ 3

-- what the question finds at a place: a whole record, or one of those refusals
abbrev pub SeenAt : List ℕ → ℕ → Seen → Type 0
SeenAt s at (Ok r) = WholeRecord s at r.next
SeenAt s at (Refused refusal) = OneToThree refusal

seen_by : {stream : Stream} {s : List ℕ} {at : ℕ} {r : Seen} → Question stream s at r → SeenAt s at r
seen_by (no_header h) = record { least = omega arith; most = omega arith }
seen_by (wrong_kind h k) = record { least = omega arith; most = omega arith }
seen_by (wrong_length h k n) = record { least = omega arith; most = omega arith }
seen_by (cut_short h k n l) = record { least = omega arith; most = omega arith }
seen_by {s = s} {at = at} (whole h k n l) =
    let two = fits_two (kind_at s at) (length_at s at) n in
    record { header = omega arith; inside = omega arith; size = refl }

module _ (stream : Stream) (s : List ℕ) (at : ℕ) where
  pub seen_at : SeenAt s at (record_at stream s at)
  seen_at = seen_by (question stream s at)

  pub record_whole : {kind next : ℕ} → record_at stream s at ≡ Record kind next → WholeRecord s at next
  record_whole e = rw e at seen_at

  -- of whatever stream, the question refuses with 1, 2 or 3 alone
  pub record_refused_lem : {refusal : Refusal} → record_at stream s at ≡ Refused refusal → OneToThree refusal
  record_refused_lem e = rw e at seen_at
