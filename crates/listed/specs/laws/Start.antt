-- Where the events start in each case, and that the place lies within the input.
use Rattle.std.specs.Prelude.{ℕ, zero, suc, ◌≤◌, ◌<◌, ◌≡◌, refl, Bool, true, false, cond, List, ltb, length, Ok}
use Rattle.std.proofs.Common.{◌∙◌, arith, lt-ltb, le-ltb}
use Rattle.wire.specs.Record.{header_size, kind_at, bytes_left, record_at}
use Rattle.wire.specs.Question.{no_header, question_gives, record_whole}
use Rattle.wire.specs.declared.kinds.Stream.TheVariants as stream
use Rattle.wire.specs.Seen.{Seen, Record, Refused}
use Rattle.wire.specs.declared.refusal.Refusal.{Refusal}
use Rattle.wire.specs.declared.refusal.Refusal.TheVariants.{CutShort}
use Rattle.listed.specs.Start.{first_event_kind, split_at, on_seen, start_from, events_start}

module _ (s : List ℕ) (at : ℕ) where
  -- ---- no table record stands at the place

  pub split_short : bytes_left s at < header_size → split_at s at ≡ length s
  unfolding split_at
  split_short h = rw (lt-ltb (bytes_left s at) header_size h)

  module _ (four : header_size ≤ bytes_left s at) where
    pub split_below : kind_at s at < first_event_kind → split_at s at ≡ length s
    unfolding split_at
    split_below k = rw (le-ltb (bytes_left s at) header_size four, lt-ltb (kind_at s at) first_event_kind k)

    pub split_here : first_event_kind ≤ kind_at s at → split_at s at ≡ at
    unfolding split_at
    split_here k = rw (le-ltb (bytes_left s at) header_size four, le-ltb (kind_at s at) first_event_kind k)

  -- ---- a place of the walk

  pub start_stop : (n : ℕ) (refusal : Refusal) → record_at stream.Table s at ≡ Refused refusal → start_from (suc n) s at ≡ split_at s at
  unfolding start_from
  start_stop n refusal e = rw e

  pub start_go : (n kind next : ℕ) → record_at stream.Table s at ≡ Record kind next → start_from (suc n) s at ≡ start_from n s next
  unfolding start_from
  start_go n kind next e = rw e

  pub start_end : (n : ℕ) → length s ≤ at → start_from n s at ≡ length s
  unfolding start_from
  start_end zero l = refl
  start_end (suc n) l = start_stop n CutShort (question_gives stream.Table s at (no_header (omega arith))) ∙ split_short (omega arith)

-- ---- it lies within the input

split_inside : (s : List ℕ) (at : ℕ) → at ≤ length s → split_at s at ≤ length s
unfolding split_at
split_inside s at l = go (ltb (bytes_left s at) header_size) (ltb (kind_at s at) first_event_kind)
  where
    go : (a b : Bool) → cond a (length s) (cond b (length s) at) ≤ length s
    go true b = omega arith
    go false true = omega arith
    go false false = l

from_inside : (n : ℕ) (s : List ℕ) (at : ℕ) → at ≤ length s → start_from n s at ≤ length s
unfolding start_from
from_inside zero s at l = omega arith
from_inside (suc n) s at l = go (record_at stream.Table s at) refl (from_inside n s)
  where
    go : (x : Seen) → record_at stream.Table s at ≡ x → ((next : ℕ) → next ≤ length s → start_from n s next ≤ length s)
        → on_seen x (start_from n s) (split_at s at) ≤ length s
    go (Ok whole) e on = on whole.next (record_whole stream.Table s at e).inside
    go (Refused refusal) e on = split_inside s at l

pub start_inside : (s : List ℕ) → events_start s ≤ length s
start_inside s = from_inside (length s) s 0 (omega arith)
