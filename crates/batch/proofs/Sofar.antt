-- What the loop of a batch keeps: the turns so far, then any run on what they left, come to the whole run.
use Rattle.std.specs.Prelude.{ℕ, ◌+◌, ◌-◌, ◌≤◌, ◌<◌, ◌≡◌, refl, List, ◌++◌, Result, Ok, Err, length, take, drop}
use Rattle.std.proofs.Common.{sym, ap, ap₂, ◌∙◌, arith, length-drop, drop-drop, take_at, drop_at}
use Rattle.std.proofs.Math.Nat.{sub-zero, sub-add-eq}
use Rattle.std.proofs.lemmas.List.{take_rest}
use borrow.Rule.Slice.PartMut.{put_mid}
use Rattle.system.specs.Events.{step_of}
use Rattle.system.specs.declared.System.{System}
use Rattle.wire.specs.Answer.{answer_size}
use Rattle.wire.specs.Event.{next_event}
use Rattle.wire.specs.NextEvent as found
use Rattle.wire.specs.declared.event.Event.{Event}
use Rattle.wire.specs.declared.refusal.Refusal.{Refusal}
use Rattle.wire.specs.laws.Reader.{event_whole}
use Rattle.batch.specs.Turn.{Run, Came, wrote, written, output_after, stopped_with, answered, turn_of, batched_with, turns_of, no_turns}
use Rattle.batch.specs.Turn.{number_of_end}
use Rattle.batch.specs.declared.Batched.{Batched}
use Rattle.batch.specs.laws.Turn.{Turned, stops, answers, turn_way, stops_some, bytes_length}
use Rattle.batch.specs.Batch.{and_then, batch_ends, run_of}
use Rattle.batch.specs.laws.AndThen.{then_assoc, then_first, then_stopped, written_then, output_then, output_length}
use Rattle.batch.specs.laws.Ran.{Ran, ends, halts, goes}
use Rattle.batch.proofs.Ran.{run_is}
use Rattle.batch.proofs.Lent.{put_tail}

-- ev and o are the events and the output handed in; s, out, and the places at of ev and w of out are where the loop stands
pub record Sofar (ev o : List ℕ) (total : Run) (s : System) (at w : ℕ) (out : List ℕ) : Type 0 where
  pub done : Run
  pub reads : done.read ≡ at
  pub writes : written done ≡ w
  pub inside : at ≤ length ev
  pub fits : w ≤ length o
  pub holds : out ≡ output_after done o
  pub rest : (q : Run) → Ran step_of s (drop at ev) (length o - w) q → total ≡ and_then done q

-- at first
pub start : (s : System) (ev o : List ℕ) → Sofar ev o (run_of step_of (length ev) s ev (length o)) s 0 0 o
start s ev o = record {
  done = batch_ends s;
  reads = refl;
  writes = refl;
  inside = omega arith;
  fits = omega arith;
  holds = refl;
  rest = λ q w. run_is (rw (sub-zero (length o)) at w) (length ev) (omega arith) ∙ sym (then_first s q);
}

module _ {ev o : List ℕ} {total : Run} {s : System} {at w : ℕ} {out : List ℕ} (f : Sofar ev o total s at w out) where
  -- the output keeps its length
  pub kept : length out ≡ length o
  kept = ap length f.holds ∙ output_length f.done o (omega (arith, f.writes, f.fits))

  -- where a run on the rest reads and writes nothing
  halted : (end : Result Unit Refusal) → Ran step_of s (drop at ev) (length o - w) (stopped_with s (number_of_end end))
      → Came total o out (batched_with s (turns_of at w end))
  halted end q =
      let e = f.rest (stopped_with s (number_of_end end)) q ∙ then_stopped f.done s (number_of_end end) in
      rw e (record { told = rw (f.reads, f.writes); output = f.holds })

  pub ends_here : length ev ≤ at → Came total o out (batched_with s (turns_of at w (Ok tt)))
  ends_here h = halted (Ok tt) (ends (simp length-drop (omega arith)))

  -- the part of the output that a turn is lent
  left : take (length out - w) (drop w out) ≡ drop w o
  left =
      take_rest out w ∙ ap (drop w) f.holds
      ∙ rw (← f.writes) (drop_at (wrote f.done) (drop (written f.done) o) (written f.done) refl)

  -- what comes back of the output: what was written before, and what the turn left of its part
  back : {last y : List ℕ} → last ≡ y → put_mid w (length out - w) out last ≡ wrote f.done ++ y
  back {last} e =
      put_tail w out last (omega (arith, kept, f.fits))
      ∙ ap₂ (λ (x y : List ℕ). x ++ y) (ap (take w) f.holds ∙ take_at (wrote f.done) (drop (written f.done) o) w f.writes) e

  -- what a turn came to that was lent the events from their place on and the output from its place on
  abbrev pub Turn : List ℕ → Batched → Type 0
  Turn last b =
      Came (turn_of step_of s (take (length ev - at) (drop at ev)) (length (take (length out - w) (drop w out))))
      (take (length out - w) (drop w out)) last b

  its : {last : List ℕ} {b : Batched} → Turn last b → Came (turn_of step_of s (drop at ev) (length o - w)) (drop w o) last b
  its c = rw (take_rest ev at, left, length-drop w o) at c

  -- it stops: nothing is read or written
  pub halts_here : {last : List ℕ} {s' : System} (refusal : Refusal) → at < length ev → Turn last (batched_with s' (no_turns refusal))
      → Came total o (put_mid w (length out - w) out last) (batched_with s' (turns_of at w (Err refusal)))
  halts_here {last} {s'} refusal more c = by (turn_way step_of s (drop at ev) (length o - w)) (its c)
    where
      by : {t : Run} → Turned step_of s (drop at ev) (length o - w) t → Came t (drop w o) last (batched_with s' (no_turns refusal))
          → Came total o (put_mid w (length out - w) out last) (batched_with s' (turns_of at w (Err refusal)))
      by (stops x) d =
          let whole : put_mid w (length out - w) out last ≡ out = back d.output ∙ rw (← f.writes) (sym f.holds) in
          rw (ap (λ (b : Batched). b.system) d.told, whole)
          (halted (Err refusal) (rw (ap (λ (b : Batched). b.number) d.told) (halts {ev = drop at ev} (simp length-drop (omega arith)) x)))
      by (answers g l) d =
          let t = event_whole (drop at ev) g in
          absurd (omega (arith, ap (λ (b : Batched). b.read) d.told))

  -- it answers the next event
  record Went (last : List ℕ) (s' : System) (n : ℕ) : Type 0 where
    e : Event
    read : next_event (drop at ev) ≡ found.Event e n
    room : answer_size ≤ length o - w
    left_by : (step_of s e).system ≡ s'
    output : last ≡ output_after (answered (step_of s e) n) (drop w o)

  module _ {last : List ℕ} {s' : System} {n : ℕ} (c : Turn last (batched_with s' (turns_of n answer_size (Ok tt)))) where
    went : Went last s' n
    went = by (turn_way step_of s (drop at ev) (length o - w)) (its c)
      where
        by : {t : Run} → Turned step_of s (drop at ev) (length o - w) t → Came t (drop w o) last (batched_with s' (turns_of n answer_size (Ok tt)))
            → Went last s' n
        by (stops x) d = absurd (omega (arith, stops_some x, ap (λ (b : Batched). b.number) d.told))
        by (answers {e = e} g l) d =
            let same = sym (ap (λ (b : Batched). b.read) d.told) in
            record { e = e; read = rw same at g; room = l; left_by = sym (ap (λ (b : Batched). b.system) d.told); output = d.output }

    -- whose record lies within the events, and is not empty
    pub next_inside : (at + n ≤ length ev) × (0 < n)
    next_inside = let t = event_whole (drop at ev) went.read in (omega (arith, length-drop at ev, f.inside, t.inside), omega arith)

    -- and whose answer has room
    pub room_after : w + answer_size ≤ length o
    room_after = omega (arith, f.fits, went.room)

    pub goes_on : Sofar ev o total s' (at + n) (w + answer_size) (put_mid w (length out - w) out last)
    goes_on =
        let q = answered (step_of s went.e) n in
        record {
          done = and_then f.done q;
          reads = rw f.reads;
          writes = written_then f.done q ∙ rw (f.writes, bytes_length q.answers);
          inside = next_inside.0;
          fits = room_after;
          holds = back went.output ∙ ap (λ (k : ℕ). wrote f.done ++ output_after q (drop k o)) (sym f.writes) ∙ output_then f.done q o;
          rest = λ p y.
              f.rest (and_then q p)
              (goes went.read went.room (rw (← went.left_by, ← drop-drop n at ev, sub-add-eq (length o) w answer_size) at y))
              ∙ sym (then_assoc f.done q p);
        }
