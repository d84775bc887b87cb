-- Every run goes one of the ways of `Ran`, and no other.
use Rattle.std.specs.Prelude.{ℕ, zero, suc, ◌-◌, ◌≤◌, ◌<◌, ◌≡◌, List, length, drop}
use Rattle.std.proofs.Math.Path.{refl}
use Rattle.std.proofs.Common.{sym, ap, ◌∙◌, subst, arith, length-drop, eq-eqb, ne_eqb}
use Rattle.std.proofs.Math.Decide.{dec_lt}
use Rattle.system.specs.declared.System.{System}
use Rattle.system.specs.declared.events.Reply.{Reply}
use Rattle.wire.specs.Answer.{answer_size}
use Rattle.wire.specs.Event.{next_event}
use Rattle.wire.specs.laws.Reader.{event_whole}
use Rattle.wire.specs.declared.event.Event.{Event}
use Rattle.wire.specs.NextEvent as found
use Rattle.batch.specs.Turn.{Run, stopped_with, answered}
use Rattle.batch.specs.Stops.{Stops}
use Rattle.batch.specs.laws.Turn.{Turned, stops, answers, turn_way, turn_stops, turn_answers, stops_some, bytes_length}
use Rattle.batch.specs.Batch.{and_then, batch_ends, run_of}
use Rattle.batch.specs.laws.Ran.{Ran, ends, halts, goes}

module _ (step : System → Event → Reply) (s : System) (ev : List ℕ) (room : ℕ) where
  run_end : (n : ℕ) → length ev ≡ 0 → run_of step n s ev room ≡ batch_ends s
  unfolding run_of
  run_end zero z = refl
  run_end (suc n) z = rw (eq-eqb (length ev) 0 z)

  module _ (n : ℕ) (some : 0 < length ev) where
    there : length ev ≡ 0 → ⊥
    there z = omega arith

    run_halts : {k : ℕ} → Stops ev room k → run_of step (suc n) s ev room ≡ stopped_with s k
    unfolding run_of
    run_halts {k} w =
        let z = stops_some w in
        rw (ne_eqb (length ev) 0 there, turn_stops step s ev room w, ne_eqb k 0 (λ y. omega arith))

    run_goes : {e : Event} {m : ℕ} → next_event ev ≡ found.Event e m → answer_size ≤ room
        → run_of step (suc n) s ev room ≡ and_then (answered (step s e) m) (run_of step n (step s e).system (drop m ev) (room - answer_size))
    unfolding run_of
    run_goes {e} {m} f l =
        rw (ne_eqb (length ev) 0 there, turn_answers step s ev room f l, bytes_length (answered (step s e) m).answers)

-- every run goes one of these ways
pub ran : (step : System → Event → Reply) (n : ℕ) (s : System) (ev : List ℕ) (room : ℕ) → length ev ≤ n → Ran step s ev room (run_of step n s ev room)
ran step zero s ev room l = let z : length ev ≡ 0 = omega arith in subst (Ran step s ev room) (sym (run_end step s ev room zero z)) (ends z)
ran step (suc n) s ev room l = go (dec_lt 0 (length ev)) (turn_way step s ev room) (λ s' ev' room' l'. ran step n s' ev' room' l')
  where
    go : Dec (0 < length ev) → {t : Run} → Turned step s ev room t
        → ((s' : System) (ev' : List ℕ) (room' : ℕ) → length ev' ≤ n → Ran step s' ev' room' (run_of step n s' ev' room'))
        → Ran step s ev room (run_of step (suc n) s ev room)
    go (no p) w next = let z : length ev ≡ 0 = omega arith in subst (Ran step s ev room) (sym (run_end step s ev room (suc n) z)) (ends z)
    go (yes p) (stops w) next = subst (Ran step s ev room) (sym (run_halts step s ev room n p w)) (halts p w)
    go (yes p) (answers {e = e} {n = m} f h) next =
        let t = event_whole ev f in
        subst (Ran step s ev room) (sym (run_goes step s ev room n p f h))
        (goes f h (next (step s e).system (drop m ev) (room - answer_size) (simp length-drop (omega arith))))

-- and no other
pub run_is : {step : System → Event → Reply} {s : System} {ev : List ℕ} {room : ℕ} {r : Run}
    → Ran step s ev room r → (n : ℕ) → length ev ≤ n → run_of step n s ev room ≡ r
run_is {step} {s} {ev} {room} (ends z) n l = run_end step s ev room n z
run_is {ev} (halts p w) zero l = absurd (omega arith)
run_is {step} {s} {ev} {room} (halts p w) (suc n) l = run_halts step s ev room n p w
run_is {ev} (goes {n = m} {e = e} f h q) zero l = let t = event_whole ev f in absurd (omega arith)
run_is {step} {s} {ev} {room} (goes {n = m} {e = e} f h q) (suc n) l =
    let t = event_whole ev f in
    run_goes step s ev room n (omega arith) f h ∙ ap (and_then (answered (step s e) m)) (run_is q n (simp length-drop (omega arith)))
