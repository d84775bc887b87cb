-- Every run applies the events of the bytes that it read, and stops where document 01 says: `Applies` and `StopsAt` hold of it.
use Rattle.std.specs.Prelude.{ℕ, zero, suc, ◌+◌, ◌≤◌, ◌≡◌, refl, List, [], ◌∷◌, length, take, drop}
use Rattle.std.proofs.Common.{sym, ap, ◌∙◌, inl, inr, ⊎_elim, zero-add, suc-add, arith, length-take, length-drop, take-append-drop, take_all}
use Rattle.std.proofs.Common.{drop-drop}
use Rattle.std.proofs.Math.Nat.{sub-zero}
use Rattle.system.specs.declared.System.{System}
use Rattle.system.specs.declared.events.Reply.{Reply}
use Rattle.wire.specs.Event.{next_event}
use Rattle.wire.specs.laws.Reader.{event_cut, event_whole, event_shorter}
use Rattle.wire.specs.declared.answer.AnswerRecord.{AnswerRecord}
use Rattle.wire.specs.declared.event.Event.{Event}
use Rattle.wire.specs.NextEvent.{NextEvent}
use Rattle.wire.specs.NextEvent as found
use Rattle.effects.specs.Run.{system_after, history_by}
use Rattle.batch.specs.Turn.{Run, answer_to}
use Rattle.batch.proofs.Bounds.{room_left, read_fits}
use Rattle.batch.specs.History.{and_after, events_in}
use Rattle.batch.specs.laws.Ran.{Ran, ends, halts, goes}
use Rattle.batch.specs.Applies.{Applies, StopsAt}

none_read : (n : ℕ) → events_in n [] ≡ []
unfolding events_in
none_read zero = refl
none_read (suc n) = ap (λ (x : NextEvent). and_after x (λ next. events_in n (drop next []))) (event_cut [] (omega arith))

-- what lies after the first m of the first m + k bytes
cut : (m k : ℕ) (xs : List ℕ) → drop m (take (m + k) xs) ≡ take k (drop m xs)
cut zero k xs = rw zero-add
cut (suc m) k [] = rw (suc-add m k) (sym (take_all k [] (omega arith)))
cut (suc m) k (x ∷ xs) = rw (suc-add m k) (cut m k xs)

-- the first record, and the bytes after it
one_read : (n m k : ℕ) (e : Event) (ev : List ℕ) → next_event ev ≡ found.Event e m → m + k ≤ length ev
    → events_in (suc n) (take (m + k) ev) ≡ e ∷ events_in n (take k (drop m ev))
unfolding events_in
one_read n m k e ev f l =
    ap (λ (x : NextEvent). and_after x (λ next. events_in n (drop next (take (m + k) ev)))) first
    ∙ ap (λ (x : List ℕ). e ∷ events_in n x) (cut m k ev)
  where
    first : next_event (take (m + k) ev) ≡ found.Event e m
    first =
        event_shorter (take (m + k) ev) (drop (m + k) ev) (ap next_event (take-append-drop (m + k) ev) ∙ f)
        (simp length-take (omega arith))

pub ran_applies : {step : System → Event → Reply} {s : System} {ev : List ℕ} {room : ℕ} {r : Run} → Ran step s ev room r
    → (n : ℕ) → r.read ≤ n → Applies step s (events_in n (take r.read ev)) r
unfolding system_after history_by
ran_applies (ends z) n l = rw (none_read n) (record { system = refl; answers = refl })
ran_applies (halts p w) n l = rw (none_read n) (record { system = refl; answers = refl })
ran_applies {ev} (goes {n = m} {e = e} f h q) zero l = let t = event_whole ev f in absurd (omega arith)
ran_applies {step} {s} {ev} (goes {n = m} {e = e} {q = p} f h q) (suc n) l =
    let t = event_whole ev f in
    let i = ran_applies q n (omega arith) in
    let g = read_fits q in
    rw (one_read n m p.read e ev f (omega (arith, length-drop m ev)))
    (record { system = i.system; answers = ap (λ (x : List AnswerRecord). answer_to (step s e) ∷ x) i.answers })

pub ran_stops : {step : System → Event → Reply} {s : System} {ev : List ℕ} {room : ℕ} {r : Run} → Ran step s ev room r → StopsAt ev room r
ran_stops (ends z) = inl (refl, sym z)
ran_stops {room} (halts p w) = inr (p, rw (sub-zero room) w)
ran_stops {step} {s} {ev} {room} (goes {n = m} {e = e} {q = p} f h q) =
    let t = event_whole ev f in
    ⊎_elim
    (λ w. inl (w.0, omega (arith, length-drop m ev, w.1)))
    (λ w. inr (omega (arith, length-drop m ev, w.0), rw (room_left step s e m room p, ← drop-drop p.read m ev) w.1))
    (ran_stops q)
