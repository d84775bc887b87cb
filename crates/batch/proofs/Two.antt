-- A run on bytes that end with a record, and then one on the bytes that follow: together they are one run on both.
use Rattle.std.specs.Prelude.{ℕ, ◌-◌, ◌≡◌, refl, List, [], ◌∷◌, ◌++◌, length}
use Rattle.std.proofs.Math.Nat.{sub-zero}
use Rattle.std.proofs.Common.{arith}
use Rattle.std.proofs.lemmas.List.{drop-append-le}
use Rattle.system.specs.declared.System.{System}
use Rattle.system.specs.declared.events.Reply.{Reply}
use Rattle.wire.specs.laws.Reader.{event_whole, event_longer}
use Rattle.wire.specs.declared.event.Event.{Event}
use Rattle.batch.specs.Turn.{Run, written, answered}
use Rattle.batch.specs.laws.Turn.{stops_some}
use Rattle.batch.specs.Batch.{and_then}
use Rattle.batch.specs.laws.AndThen.{then_first, then_assoc}
use Rattle.batch.proofs.Bounds.{room_left}
use Rattle.batch.specs.laws.Ran.{Ran, ends, halts, goes}

nothing : (xs : List ℕ) → length xs ≡ 0 → xs ≡ []
nothing [] z = refl
nothing (x ∷ xs) z = absurd (omega arith)

pub ran_two : {step : System → Event → Reply} {s : System} {a : List ℕ} {room : ℕ} {r : Run} → Ran step s a room r → r.number ≡ 0
    → (b : List ℕ) (q : Run) → Ran step r.system b (room - written r) q → Ran step s (a ++ b) room (and_then r q)
ran_two {step} {s} {a} {room} (ends z) k b q w = rw (nothing a z, then_first s q) (rw (sub-zero room) at w)
ran_two (halts p x) k b q w = absurd (omega (arith, stops_some x))
ran_two {step} {s} {a} {room} (goes {n = n} {e = e} {q = p} f h x) k b q w =
    let t = event_whole a f in
    let i = ran_two x k b q (rw (room_left step s e n room p) at w) in
    rw (then_assoc (answered (step s e) n) p q)
    (goes (event_longer a b f) h (rw (← drop-append-le n a b t.inside) at i))
