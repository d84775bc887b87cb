-- SERVE keeps the places of the occupants as many as they are.
use Rattle.std.specs.Prelude.{ℕ, Bool, ◌≡◌, refl, length}
use Rattle.std.proofs.Common.{◌∙◌, length-set}
use Rattle.lock.specs.declared.Lock.{Lock}
use Rattle.lock.specs.Serve.{serve_of}
use Rattle.lock.specs.laws.ServeSteps.{Left, freed, kept, Admitted, none, took, seized, blocked, serve_of_way}

pub left_room : {t g : ℕ} {l : Lock} {c : ℕ} {m : Lock} → Left t g l c m → length m.occupant ≡ length l.occupant
left_room (freed e) = simp length-set
left_room (kept e) = simp length-set

admitted_room : {t g : ℕ} {a : Bool} {m : Lock} {c : ℕ} {r : Lock} → Admitted t g a m c r → length r.occupant ≡ length m.occupant
admitted_room (none e) = refl
admitted_room (took n h) = simp length-set
admitted_room (seized n h k s) = simp length-set
admitted_room (blocked n h k s) = refl

pub serve_room : (l : Lock) (c t g : ℕ) (a : Bool) → length (serve_of l c t g a).occupant ≡ length l.occupant
serve_room l c t g a =
    serve_of_way l c t g a (λ (r : Lock). length r.occupant ≡ length l.occupant) refl (λ m r b s. admitted_room s ∙ left_room b)
