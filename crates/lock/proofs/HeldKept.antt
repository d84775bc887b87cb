-- SERVE keeps the lock held exactly when some core is locked, whatever the order of gangs.
use Rattle.std.specs.Prelude.{ℕ, Bool, ◌≡◌}
use Rattle.lock.specs.declared.Lock.{Lock}
use Rattle.lock.specs.Serve.{displaced_of, serve_of}
use Rattle.lock.specs.laws.ServeSteps.{Admitted, none, took, seized, blocked, serve_of_way}
use Rattle.lock.specs.HeldWhenLocked.{HeldWhenLocked}
use Rattle.lock.specs.laws.Held.{held_left, held_locked}

-- no thread's gang has the number of none
held_admitted : {t g : ℕ} {a : Bool} {m : Lock} {c : ℕ} {r : Lock} → ((t ≡ 255 → ⊥) → g ≡ 255 → ⊥) → Admitted t g a m c r
    → HeldWhenLocked m → HeldWhenLocked r
held_admitted q (none e) H = H
held_admitted {t} {g} {m = m} {c = c} q (took n h) H = held_locked m c t g (q n)
held_admitted {t} {g} {m = m} {c = c} q (seized n h k s) H = held_locked (displaced_of m) c t g (q n)
held_admitted q (blocked n h k s) H = record { free = H.free; busy = H.busy }

pub held_serve : (l : Lock) (c t g : ℕ) (a : Bool) → ((t ≡ 255 → ⊥) → g ≡ 255 → ⊥) → HeldWhenLocked l → HeldWhenLocked (serve_of l c t g a)
held_serve l c t g a q H = serve_of_way l c t g a HeldWhenLocked H (λ m r b s. held_admitted q s (held_left b H))
