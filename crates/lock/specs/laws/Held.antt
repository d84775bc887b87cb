-- The lock stays held exactly when some core is locked, through what SERVE does first and where a core takes the lock.
use Rattle.std.specs.Prelude.{ℕ, ◌≡◌, refl}
use Rattle.std.proofs.Common.{ap, ◌∙◌}
use Rattle.coreset.specs.Set.{with_core, without_core}
use Rattle.coreset.specs.laws.Members.{has_with_same, without_empty}
use Rattle.coreset.specs.Counting.{some_member}
use Rattle.lock.specs.declared.Lock.{Lock}
use Rattle.lock.specs.Serve.{locked_for}
use Rattle.lock.specs.laws.ServeSteps.{Left, freed, kept}
use Rattle.lock.specs.HeldWhenLocked.{HeldWhenLocked}

pub held_left : {t g : ℕ} {l : Lock} {c : ℕ} {m : Lock} → Left t g l c m → HeldWhenLocked l → HeldWhenLocked m
held_left (freed e) H = record { free = λ w. e; busy = λ w. refl }
held_left {c = c} (kept e) H = record {
  free = λ w. absurd (e (ap (λ (x : ℕ). without_core x c) (H.free w) ∙ without_empty c));
  busy = λ w. absurd (e w);
}

pub held_locked : (l : Lock) (c t g : ℕ) → (g ≡ 255 → ⊥) → HeldWhenLocked (locked_for l c t g)
held_locked l c t g n = record {
  free = λ e. absurd (n e);
  busy = λ e. absurd (some_member (with_core l.locked c) c (has_with_same l.locked c) e);
}
