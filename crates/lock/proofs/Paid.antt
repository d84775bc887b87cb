-- SERVE leaves the core that it serves not owing.
use Rattle.std.specs.Prelude.{ℕ, Bool, false, ◌≡◌}
use Rattle.coreset.specs.Set.{has}
use Rattle.coreset.specs.laws.Members.{has_without_same, or_neither}
use Rattle.lock.specs.declared.Lock.{Lock}
use Rattle.lock.specs.laws.ServeSteps.{Left, freed, kept, Admitted, none, took, seized, blocked}

-- after (a) and (b) c does not owe and is not locked
left_paid : {t g : ℕ} {l : Lock} {c : ℕ} {m : Lock} → Left t g l c m → has m.owing c ≡ false
left_paid {l = l} {c = c} (freed e) = or_neither _ _ c (has_without_same l.owing c) (has_without_same l.blocked c)
left_paid {l = l} {c = c} (kept e) = has_without_same l.owing c

left_open : {t g : ℕ} {l : Lock} {c : ℕ} {m : Lock} → Left t g l c m → has m.locked c ≡ false
left_open {l = l} {c = c} (freed e) = has_without_same l.locked c
left_open {l = l} {c = c} (kept e) = has_without_same l.locked c

-- the served core does not owe
pub paid : {t g : ℕ} {a : Bool} {l : Lock} {c : ℕ} {m r : Lock} → Left t g l c m → Admitted t g a m c r → has r.owing c ≡ false
paid b (none e) = left_paid b
paid b (took n h) = left_paid b
paid {m = m} b (seized n h k s) = or_neither m.owing m.locked _ (left_paid b) (left_open b)
paid b (blocked n h k s) = left_paid b
