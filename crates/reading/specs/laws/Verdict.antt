-- Verdicts apart: accepted is not refused, and each refusal is a verdict of its own.
use Rattle.std.specs.Prelude.{ℕ, ◌≡◌}
use Rattle.std.proofs.Common.{arith}
use Rattle.wire.specs.declared.refusal.Refusal.{Refusal}
use Rattle.reading.specs.Verdict.{Accepted, Refused}

pub no_refusal : {r : Refusal} → Accepted ≡ Refused r → ⊥
no_refusal q = let z : ◌≡◌ {A = ℕ} 0 1 = cc in omega arith

pub one_refusal : {a r : Refusal} → Refused a ≡ Refused r → a ≡ r
one_refusal q = cc
