-- The line that a thread's reason gives is the text that is printed of the thread.
use Rattle.std.proofs.Common.{◌≡◌, ap, ◌∙◌, List, [], ℕ, Result}
use Rattle.std.specs.Result.{result_unwrap_or}
use Rattle.wire.specs.declared.refusal.Refusal.{Refusal}
use Rattle.system.specs.declared.System.{System}
use Rattle.listed.specs.Reasons.{reason_listed, reason_text, reason_listed_told}

pub told : (s : System) (position t : ℕ) (x : Result (List ℕ) Refusal) → x ≡ reason_listed s position t
    → result_unwrap_or x [] ≡ reason_text s position t
told s position t x e = ap (λ (r : Result (List ℕ) Refusal). result_unwrap_or r []) e ∙ reason_listed_told s position t
