-- A promise of the form `r ≡ d`, with d a definition of the arguments, allows one answer; and so does one on what a lent output then holds.
use Rattle.std.specs.Prelude.{◌≡◌}
use Rattle.std.proofs.Common.{sym, ◌∙◌}

pub one_answer {ℓ} : {A : Type ℓ} (d : A) {r q : A} → r ≡ d → q ≡ d → r ≡ q
one_answer d e f = e ∙ sym f
