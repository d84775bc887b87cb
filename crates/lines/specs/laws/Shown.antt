-- Laws of `Shown`.
use Rattle.std.specs.Prelude.{ℕ, ◌≡◌, refl, List, [], take}
use Rattle.std.proofs.Common.{sym, arith}
use Rattle.std.proofs.Math.Seq.{take-append_seam}
use Rattle.lines.specs.Put.{place}
use Rattle.lines.specs.laws.Put.{place_none}
use Rattle.lines.specs.Shown.{Shown}

-- nothing is put
pub shown_nothing : (before : List ℕ) → Shown [] before before 0
shown_nothing before = record { count = refl; text = sym (place_none before 0); fits = omega arith; part = refl }

-- what is shown stands at the start
pub shown_front : {bs before after : List ℕ} {r : ℕ} → Shown bs before after r → take r after ≡ bs
unfolding place
shown_front {bs} s = rw (s.text, s.count) (take-append_seam bs _)
