-- A number that may be none is put: the other bytes where it is, and else its digits.
use Rattle.std.specs.Prelude.{ℕ, ◌≤◌, ◌≡◌, true, List}
use Rattle.std.proofs.Common.{arith, eq-eqb, ne_eqb}
use Rattle.lines.specs.Chars.{ten, places8, no_holder}
use Rattle.lines.specs.Number.{numeral}
use Rattle.lines.specs.Put.{Put}
use Rattle.lines.specs.laws.Put.{put_as}
use Rattle.lines.specs.Listing.{some_or}

module _ (other : List ℕ) (n : ℕ) {before after : List ℕ} {at next : ℕ} where
  pub put_other : {most : ℕ} → n ≡ no_holder → Put other most before after at next → most ≤ places8
      → Put (some_or other n) places8 before after at next
  unfolding some_or
  put_other e p m = put_as p (rw (eq-eqb n no_holder e)) m

  pub put_some : (n ≡ no_holder → ⊥) → Put (numeral ten true places8 n) places8 before after at next
      → Put (some_or other n) places8 before after at next
  unfolding some_or
  put_some e p = put_as p (rw (ne_eqb n no_holder e)) (omega arith)
