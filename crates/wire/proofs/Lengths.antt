-- The first pair of the list of lengths that passes a test, as `any` and `find` look for it.
use Rattle.std.proofs.Common.{ℕ, ◌≡◌, refl, Bool, true, false, cond, ◌||◌, List, [], ◌∷◌, Option, Some, None}
use Rattle.std.specs.List.{list_any, find}
use Rattle.wire.specs.declared.kinds.Pair.{Pair}
use Rattle.wire.specs.Kinds.{first_pair}

-- what is said of a pair that was found, or of none
abbrev pub said_of : (Pair → ℕ) → ℕ → Option Pair → ℕ
said_of says other (Some p) = says p
said_of says other None = other

module _ (passes : Pair → Bool) where
  pub any_passes : (ps : List Pair) → list_any passes ps ≡ first_pair passes (λ p. true) false ps
  any_passes [] = refl
  any_passes (p ∷ ps) = by (passes p) (any_passes ps)
    where
      by : (b : Bool) → list_any passes ps ≡ first_pair passes (λ p. true) false ps
          → (b || list_any passes ps) ≡ cond b true (first_pair passes (λ p. true) false ps)
      by true e = refl
      by false e = e

  pub find_says : (says : Pair → ℕ) (other : ℕ) (ps : List Pair) → said_of says other (find passes ps) ≡ first_pair passes says other ps
  find_says says other [] = refl
  find_says says other (p ∷ ps) = by (passes p) (find_says says other ps)
    where
      by : (b : Bool) → said_of says other (find passes ps) ≡ first_pair passes says other ps
          → said_of says other (cond b (Some p) (find passes ps)) ≡ cond b (says p) (first_pair passes says other ps)
      by true e = refl
      by false e = e
