-- The three cases of a number's digits.
use Rattle.std.specs.Prelude.{ℕ, zero, suc, ◌-◌, ◌/◌, ◌%◌, ◌≡◌, refl, [], ◌∷◌, ◌++◌, Bool, true, false, ◌&&◌, ltb}
use Rattle.std.proofs.Common.{arith}
use Rattle.lines.specs.Number.{glyph_of, numeral}

-- no place, no digit
pub numeral_none : (base : ℕ) (short : Bool) (places n : ℕ) → places ≡ 0 → numeral base short places n ≡ []
unfolding numeral
numeral_none base short places n e = rw e

-- a short number below the base is one digit
pub numeral_one : (base : ℕ) (short : Bool) (places n : ℕ) → (places ≡ 0 → ⊥) → (short && ltb n base) ≡ true
    → numeral base short places n ≡ glyph_of n ∷ []
unfolding numeral
numeral_one base short zero n p e = absurd (p refl)
numeral_one base short (suc places) n p e = rw e

-- any other number is its quotient's digits, and then the remainder
pub numeral_more : (base : ℕ) (short : Bool) (places n : ℕ) → (places ≡ 0 → ⊥) → (short && ltb n base) ≡ false
    → numeral base short places n ≡ numeral base short (places - 1) (n / base) ++ (glyph_of (n % base) ∷ [])
unfolding numeral
numeral_more base short zero n p e = absurd (p refl)
numeral_more base short (suc places) n p e =
    let q : suc places - 1 ≡ places = omega arith in
    rw (e, q)
