-- A number in digits.
use Rattle.std.specs.Prelude.{ℕ, zero, suc, ◌+◌, ◌/◌, ◌%◌, List, [], ◌∷◌, ◌++◌, Bool, ◌&&◌, cond, ltb}
use Rattle.lines.specs.Chars.{digits, letters, ten}

-- the character of a digit below sixteen: 0 to 9, then a to f
abbrev pub glyph_of : ℕ → ℕ
glyph_of d = cond (ltb d ten) (digits + d) (letters + d)

-- n in at most so many places: where short, in as few digits as it takes, and else in all the places
unfoldable pub numeral : ℕ → Bool → ℕ → ℕ → List ℕ
numeral base short zero n = []
numeral base short (suc places) n =
    cond (short && ltb n base) (glyph_of n ∷ []) (numeral base short places (n / base) ++ (glyph_of (n % base) ∷ []))
