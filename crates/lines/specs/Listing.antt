-- Document 01, "The listing": what one event prints.
use Rattle.std.specs.Prelude.{ℕ, List, [], ◌∷◌, ◌++◌, Bool, true, false, cond, eqb}
use Rattle.lines.specs.Chars.{space, line_feed, dash, ten, sixteen, places8, places16, places32, hex_places, no_holder}
use Rattle.lines.specs.Number.{numeral}
use Rattle.lines.specs.declared.Line.{Line}

-- a number's digits and the space after them
unfoldable pub field_of : ℕ → Bool → ℕ → ℕ → List ℕ
field_of base short places n = numeral base short places n ++ (space ∷ [])

-- a decimal number, in as few digits as it takes
abbrev pub decimal_of : ℕ → ℕ → List ℕ
decimal_of places n = field_of ten true places n

-- eight hex digits
abbrev pub hex_of : ℕ → List ℕ
hex_of n = field_of sixteen false hex_places n

-- a gang or a thread, or other bytes where there is none
unfoldable pub some_or : List ℕ → ℕ → List ℕ
some_or other n = cond (eqb n no_holder) other (numeral ten true places8 n)

-- the holder, or '-'
abbrev pub holder_of : ℕ → List ℕ
holder_of h = some_or (dash ∷ []) h

-- position, kind, refusal, value, number, owing and locked as eight hex digits, holder or '-'
unfoldable pub line_of : Line → List ℕ
line_of l =
    decimal_of places32 l.position
    ++ decimal_of places16 l.kind
    ++ decimal_of places8 l.refusal
    ++ decimal_of places8 l.value
    ++ decimal_of places32 l.number
    ++ hex_of l.owing
    ++ hex_of l.locked
    ++ holder_of l.holder
    ++ (line_feed ∷ [])
