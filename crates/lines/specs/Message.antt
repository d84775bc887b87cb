-- Document 01, "The listing": the message lines, "Otherwise one line": words, and for a refusal "R at P".
use Rattle.std.specs.Prelude.{ℕ, List, [], ◌∷◌, ◌++◌, true, take}
use Rattle.lines.specs.Chars.{line_feed, ten, places8, places32, most_words}
use Rattle.lines.specs.Number.{numeral}
use Rattle.lines.specs.Text.{bytes_in}

-- the words, as far as there are places for them
unfoldable pub words_line_of : List ℕ → List ℕ
words_line_of words = take most_words words ++ (line_feed ∷ [])

-- "R at P", which ends the line
abbrev pub refusal_at : ℕ → ℕ → List ℕ
refusal_at r p = numeral ten true places8 r ++ (bytes_in " at " ++ (numeral ten true places32 p ++ (line_feed ∷ [])))

-- the words, and then the refusal's number and its place
unfoldable pub refusal_line_of : List ℕ → ℕ → ℕ → List ℕ
refusal_line_of words number place = take most_words words ++ refusal_at number place
