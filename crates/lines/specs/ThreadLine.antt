-- Document 02, K3: what one thread prints after an event: "position, thread, reason in words, .. and which thread or gang where there is one".
use Rattle.std.specs.Prelude.{ℕ, List, [], ◌∷◌, ◌++◌, take}
use Rattle.lines.specs.Chars.{line_feed, places8, places32, most_words}
use Rattle.lines.specs.Listing.{decimal_of, some_or}

-- the thread or gang, and nothing where there is none
abbrev pub which_of : ℕ → List ℕ
which_of w = some_or [] w

-- the words, as far as there are places for them
unfoldable pub thread_line_of : ℕ → ℕ → List ℕ → ℕ → List ℕ
thread_line_of position thread words which =
    decimal_of places32 position
    ++ decimal_of places8 thread
    ++ take most_words words
    ++ which_of which
    ++ (line_feed ∷ [])
