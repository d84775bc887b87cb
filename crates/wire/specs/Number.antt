-- Document 01, "Records": little-endian numbers. A byte past the end counts as 0.
use Rattle.std.specs.Prelude.{ℕ, ◌+◌, ◌*◌, ◌/◌, ◌%◌, List, ◌∷◌, get_or}

abbrev pub le16 : List ℕ → ℕ → ℕ
le16 s at = get_or s at 0 + 256 * get_or s (at + 1) 0

abbrev pub le32 : List ℕ → ℕ → ℕ
le32 s at = le16 s at + 65536 * le16 s (at + 2)

-- the bytes of a u16, and of a u32, before the bytes that follow
abbrev pub two : ℕ → List ℕ → List ℕ
two n l = n % 256 ∷ n / 256 % 256 ∷ l

abbrev pub four : ℕ → List ℕ → List ℕ
four n l = n % 256 ∷ n / 256 % 256 ∷ n / 65536 % 256 ∷ n / 16777216 % 256 ∷ l
