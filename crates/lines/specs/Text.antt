-- A quoted text as bytes.
use Rattle.std.specs.Prelude.{ℕ, List, codes}
use Prim.Native.String.{String}

-- the codes of its characters
abbrev pub bytes_in : String → List ℕ
bytes_in text = codes text
