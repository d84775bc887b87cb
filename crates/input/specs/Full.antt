-- What filling a buffer comes to: how much of it is filled, and with which of the bytes that the reader had left, where those are known.
use Rattle.std.specs.Prelude.{ℕ, ◌≤◌, ◌<◌, List, length, take, Option}
use Rattle.std.specs.Io.KnownBytes.{Consumes, IsAtEnd}

-- old and new are the bytes that the reader has left before and after; n bytes of the buffer are filled
pub record Filled (old new : Option (List ℕ)) (n : ℕ) (buffer : List ℕ) : Type 0 where
  pub within : n ≤ length buffer
  pub consumed : Consumes old new (take n buffer)
  pub ended : n < length buffer → IsAtEnd new
