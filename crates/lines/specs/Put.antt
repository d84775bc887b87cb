-- Bytes put into a list of bytes: what every put function promises.
use Rattle.std.specs.Prelude.{ℕ, ◌+◌, ◌≤◌, ◌≡◌, List, ◌++◌, length, take, drop}

-- o with bs from place at on
unfoldable pub place : List ℕ → ℕ → List ℕ → List ℕ
place o at bs = take at o ++ (bs ++ drop (at + length bs) o)

-- bs, of which there are at most most, were put at the place at, and next is the place after them
pub record Put (bs : List ℕ) (most : ℕ) (before after : List ℕ) (at next : ℕ) : Type 0 where
  pub count : next ≡ at + length bs
  pub bound : next ≤ at + most
  pub text : after ≡ place before at bs
