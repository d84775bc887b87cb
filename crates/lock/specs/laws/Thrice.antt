-- Owing cores that are served one after the other.
use Rattle.std.specs.Prelude.{ℕ, ◌<◌, true, ◌≡◌, List, [], ◌∷◌}
use Rattle.coreset.specs.Set.{has}
use Rattle.lock.specs.declared.Lock.{Lock}
use Rattle.lock.specs.World.{World, serve}

-- from l, the owing cores of the list are served one after the other, up to r
pub data Serving (W : World) : Lock → List ℕ → Lock → Type 0 where
  serving_done : {l : Lock} → Serving W l [] l
  serving_then : {l r : Lock} {c : ℕ} {cs : List ℕ} → c < 32 → has l.owing c ≡ true → Serving W (serve W l c) cs r → Serving W l (c ∷ cs) r
