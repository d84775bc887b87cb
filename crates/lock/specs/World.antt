-- What serving goes by and never changes: the order of gangs, each thread's gang, and each core's first ready thread.
use Rattle.std.specs.Prelude.{ℕ, ◌<◌, Bool, true, false, ◌≡◌}
use Rattle.lock.specs.declared.Lock.{Lock}
use Rattle.lock.specs.Serve.{serve_by}

-- an order of gangs: of any two gangs of the table exactly one is ahead
pub record Order (gangs : ℕ) (higher : ℕ → ℕ → Bool) : Type 0 where
  pub irrefl : (g : ℕ) → higher g g ≡ false
  pub trans : (g h k : ℕ) → higher g h ≡ true → higher h k ≡ true → higher g k ≡ true
  pub total : (g h : ℕ) → g < gangs → h < gangs → (g ≡ h → ⊥) → higher g h ≡ false → higher h g ≡ true

-- `first d` is core d's first ready thread, or 255 for none
pub record World : Type 0 where
  pub higher : ℕ → ℕ → Bool
  pub gang : ℕ → ℕ
  pub first : ℕ → ℕ
  pub gangs : ℕ
  pub strict : Order gangs higher
  pub real : (t : ℕ) → gang t < gangs
  pub a_gang : (t : ℕ) → gang t ≡ 255 → ⊥

-- core d has a first ready thread
abbrev pub Ready : World → ℕ → Type 0
Ready W d = W.first d ≡ 255 → ⊥

-- the gang of core d's first ready thread
abbrev pub first_gang : World → ℕ → ℕ
first_gang W d = W.gang (W.first d)

-- SERVE core c in the world W
abbrev pub serve : World → Lock → ℕ → Lock
serve W l c = serve_by (W.higher (first_gang W c)) l c (W.first c) (first_gang W c)
