-- A well-formed lock, as facts of every core: `lock_ok` tests just these.
use Rattle.std.specs.Prelude.{ℕ, ◌<◌, ◌^◌, true, ◌≡◌}
use Rattle.coreset.specs.Set.{has}
use Rattle.ranges.specs.Range.{NoneOr}
use Rattle.lock.specs.declared.Lock.{Lock}
use Rattle.lock.specs.HeldWhenLocked.{HeldWhenLocked}
use Rattle.lock.specs.LockRules.{Pins, pin_core, pin_gang, occupant_of}

-- o is a thread, of the gang h
abbrev pub Of : (ℕ → ℕ) → ℕ → ℕ → Type 0
Of gang h o = (o ≡ 255 → ⊥) × (gang o ≡ h)

-- t is no thread, or one that is pinned to core d, which exists
abbrev pub Pinned : Pins → ℕ → ℕ → Type 0
Pinned p d t = (t ≡ 255 → ⊥) → (t < p.threads) × (pin_core p t ≡ d) × (d < p.cores)

pub record CoreOk (p : Pins) (l : Lock) (d : ℕ) : Type 0 where
  -- "core sets name only existing cores"
  pub locked_in : has l.locked d ≡ true → d < p.cores
  pub blocked_in : has l.blocked d ≡ true → d < p.cores
  pub owing_in : has l.owing d ≡ true → d < p.cores
  -- "occupants are pinned to their core"
  pub pinned : Pinned p d (occupant_of l d)
  -- "each locked core's occupant the holder's"
  pub ours : has l.locked d ≡ true → Of (pin_gang p) l.holder (occupant_of l d)

pub record LockOk (p : Pins) (l : Lock) : Type 0 where
  -- "held exactly when a core is locked"
  pub held : HeldWhenLocked l
  pub holder_in : NoneOr p.gangs l.holder
  -- "no core blocked while the lock is free"
  pub idle : l.holder ≡ 255 → l.blocked ≡ 0
  pub core : (d : ℕ) → CoreOk p l d

-- the core sets are sets of k cores: of 32, as the type u32 says
pub record Masks (k : ℕ) (l : Lock) : Type 0 where
  pub locked_fits : l.locked < 2 ^ k
  pub blocked_fits : l.blocked < 2 ^ k
  pub owing_fits : l.owing < 2 ^ k
