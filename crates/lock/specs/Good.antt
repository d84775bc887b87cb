-- What holds of the lock at every reached state, given each core's first ready thread.
use Rattle.std.specs.Prelude.{ℕ, Bool, true, false, ◌≡◌, length, get_or}
use Rattle.coreset.specs.Set.{has}
use Rattle.ranges.specs.Range.{NoneOr}
use Rattle.lock.specs.declared.Lock.{Lock}
use Rattle.lock.specs.HeldWhenLocked.{HeldWhenLocked}
use Rattle.lock.specs.World.{World, Ready, first_gang}

-- how a core d that does not owe stands: locked or not, blocked or not, with the occupant o, while h holds the lock
abbrev pub Stands : World → ℕ → ℕ → Bool → Bool → ℕ → Type 0
Stands W h d true y o = Ready W d × (first_gang W d ≡ h) × (o ≡ W.first d) × (y ≡ false)
Stands W h d false true o = Ready W d × (W.higher h (first_gang W d) ≡ true) × (o ≡ 255)
Stands W h d false false o = (W.first d ≡ 255) × (o ≡ 255)

-- core d of the lock l stands so
abbrev pub StandsIn : World → Lock → ℕ → Type 0
StandsIn W l d = Stands W l.holder d (has l.locked d) (has l.blocked d) (get_or l.occupant d 255)

pub record Good (W : World) (l : Lock) : Type 0 where
  pub held : HeldWhenLocked l
  pub holder_in : NoneOr W.gangs l.holder
  pub idle : l.holder ≡ 255 → l.blocked ≡ 0
  pub room : length l.occupant ≡ 32
  pub stands : (d : ℕ) → has l.owing d ≡ false → StandsIn W l d
