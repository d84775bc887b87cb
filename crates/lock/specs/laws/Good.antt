-- What a core's standing tells, and that a fresh lock is good.
use Rattle.std.specs.Prelude.{ℕ, Bool, true, false, ◌≡◌, refl, get_or}
use Rattle.coreset.specs.Set.{has}
use Rattle.coreset.specs.laws.Members.{has_empty}
use Rattle.lists.specs.laws.Lists.{same_throughout}
use Rattle.lock.specs.declared.Lock.{Lock}
use Rattle.lock.specs.Serve.{free_lock}
use Rattle.lock.specs.World.{World, Ready, first_gang}
use Rattle.lock.specs.Good.{Stands, StandsIn, Good}

module _ (W : World) (l : Lock) (d : ℕ) (s : StandsIn W l d) where
  locked : has l.locked d ≡ true → Stands W l.holder d true (has l.blocked d) (get_or l.occupant d 255)
  locked p = rw p at s

  -- a locked core has a first ready thread, which is the holder's
  pub locked_first : has l.locked d ≡ true → Ready W d
  locked_first p = (locked p).0

  pub locked_gang : has l.locked d ≡ true → first_gang W d ≡ l.holder
  locked_gang p = (locked p).1

-- a core that does not owe and is not locked has no occupant
unlocked_empty : (W : World) (h d : ℕ) (y : Bool) (o : ℕ) → Stands W h d false y o → o ≡ 255
unlocked_empty W h d true o s = s.2
unlocked_empty W h d false o s = s.1

-- so a core with an occupant that isn't locked owes
pub occupied_owes : (W : World) (l : Lock) → Good W l → (d : ℕ) → has l.locked d ≡ false → (get_or l.occupant d 255 ≡ 255 → ⊥)
    → has l.owing d ≡ true
occupied_owes W l G d p ne = go (has l.owing d) refl
  where
    go : (x : Bool) → has l.owing d ≡ x → has l.owing d ≡ true
    go true e = e
    go false e = absurd (ne (unlocked_empty W l.holder d (has l.blocked d) (get_or l.occupant d 255) (rw p at (G.stands d e))))

-- a fresh lock is good where no thread is ready
pub good_free : (W : World) → ((d : ℕ) → W.first d ≡ 255) → Good W free_lock
good_free W h = record {
  held = record { free = λ e. refl; busy = λ e. refl };
  holder_in = λ ne. absurd (ne refl);
  idle = λ e. refl;
  room = refl;
  stands = λ d o. rw (has_empty d) (h d, same_throughout 32 d 255);
}
