-- Owing keeps the lock well formed, and the free lock is well formed; and what SERVE is handed where it does so.
use Rattle.std.specs.Prelude.{ℕ, ◌<◌, true, ◌≡◌, refl}
use Rattle.coreset.specs.Set.{has}
use Rattle.coreset.specs.laws.Members.{has_empty, within_members}
use Rattle.lists.specs.laws.Lists.{same_throughout}
use Rattle.ranges.specs.laws.Logic.{clash}
use Rattle.lock.specs.declared.Lock.{Lock}
use Rattle.lock.specs.Serve.{free_lock, with_owing, owe_of}
use Rattle.lock.specs.LockRules.{Pins, pin_core, pin_gang}
use Rattle.lock.specs.LockOk.{LockOk}

-- what is handed to SERVE core c: no thread, or one that is pinned to c, of one of the gangs
abbrev pub Handed : Pins → ℕ → ℕ → Type 0
Handed p c t = (t ≡ 255 → ⊥) → (t < p.threads) × (pin_core p t ≡ c) × (pin_gang p t < p.gangs)

-- ---- owing, and the free lock

-- any existing cores may be those that owe
pub kept_owing : (p : Pins) (l : Lock) (m : ℕ) → ((d : ℕ) → has m d ≡ true → d < p.cores) → LockOk p l → LockOk p (with_owing l m)
kept_owing p l m h L = record {
  held = record { free = L.held.free; busy = L.held.busy };
  holder_in = L.holder_in;
  idle = L.idle;
  core = λ d. let C = L.core d in record {
    locked_in = C.locked_in;
    blocked_in = C.blocked_in;
    owing_in = h d;
    pinned = C.pinned;
    ours = C.ours;
  };
}

pub kept_owe : (p : Pins) (l : Lock) (c : ℕ) → c < p.cores → LockOk p l → LockOk p (owe_of l c)
kept_owe p l c i L = kept_owing p l _ (within_members 32 p.cores l.owing c i (λ d. (L.core d).owing_in)) L

pub free_ok : (p : Pins) → LockOk p free_lock
free_ok p = record {
  held = record { free = λ e. refl; busy = λ e. refl };
  holder_in = λ ne. absurd (ne refl);
  idle = λ e. refl;
  core = λ d. record {
    locked_in = λ h. absurd (clash h (has_empty d));
    blocked_in = λ h. absurd (clash h (has_empty d));
    owing_in = λ h. absurd (clash h (has_empty d));
    pinned = λ ne. absurd (ne (same_throughout 32 d 255));
    ours = λ h. absurd (clash h (has_empty d));
  };
}
