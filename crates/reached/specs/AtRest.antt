-- Demand 3, the shape of the system when none owes, part by part: who holds the lock, what runs, and that nothing else does.
use Rattle.std.specs.Prelude.{ℕ, true, ◌≡◌, refl, ◌⊎◌}
use Rattle.std.proofs.Common.{sym, ap, ◌∙◌, subst, inl, inr}
use Rattle.std.proofs.Math.Decide.{ℕ_discrete}
use Rattle.coreset.specs.Set.{has}
use Rattle.ranges.specs.laws.Logic.{clash}
use Rattle.lock.specs.laws.AtRest.{rest_unique}
use Rattle.lock.specs.laws.Shape.{Shape, rest_shape}
use Rattle.state.specs.laws.Threads.{make_running}
use Rattle.table.specs.laws.Order.{ahead_trans}
use Rattle.system.specs.declared.System.{System}
use Rattle.system.specs.System.{core_in, gang_in, occupant_in, first_in, ahead_in, lineup_in}
use Rattle.effects.specs.Standing.{Locked}
use Rattle.reached.specs.Reached.{Accepted, Reached}
use Rattle.reached.specs.Formed.{reached_accepted}
use Rattle.reached.specs.First.{ReadyThread, HasFirst, first_gang_in, first_is_ready, first_pinned, ready_has_first, none_first, first_not_behind}
use Rattle.reached.specs.WorldOf.{world_of}
use Rattle.reached.specs.GoodReached.{GoodLock, reached_lock, reached_good}
use Rattle.reached.specs.EveryState.{Runs, running_occupies}
use Rattle.reached.specs.Demand3.{NoneOwes}

-- gang g has a ready thread
pub record HasReady (s : System) (g : ℕ) : Type 0 where
  pub thread : ℕ
  pub is_ready : ReadyThread s thread
  pub its_gang : gang_in s thread ≡ g

-- core d's first ready thread is the holder's
abbrev pub FirstIsHolders : System → ℕ → Type 0
FirstIsHolders s d = HasFirst s d × (first_gang_in s d ≡ s.lock.holder)

-- core d is blocked
abbrev pub Blocked : System → ℕ → Type 0
Blocked s d = has s.lock.blocked d ≡ true

-- no thread is ready
abbrev pub NoneReady : System → Type 0
NoneReady s = (t : ℕ) → ReadyThread s t → ⊥

module _ {s : System} (R : Reached s) (none : NoneOwes s) where
  a : Accepted s.table
  a = reached_accepted R

  shape : Shape (world_of s (reached_accepted R)) s.lock
  shape = rest_shape (world_of s (reached_accepted R)) s.lock (record { good = reached_good R; none_owes = none })

  -- ---- the lock is held by the highest-priority gang with a ready thread

  -- where some thread is ready the lock is held,
  pub rest_held : (t : ℕ) → ReadyThread s t → s.lock.holder ≡ 255 → ⊥
  rest_held t r = shape.held (core_in s t) (ready_has_first s a (core_in s t) t r refl)

  -- by a gang that has a ready thread,
  pub rest_holder_ready : (t : ℕ) → ReadyThread s t → HasReady s s.lock.holder
  rest_holder_ready t r =
      let w = shape.by_ready (core_in s t) (ready_has_first s a (core_in s t) t r refl) in
      record { thread = first_in s w.core; is_ready = first_is_ready s a w.core w.ready; its_gang = w.its_gang }

  -- every ready thread is of that gang, or of one behind it, by way of its core's first ready thread
  behind : (t : ℕ) → ReadyThread s t → (gang_in s t ≡ s.lock.holder → ⊥) → ahead_in s s.lock.holder (gang_in s t) ≡ true
  behind t r ne = go (first_not_behind s a (core_in s t) t r refl) (ℕ_discrete (first_gang_in s (core_in s t)) s.lock.holder)
    where
      k : ℕ
      k = first_gang_in s (core_in s t)

      past : (k ≡ s.lock.holder → ⊥) → ahead_in s s.lock.holder k ≡ true
      past f = shape.by_highest (core_in s t) (ready_has_first s a (core_in s t) t r refl) f

      go : (gang_in s t ≡ k) ⊎ (ahead_in s k (gang_in s t) ≡ true) → Dec (k ≡ s.lock.holder) → ahead_in s s.lock.holder (gang_in s t) ≡ true
      go (inl e) (yes f) = absurd (ne (e ∙ f))
      go (inl e) (no f) = ap (ahead_in s s.lock.holder) e ∙ past f
      go (inr b) (yes f) = ap (λ (g : ℕ). ahead_in s g (gang_in s t)) (sym f) ∙ b
      go (inr b) (no f) = ahead_trans (lineup_in s) s.lock.holder k (gang_in s t) (past f) b

  -- which is ahead of every other gang that has one
  pub rest_holder_highest : (g : ℕ) → HasReady s g → (g ≡ s.lock.holder → ⊥) → ahead_in s s.lock.holder g ≡ true
  rest_holder_highest g w ne =
      subst (λ (k : ℕ). ahead_in s s.lock.holder k ≡ true) w.its_gang
      (behind w.thread w.is_ready (λ e. ne (sym w.its_gang ∙ e)))

  -- ---- each core whose first ready thread is that gang's runs it

  -- it is locked, and the thread is its occupant, so that it is running
  pub rest_runs : (d : ℕ) → FirstIsHolders s d → Locked s d × (occupant_in s d ≡ first_in s d) × Runs s (first_in s d)
  rest_runs d f =
      let w = shape.runs d f.0 f.1 in (
        w.0,
        w.1,
        make_running s.state s.table.core s.lock.occupant (first_in s d) (first_is_ready s a d f.0).1
            (ap (occupant_in s) (first_pinned s a d f.0) ∙ w.1),
      )

  -- ---- no other core runs a real-time thread

  -- no other core is locked, or has an occupant,
  pub rest_empty : (d : ℕ) → (FirstIsHolders s d → ⊥) → (Locked s d → ⊥) × (occupant_in s d ≡ 255)
  rest_empty d n = let w = shape.empty d (λ h e. n (h, e)) in (λ l. clash l w.0, w.1)

  -- so no thread pinned to it is running
  pub rest_idle : (d : ℕ) → (FirstIsHolders s d → ⊥) → (t : ℕ) → core_in s t ≡ d → Runs s t → ⊥
  rest_idle d n t p r = running_occupies R t r (ap (occupant_in s) p ∙ (rest_empty d n).1)

  -- a core whose first ready thread is another gang's is blocked, and no other core is
  pub rest_blocked : (d : ℕ) → HasFirst s d → (first_gang_in s d ≡ s.lock.holder → ⊥) → Blocked s d
  rest_blocked = shape.blocked

  pub rest_unblocked : (d : ℕ) → (HasFirst s d → first_gang_in s d ≡ s.lock.holder) → Blocked s d → ⊥
  rest_unblocked d h b = clash b (shape.unblocked d h)

  -- ---- where no thread is ready the lock is free: nothing is locked or blocked, and no core has an occupant

  pub rest_free : NoneReady s → (s.lock.holder ≡ 255) × (s.lock.locked ≡ 0) × (s.lock.blocked ≡ 0)
  rest_free n = shape.free (λ d. none_first s a d (λ t r p. n t r))

  pub rest_free_empty : NoneReady s → (d : ℕ) → occupant_in s d ≡ 255
  rest_free_empty n d = (rest_empty d (λ f. n (first_in s d) (first_is_ready s a d f.0))).1

-- ---- the ready threads give all of it

-- of two systems at rest with one table and the same threads' states, by whatever events they came there, the locks are the same

pub rest_given : {s r : System} → Reached s → Reached r → r.table ≡ s.table → r.state ≡ s.state → NoneOwes s → NoneOwes r → r.lock ≡ s.lock
rest_given {s} {r} R Q p q e f =
    rest_unique (world_of s (reached_accepted R)) r.lock s.lock
    (record { good = moved (reached_accepted R); none_owes = f })
    (record { good = reached_good R; none_owes = e })
  where
    moved : GoodLock (record { table = s.table; state = s.state; ledger = r.ledger; lock = r.lock; kept = r.kept })
    moved = subst GoodLock (λ i. record { table = p i; state = q i; ledger = r.ledger; lock = r.lock; kept = r.kept }) (reached_lock Q)
