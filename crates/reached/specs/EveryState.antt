-- Document 01, "At every reached state": the lock is held exactly when some core is locked; a locked core's occupant is the holder's; a core with
-- an occupant that isn't locked owes.
-- "Two gangs can therefore overlap only on owing cores."
use Rattle.std.specs.Prelude.{ℕ, ◌<◌, true, ◌≡◌, ◌⊎◌, ◌↔◌}
use Rattle.std.proofs.Common.{sym, ap, ◌∙◌, inl, inr, arith}
use Rattle.std.proofs.Math.Decide.{dec_lt, ℕ_discrete}
use Rattle.coreset.specs.Set.{has}
use Rattle.lock.specs.laws.Good.{occupied_owes}
use Rattle.ranges.specs.laws.Logic.{is_false}
use Rattle.table.specs.Numbers.{ready}
use Rattle.state.specs.laws.Threads.{running_is}
use Rattle.system.specs.declared.System.{System}
use Rattle.system.specs.System.{state_in, core_in, gang_in, occupant_in, running}
use Rattle.effects.specs.Standing.{Locked, held_exactly, locked_occupied, locked_holders}
use Rattle.reached.specs.Reached.{Reached}
use Rattle.reached.specs.Formed.{reached_formed, reached_accepted, reached_threads}
use Rattle.reached.specs.First.{ReadyThread}
use Rattle.reached.specs.WorldOf.{world_of, gang_not_none}
use Rattle.reached.specs.GoodReached.{reached_good}

-- core d owes
abbrev pub Owes : System → ℕ → Type 0
Owes s d = has s.lock.owing d ≡ true

-- core d has an occupant
abbrev pub Occupied : System → ℕ → Type 0
Occupied s d = occupant_in s d ≡ 255 → ⊥

-- thread t is running
abbrev pub Runs : System → ℕ → Type 0
Runs s t = running s t ≡ true

module _ {s : System} (R : Reached s) where
  -- "the lock is held exactly when some core is locked"
  pub held_when_locked : (s.lock.holder ≡ 255 → ⊥) ↔ ((d : ℕ) × Locked s d)
  held_when_locked = held_exactly s (reached_formed R)

  -- "a locked core's occupant is the holder's"
  pub locked_occupant : (d : ℕ) → Locked s d → Occupied s d × (gang_in s (occupant_in s d) ≡ s.lock.holder)
  locked_occupant d l = (locked_occupied s (reached_formed R) d l, locked_holders s (reached_formed R) d l)

  -- "a core with an occupant that isn't locked owes"
  pub unlocked_owes : (d : ℕ) → Occupied s d → (Locked s d → ⊥) → Owes s d
  unlocked_owes d o n = occupied_owes (world_of s (reached_accepted R)) s.lock (reached_good R) d (is_false (has s.lock.locked d) n) o

  -- "A thread is running when it is its core's occupant and is ready"
  pub running_ready : (t : ℕ) → Runs s t → ReadyThread s t
  running_ready t r = (inside (dec_lt t s.table.sizes.threads), e)
    where
      e : state_in s t ≡ ready
      e = (running_is s.state s.table.core s.lock.occupant t r).0

      inside : Dec (t < s.table.sizes.threads) → t < s.table.sizes.threads
      inside (yes l) = l
      inside (no l) = let z = (reached_formed R).states.unused t (omega arith) in let k = e in absurd (omega arith)

  pub running_occupant : (t : ℕ) → Runs s t → occupant_in s (core_in s t) ≡ t
  running_occupant t r = (running_is s.state s.table.core s.lock.occupant t r).1

  pub running_occupies : (t : ℕ) → Runs s t → Occupied s (core_in s t)
  running_occupies t r e =
      let o = running_occupant t r in
      let l = (running_ready t r).0 in
      let m = reached_threads R in
      omega arith

  -- "Two gangs can therefore overlap only on owing cores": any occupant that is not the holder's is on an owing core,
  pub foreign_owes : (d : ℕ) → Occupied s d → (gang_in s (occupant_in s d) ≡ s.lock.holder → ⊥) → Owes s d
  foreign_owes d o ne = unlocked_owes d o (λ l. ne (locked_occupant d l).1)

  -- and where the lock is free, any occupant at all is
  pub free_owes : s.lock.holder ≡ 255 → (d : ℕ) → Occupied s d → Owes s d
  free_owes free d o = foreign_owes d o (λ e. gang_not_none s.table (reached_accepted R) (occupant_in s d) (e ∙ free))

  -- so a running thread that is not the holder's is on an owing core,
  running_owes : (t : ℕ) → Runs s t → (gang_in s t ≡ s.lock.holder → ⊥) → Owes s (core_in s t)
  running_owes t r ne = foreign_owes (core_in s t) (running_occupies t r) (λ e. ne (ap (gang_in s) (sym (running_occupant t r)) ∙ e))

  -- and of two running threads of different gangs one is on an owing core
  pub overlap_owes : (t u : ℕ) → Runs s t → Runs s u → (gang_in s t ≡ gang_in s u → ⊥) → Owes s (core_in s t) ⊎ Owes s (core_in s u)
  overlap_owes t u p q ne = go (ℕ_discrete (gang_in s t) s.lock.holder)
    where
      go : Dec (gang_in s t ≡ s.lock.holder) → Owes s (core_in s t) ⊎ Owes s (core_in s u)
      go (yes e) = inr (running_owes u q (λ f. ne (e ∙ sym f)))
      go (no n) = inl (running_owes t p n)
