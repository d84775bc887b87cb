-- Document 02, K3: each of the seven reasons of thread t by a definition of its own, in the request's words; and when one is the first that holds.
use Rattle.std.specs.Prelude.{ℕ, true, false, ◌≡◌}
use Rattle.coreset.specs.Set.{has}
use Rattle.table.specs.Numbers.{finished, waiting}
use Rattle.system.specs.declared.System.{System}
use Rattle.system.specs.System.{state_in, core_in, gang_in, running, first_in, ahead_in}
use Rattle.reason.specs.declared.Reason.{Reason}
use Rattle.reason.specs.declared.Reason.TheVariants as reason

-- 1. "finished"
abbrev pub IsFinished : System → ℕ → Type 0
IsFinished s t = state_in s t ≡ finished

-- 2. "waiting"
abbrev pub IsWaiting : System → ℕ → Type 0
IsWaiting s t = state_in s t ≡ waiting

-- 3. "it is running on a locked core"
abbrev pub RunsLocked : System → ℕ → Type 0
RunsLocked s t = (running s t ≡ true) × (has s.lock.locked (core_in s t) ≡ true)

-- 4. "it is running but displaced": its core is not locked
abbrev pub RunsDisplaced : System → ℕ → Type 0
RunsDisplaced s t = (running s t ≡ true) × (has s.lock.locked (core_in s t) ≡ false)

-- 5. "its core owes a reschedule"
abbrev pub ItsCoreOwes : System → ℕ → Type 0
ItsCoreOwes s t = has s.lock.owing (core_in s t) ≡ true

-- 6. "another thread is ahead of it on its core (the core's first ready thread)": thread u
abbrev pub IsBehind : System → ℕ → ℕ → Type 0
IsBehind s t u = (first_in s (core_in s t) ≡ u) × (u ≡ t → ⊥)

-- 7. "a gang of higher priority holds the lock (which)": gang g
abbrev pub IsOutranked : System → ℕ → ℕ → Type 0
IsOutranked s t g = (s.lock.holder ≡ g) × (g ≡ 255 → ⊥) × (ahead_in s g (gang_in s t) ≡ true)

-- ---- none of the first one, of the first two, and so on

abbrev pub Past1 : System → ℕ → Type 0
Past1 s t = IsFinished s t → ⊥

abbrev pub Past2 : System → ℕ → Type 0
Past2 s t = Past1 s t × (IsWaiting s t → ⊥)

abbrev pub Past3 : System → ℕ → Type 0
Past3 s t = Past2 s t × (RunsLocked s t → ⊥)

abbrev pub Past4 : System → ℕ → Type 0
Past4 s t = Past3 s t × (RunsDisplaced s t → ⊥)

abbrev pub Past5 : System → ℕ → Type 0
Past5 s t = Past4 s t × (ItsCoreOwes s t → ⊥)

abbrev pub Past6 : System → ℕ → Type 0
Past6 s t = Past5 s t × ((u : ℕ) → IsBehind s t u → ⊥)

abbrev pub Past7 : System → ℕ → Type 0
Past7 s t = Past6 s t × ((g : ℕ) → IsOutranked s t g → ⊥)

-- "the first of these that holds": it is true and no earlier one is
abbrev pub FirstHolds : System → ℕ → Reason → Type 0
FirstHolds s t reason.Finished = IsFinished s t
FirstHolds s t reason.Waiting = Past1 s t × IsWaiting s t
FirstHolds s t reason.RunningLocked = Past2 s t × RunsLocked s t
FirstHolds s t reason.RunningDisplaced = Past3 s t × RunsDisplaced s t
FirstHolds s t reason.CoreOwes = Past4 s t × ItsCoreOwes s t
FirstHolds s t (reason.ThreadAhead u) = Past5 s t × IsBehind s t u
FirstHolds s t (reason.GangHolds g) = Past6 s t × IsOutranked s t g
FirstHolds s t reason.NoneOfThese = Past7 s t
