-- Document 01, TRAFFIC: "the true sum since the last TICK", in unbounded numbers and from the history alone; and the stop rule by it.
use Rattle.std.specs.Prelude.{ℕ, ◌+◌, Bool, true, false, not, cond, ◌&&◌, List, [], ◌∷◌, eqb, leb}
use Rattle.wire.specs.declared.event.Event.{Event}
use Rattle.wire.specs.declared.event.Event.TheVariants as event
use Rattle.system.specs.declared.System.{System}
use Rattle.system.specs.Stop.{budget_in}
use Rattle.system.specs.System.{occupant_in}
use Rattle.effects.specs.Run.{Entry}
use Rattle.reached.specs.History.{is_accepted}

-- ---- "since the last TICK"

abbrev pub is_tick : Event → Bool
is_tick (event.Release gang) = false
is_tick (event.Finish thread) = false
is_tick (event.Wait thread) = false
is_tick (event.Wake thread) = false
is_tick (event.Serve core) = false
is_tick (event.Traffic core transactions) = false
is_tick event.Tick = true

abbrev pub ticked : Entry → Bool
ticked x = is_accepted x.answer && is_tick x.event

-- `since`, or what follows the last TICK of h where it has one
unfoldable pub last_tick : List Entry → List Entry → List Entry
last_tick since [] = since
last_tick since (x ∷ h) = cond (ticked x) (last_tick h h) (last_tick since h)

-- the entries since the last TICK, all of them where there is none
abbrev pub since_tick : List Entry → List Entry
since_tick h = last_tick h h

-- ---- "the true sum"

-- the transactions of "TRAFFIC" of core c
abbrev pub transactions_of : ℕ → Event → ℕ
transactions_of c (event.Release gang) = 0
transactions_of c (event.Finish thread) = 0
transactions_of c (event.Wait thread) = 0
transactions_of c (event.Wake thread) = 0
transactions_of c (event.Serve core) = 0
transactions_of c (event.Traffic core transactions) = cond (eqb core c) transactions 0
transactions_of c event.Tick = 0

-- a refused TRAFFIC does not count
abbrev pub grown_by : ℕ → Entry → ℕ
grown_by c x = cond (is_accepted x.answer) (transactions_of c x.event) 0

unfoldable pub total_of : ℕ → List Entry → ℕ
total_of c [] = 0
total_of c (x ∷ h) = grown_by c x + total_of c h

-- core c's "true sum since the last TICK"
abbrev pub true_sum : ℕ → List Entry → ℕ
true_sum c h = total_of c (since_tick h)

-- ---- the stop rule

-- "A core is stopped when it has no occupant, the lock is held, and its true sum is at least the holder's budget"
abbrev pub truly_stopped : System → List Entry → ℕ → Bool
truly_stopped s h c =
    eqb (occupant_in s c) 255
    && (not (eqb s.lock.holder 255)
    && leb (budget_in s) (true_sum c h))
