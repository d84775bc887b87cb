-- The ways that an event goes: refused, for one of the reasons of document 01's table of refusal numbers, or accepted, and then with which reply.
use Rattle.std.specs.Prelude.{ℕ, ◌≤◌, ◌<◌, Bool, true, false, ◌≡◌, ◌⊎◌, get_or}
use Rattle.ledger.specs.Releases.{last_number}
use Rattle.state.specs.Allowance.{max_traffic}
use Rattle.state.specs.Threads.{all_finished}
use Rattle.table.specs.Numbers.{finished, ready, waiting}
use Rattle.wire.specs.declared.answer.Answer.TheVariants.{Served, Skipped, Occupant, Counted, Done}
use Rattle.wire.specs.declared.event.Event.{Event}
use Rattle.wire.specs.declared.event.Event.TheVariants as event
use Rattle.wire.specs.declared.refusal.Refusal.{Refusal}
use Rattle.wire.specs.declared.refusal.Refusal.TheVariants.{OutOfRange, NotRunning, NotWaiting, CoreOccupied, NumbersSpent}
use Rattle.system.specs.declared.System.{System}
use Rattle.system.specs.declared.events.Reply.{Reply}
use Rattle.system.specs.Events.{reply_of, refused_by, served_by, skipped_by, turned, served_lock, counted, tick_step}
use Rattle.system.specs.Stop.{stopped}
use Rattle.system.specs.System.{state_in, occupant_in, kept_in, number_in, running, with_lock}

-- all of gang g's threads are finished
abbrev pub all_done : System → ℕ → Bool
all_done s g = all_finished s.state s.table.gang g s.table.sizes.threads

-- an event, and the refusal that it is given
pub data Refuses (s : System) : Event → Refusal → Type 0 where
  -- 6, "a .. number or transaction count out of range or not in the table"
  no_gang : {g : ℕ} → s.table.sizes.gangs ≤ g → Refuses s (event.Release g) OutOfRange
  none_to_finish : {t : ℕ} → s.table.sizes.threads ≤ t → Refuses s (event.Finish t) OutOfRange
  none_to_wait : {t : ℕ} → s.table.sizes.threads ≤ t → Refuses s (event.Wait t) OutOfRange
  none_to_wake : {t : ℕ} → s.table.sizes.threads ≤ t → Refuses s (event.Wake t) OutOfRange
  none_to_serve : {c : ℕ} → s.table.sizes.cores ≤ c → Refuses s (event.Serve c) OutOfRange
  no_traffic : {c n : ℕ} → (s.table.sizes.cores ≤ c) ⊎ (max_traffic < n) → Refuses s (event.Traffic c n) OutOfRange
  -- 9, "FINISH or WAIT of a thread not running"
  finish_idle : {t : ℕ} → t < s.table.sizes.threads → running s t ≡ false → Refuses s (event.Finish t) NotRunning
  wait_idle : {t : ℕ} → t < s.table.sizes.threads → running s t ≡ false → Refuses s (event.Wait t) NotRunning
  -- 10, "WAKE of a thread not waiting"
  wake_awake : {t : ℕ} → t < s.table.sizes.threads → (state_in s t ≡ waiting → ⊥) → Refuses s (event.Wake t) NotWaiting
  -- 11, "TRAFFIC from a core with an occupant"
  core_occupied : {c n : ℕ} → c < s.table.sizes.cores → n ≤ max_traffic → (occupant_in s c ≡ 255 → ⊥)
      → Refuses s (event.Traffic c n) CoreOccupied
  -- 12, "RELEASE when the number is 4,294,967,295"
  spent : {g : ℕ} → g < s.table.sizes.gangs → number_in s g ≡ last_number → Refuses s (event.Release g) NumbersSpent

-- any other event, and the reply that it is given
pub data Accepts (s : System) : Event → Reply → Type 0 where
  serves_release : {g : ℕ} → g < s.table.sizes.gangs → (number_in s g ≡ last_number → ⊥) → all_done s g ≡ true
      → Accepts s (event.Release g) (reply_of (served_by s g) (Served (number_in (served_by s g) g)))
  skips_release : {g : ℕ} → g < s.table.sizes.gangs → (number_in s g ≡ last_number → ⊥) → all_done s g ≡ false
      → Accepts s (event.Release g) (reply_of (skipped_by s g) (Skipped (number_in (skipped_by s g) g)))
  finishes : {t : ℕ} → t < s.table.sizes.threads → running s t ≡ true → Accepts s (event.Finish t) (reply_of (turned s t finished) Done)
  waits : {t : ℕ} → t < s.table.sizes.threads → running s t ≡ true → Accepts s (event.Wait t) (reply_of (turned s t waiting) Done)
  wakes : {t : ℕ} → t < s.table.sizes.threads → state_in s t ≡ waiting → Accepts s (event.Wake t) (reply_of (turned s t ready) Done)
  serves : {c : ℕ} → c < s.table.sizes.cores
      → Accepts s (event.Serve c) (reply_of (with_lock s (served_lock s c)) (Occupant (get_or (served_lock s c).occupant c 255)))
  counts : {c n : ℕ} → c < s.table.sizes.cores → n ≤ max_traffic → occupant_in s c ≡ 255
      → Accepts s (event.Traffic c n) (reply_of (counted s c n) (Counted (stopped (counted s c n) c) (kept_in (counted s c n) c)))
  ticks : Accepts s event.Tick (tick_step s)

-- the reply that the event is given
pub data Way (s : System) (e : Event) : Reply → Type 0 where
  refused : {r : Refusal} → Refuses s e r → Way s e (refused_by s r)
  accepted : {r : Reply} → Accepts s e r → Way s e r
