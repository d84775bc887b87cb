-- Every reached state is well formed, and its table is the accepted one.
use Rattle.std.specs.Prelude.{◌≤◌, true, ◌≡◌, refl}
use Rattle.std.proofs.Common.{sym, ap, ◌∙◌, subst, arith}
use Rattle.table.specs.declared.Table.{Table}
use Rattle.table.specs.Numbers.{max_cores, max_gangs, max_threads}
use Rattle.table.specs.declared.Sizes.{Sizes}
use Rattle.table.specs.laws.Table.{cores_room, gangs_room, threads_room}
use Rattle.table.specs.TableOk.{TableOk, RightSizes, empty, filled}
use Rattle.table.specs.laws.Ok.{table_ok_lem}
use Rattle.wire.specs.declared.event.Event.{Event}
use Rattle.system.specs.declared.System.{System}
use Rattle.system.specs.declared.events.Reply.{Reply}
use Rattle.system.specs.System.{fresh_system}
use Rattle.system.specs.Events.{step_of, apply_of}
use Rattle.system.specs.WellFormed.{well_formed}
use Rattle.effects.specs.Facts.{Shaped, WellFormed}
use Rattle.effects.specs.WellFormedLaws.{formed_well}
use Rattle.effects.specs.Leaves.{table_same}
use Rattle.effects.specs.Applied.{apply_well}
use Rattle.reached.specs.Reached.{Accepted, Reached}
use Rattle.reached.specs.ByEvents.{fresh_reached, kept_after}
use Rattle.reached.specs.laws.Runs.{run_shaped, run_formed}

-- ---- well formed

-- "Well formed", as facts
pub reached_formed : {s : System} → Reached s → WellFormed s
reached_formed R = subst WellFormed R.reaches (run_formed R.table R.accepted R.events)

-- with as many places in its lists as the types say
pub reached_shaped : {s : System} → Reached s → Shaped s
reached_shaped R = subst Shaped R.reaches (run_shaped R.table R.accepted R.events)

-- and as the test
pub reached_well : {s : System} → Reached s → well_formed s ≡ true
reached_well {s} R = formed_well s (reached_formed R)

-- so an event at a reached state is never refused with 14: it is its own step
pub reached_applies : {s : System} → Reached s → (e : Event) → apply_of s e ≡ step_of s e
reached_applies {s} R e = apply_well s e (reached_well R)

-- ---- the table

-- no event changes it
pub reached_table : {s : System} (R : Reached s) → s.table ≡ R.table
reached_table R = subst Same R.reaches (kept_after Same keeps (fresh_system R.table) R.events (fresh_reached R.table R.accepted) refl)
  where
    Same : System → Type 0
    Same s = s.table ≡ R.table

    keeps : (s : System) → Reached s → (e : Event) → Same s → Same (apply_of s e).system
    keeps s Q e p = ap (λ (x : Reply). x.system.table) (reached_applies Q e) ∙ table_same s e ∙ p

-- so it is an accepted one
pub reached_accepted : {s : System} → Reached s → Accepted s.table
reached_accepted R = subst Accepted (sym (reached_table R)) R.accepted

-- "1 to 32 cores, 1 to 32 gangs, room for 128 threads"
some_gang : {n : Sizes} → RightSizes n → 1 ≤ n.cores → 1 ≤ n.gangs
some_gang (empty p q r) l = absurd (omega arith)
some_gang (filled p q r s u) l = r

module _ (b : Table) (a : Accepted b) where
  pub accepted_table_ok : TableOk b
  accepted_table_ok = table_ok_lem b a.rules

  pub accepted_cores : (1 ≤ b.sizes.cores) × (b.sizes.cores ≤ max_cores)
  accepted_cores = (a.filled, cores_room b accepted_table_ok)

  pub accepted_gangs : (1 ≤ b.sizes.gangs) × (b.sizes.gangs ≤ max_gangs)
  accepted_gangs = (some_gang accepted_table_ok.sizes a.filled, gangs_room b accepted_table_ok)

  pub accepted_threads : b.sizes.threads ≤ max_threads
  accepted_threads = threads_room b accepted_table_ok

module _ {s : System} (R : Reached s) where
  pub reached_threads : s.table.sizes.threads ≤ max_threads
  reached_threads = accepted_threads s.table (reached_accepted R)
