-- Some state is reached: the system of document 01's own table, from its bytes, and the one after the first five of its events, in which two gangs
-- overlap.
use Rattle.std.specs.Prelude.{List, [], ◌∷◌, ◌≡◌, refl}
use Rattle.coreset.specs.Set.{bit, has, with_bit, with_core, without_core, within_width}
use Rattle.ranges.specs.Range.{every, some}
use Rattle.pick.specs.Pick.{pick_with, pick_below}
use Rattle.wire.specs.Kinds.{lengths, in_stream}
use Rattle.wire.specs.Record.{record_at}
use Rattle.wire.specs.Table.{table_record_of, next_table_record}
use Rattle.wire.specs.declared.event.Event.{Event}
use Rattle.wire.specs.declared.event.Event.TheVariants.{Release, Serve, Traffic}
use Rattle.table.specs.Occurs.{occurs}
use Rattle.table.specs.Rules.{within, sizes_ok, gang_ok, gangs_ok, thread_ok, threads_ok, distinct, manned, table_ok}
use Rattle.table.specs.Order.{ahead_by, stands_at, before_by, first_ready}
use Rattle.ledger.specs.WellFormed.{counts_agree, all_zero, place_ok, ledger_place, ledger_ok}
use Rattle.ledger.specs.Releases.{raised}
use Rattle.lock.specs.Serve.{settled_of, left_of, claimed_of, admitted_of, serve_by, serve_of}
use Rattle.lock.specs.LockRules.{held_ok, idle_ok, sets_ok, pinned_ok, ours_ok, core_ok, cores_ok, lock_ok}
use Rattle.state.specs.Threads.{is_running, finished_in, all_finished, readied, owed_by}
use Rattle.state.specs.Allowance.{sum_of, holder_budget, stopped_at}
use Rattle.state.specs.Rules.{state_ok, states_ok, count_ok, counts_ok}
use Rattle.system.specs.declared.System.{System}
use Rattle.system.specs.System.{gang_in}
use Rattle.system.specs.WellFormed.{well_formed}
use Rattle.system.specs.Events.{released_by, release_step, leave_step, wake_step, serve_step, traffic_step, step_of, checked}
use Rattle.effects.specs.Run.{system_after}
use Rattle.reading.specs.Taken.{gang_fits, thread_fits, cores_taken, gang_taken, thread_taken}
use Rattle.reading.specs.Turn.{table_turn}
use Rattle.reading.specs.Reading.{default_budget, read_from}
use Rattle.reading.specs.Ending.{ending}
use Rattle.reading.specs.SystemRead.{system_read}
use Rattle.reading.specs.WorkedTable.{worked_table}
use Rattle.reached.specs.Reached.{Reached, after}
use Rattle.reached.specs.ByEvents.{after_reached}
use Rattle.reached.specs.EveryState.{Owes, Runs}
use Rattle.reached.specs.Read.{read_reached}

-- ---- from the table's bytes

abbrev pub worked_system : System
worked_system = (system_read default_budget worked_table).system

-- they are read with no refusal
pub worked_accepted : (system_read default_budget worked_table).number ≡ 0
unfolding every some lengths in_stream record_at table_record_of next_table_record occurs within distinct manned
    gang_fits thread_fits cores_taken gang_taken thread_taken table_turn read_from ending
worked_accepted = refl

pub reached_worked : Reached worked_system
reached_worked = read_reached default_budget worked_table worked_accepted

-- ---- by five events

-- "RELEASE 0, SERVE 0, TRAFFIC 2 100, RELEASE 1, SERVE 2"
abbrev pub five_events : List Event
five_events = Release 0 ∷ Serve 0 ∷ Traffic 2 100 ∷ Release 1 ∷ Serve 2 ∷ []

pub reached_overlap : Reached (after worked_system five_events)
reached_overlap = after_reached reached_worked five_events

-- there gang 1 holds the lock, and thread 0, which is gang 0's, is still running: its core owes
pub worked_overlap : ((after worked_system five_events).lock.holder ≡ 1)
    × Runs (after worked_system five_events) 0 × (gang_in (after worked_system five_events) 0 ≡ 0) × Owes (after worked_system five_events) 0
unfolding bit has with_bit with_core without_core within_width every some pick_with pick_below
    lengths in_stream record_at table_record_of next_table_record
    occurs within sizes_ok gang_ok gangs_ok thread_ok threads_ok distinct manned table_ok ahead_by stands_at before_by first_ready
    counts_agree all_zero place_ok ledger_place ledger_ok raised
    settled_of left_of claimed_of admitted_of serve_by serve_of held_ok idle_ok sets_ok pinned_ok ours_ok core_ok cores_ok lock_ok
    is_running finished_in all_finished readied owed_by sum_of holder_budget stopped_at state_ok states_ok count_ok counts_ok
    well_formed released_by release_step leave_step wake_step serve_step traffic_step step_of checked system_after
    gang_fits thread_fits cores_taken gang_taken thread_taken table_turn read_from ending
worked_overlap = (refl, refl, refl, refl)
