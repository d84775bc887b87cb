-- The worked table: document 01's thirteen lines, and both orders of "Three services".
use Rattle.std.specs.Prelude.{ℕ, List, [], ◌∷◌, ◌++◌, map, ◌≡◌, refl}
use Rattle.std.proofs.Common.{sym, ◌∙◌}
use Rattle.coreset.specs.Set.{bit, has, with_bit, with_core, without_core, within_width}
use Rattle.ranges.specs.Range.{every, some}
use Rattle.pick.specs.Pick.{pick_with, pick_below}
use Rattle.wire.specs.Kinds.{lengths, in_stream}
use Rattle.wire.specs.Record.{record_at}
use Rattle.wire.specs.Table.{table_record_of, next_table_record}
use Rattle.wire.specs.Event.{event_of, next_event}
use Rattle.table.specs.Occurs.{occurs}
use Rattle.table.specs.Rules.{within, sizes_ok, gang_ok, gangs_ok, thread_ok, threads_ok, distinct, manned, table_ok}
use Rattle.table.specs.Order.{ahead_by, stands_at, before_by, first_ready}
use Rattle.ledger.specs.WellFormed.{counts_agree, all_zero, place_ok, ledger_place, ledger_ok}
use Rattle.ledger.specs.Releases.{raised}
use Rattle.lock.specs.Serve.{settled_of, left_of, claimed_of, admitted_of, serve_by, serve_of}
use Rattle.lock.specs.LockRules.{held_ok, idle_ok, sets_ok, pinned_ok, ours_ok, core_ok, cores_ok, lock_ok}
use Rattle.state.specs.Threads.{is_running, finished_in, all_finished, readied, owed_by}
use Rattle.state.specs.Allowance.{sum_of, holder_budget, stopped_at}
use Rattle.state.specs.Rules.{state_ok, states_ok, count_ok, counts_ok}
use Rattle.system.specs.WellFormed.{well_formed}
use Rattle.system.specs.Events.{released_by, release_step, leave_step, wake_step, serve_step, traffic_step, step_of, checked}
use Rattle.reading.specs.Taken.{gang_fits, thread_fits, cores_taken, gang_taken, thread_taken}
use Rattle.reading.specs.Turn.{table_turn}
use Rattle.reading.specs.Reading.{read_from}
use Rattle.reading.specs.Ending.{ending}
use Rattle.lines.specs.Number.{numeral}
use Rattle.lines.specs.Listing.{field_of, some_or, line_of}
use Rattle.listed.specs.Start.{split_at, start_from}
use Rattle.listed.specs.Output.{events_from, output_read, output_of}
use Rattle.listed.specs.ListingOf.{listing_of}
use Rattle.listed.specs.Last.{last_from, last_of}
use Rattle.listed.specs.WorkedInput.{document01, first_order, second_order}
use Rattle.listed.specs.WorkedRest.{core_one, at_rest}
use Rattle.listed.specs.WorkedText.{thirteen_lines, until_all_owe, by_first_order, by_second_order}

-- an input and its whole listing
pub record Row : Type 0 where
  pub input : List ℕ
  pub output : List ℕ

abbrev row : List ℕ → List ℕ → Row
row i o = record { input = i; output = o }

abbrev pub rows : List Row
rows =
    row document01 thirteen_lines
    ∷ row first_order (until_all_owe ++ by_first_order)
    ∷ row second_order (until_all_owe ++ by_second_order)
    ∷ []

-- each row's listing is its output; both orders rest "in the same state", "core 1 blocked"
pub worked : (map (λ (r : Row). listing_of r.input) rows ≡ map (λ (r : Row). r.output) rows)
    × (last_of first_order ≡ last_of second_order)
    × ((last_of first_order).lock.blocked ≡ core_one)
unfolding bit has with_bit with_core without_core within_width every some pick_with pick_below
    lengths in_stream record_at table_record_of next_table_record event_of next_event
    occurs within sizes_ok gang_ok gangs_ok thread_ok threads_ok distinct manned table_ok ahead_by stands_at before_by first_ready
    counts_agree all_zero place_ok ledger_place ledger_ok raised
    settled_of left_of claimed_of admitted_of serve_by serve_of held_ok idle_ok sets_ok pinned_ok ours_ok core_ok cores_ok lock_ok
    is_running finished_in all_finished readied owed_by sum_of holder_budget stopped_at state_ok states_ok count_ok counts_ok
    well_formed released_by release_step leave_step wake_step serve_step traffic_step step_of checked
    gang_fits thread_fits cores_taken gang_taken thread_taken table_turn read_from ending
    numeral field_of some_or line_of split_at start_from events_from output_read output_of last_from
worked =
    let first : last_of first_order ≡ at_rest = refl in
    let second : last_of second_order ≡ at_rest = refl in
    (refl, first ∙ sym second, refl)
