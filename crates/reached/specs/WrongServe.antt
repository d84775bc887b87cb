-- "Shut out by demand 3: a SERVE that does nothing, which never comes to rest, and one that only clears the owing mark, which rests in a state
-- that the ready threads don't give."
use Rattle.std.specs.Prelude.{ℕ, ◌≡◌, refl, List, set, replicate}
use Rattle.std.proofs.Common.{sym, ap, ◌∙◌, subst, arith}
use Rattle.coreset.specs.Set.{bit, has, with_bit, with_core, without_core, within_width}
use Rattle.coreset.specs.Counting.{some_member}
use Rattle.ranges.specs.Range.{every, some}
use Rattle.lock.specs.Serve.{with_owing}
use Rattle.table.specs.declared.Table.{Table}
use Rattle.table.specs.Numbers.{max_gangs, max_threads}
use Rattle.table.specs.Occurs.{occurs}
use Rattle.table.specs.Rules.{table_of, within, sizes_ok, gang_ok, gangs_ok, thread_ok, threads_ok, distinct, manned, table_ok}
use Rattle.state.specs.Threads.{finished_in, all_finished, readied, owed_by}
use Rattle.wire.specs.declared.event.Event.TheVariants as event
use Rattle.system.specs.declared.System.{System}
use Rattle.system.specs.declared.events.Reply.{Reply}
use Rattle.system.specs.System.{fresh_system, with_lock}
use Rattle.system.specs.Events.{served_by}
use Rattle.effects.specs.Ways.{serves_release}
use Rattle.effects.specs.Refusals.{when_accepted}
use Rattle.reached.specs.Reached.{Accepted}
use Rattle.reached.specs.ByEvents.{fresh_reached}
use Rattle.reached.specs.Formed.{reached_applies}
use Rattle.reached.specs.First.{ReadyThread}
use Rattle.reached.specs.EveryState.{Owes}
use Rattle.reached.specs.Services.{ServeRule, ServesBy, done, then}
use Rattle.reached.specs.Demand3.{NoneOwes}
use Rattle.reached.specs.AnyServe.{event_by, ReachedBy, at_first, after_event, GivenByReady, Demand3}

-- ---- the two rules

abbrev pub does_nothing : ServeRule
does_nothing s c = s

abbrev pub only_clears : ServeRule
only_clears s c = with_lock s (with_owing s.lock (without_core s.lock.owing c))

-- ---- a state reached with no SERVE, so whatever the rule: one core, one gang of one thread, which is released

abbrev one_thread : Table
one_thread =
    table_of (record { cores = 1; gangs = 1; threads = 1 }) (set (replicate max_gangs 0) 0 1) (replicate max_gangs 0)
    (replicate max_threads 0) (replicate max_threads 0)

one_thread_accepted : Accepted one_thread
unfolding every some occurs within sizes_ok gang_ok gangs_ok thread_ok threads_ok distinct manned table_ok
one_thread_accepted = record {
  rules = refl;
  filled = omega arith;
  shaped = record { priority_size = refl; budget_size = refl; gang_size = refl; core_size = refl };
}

abbrev pub one_ready : System
one_ready = served_by (fresh_system one_thread) 0

pub one_ready_reached : (rule : ServeRule) → ReachedBy rule one_ready
unfolding event_by every finished_in all_finished
one_ready_reached rule = subst (ReachedBy rule) came (after_event (at_first one_thread one_thread_accepted) (event.Release 0))
  where
    came : event_by rule (fresh_system one_thread) (event.Release 0) ≡ one_ready
    came =
        ap (λ (x : Reply). x.system)
        (reached_applies (fresh_reached one_thread one_thread_accepted) (event.Release 0)
        ∙ when_accepted (fresh_system one_thread) (serves_release (omega arith) (λ e. omega (arith, e)) refl))

one_ready_owes : Owes one_ready 0
unfolding bit has with_bit with_core within_width owed_by
one_ready_owes = refl

one_ready_thread : ReadyThread one_ready 0
unfolding readied
one_ready_thread = (omega arith, refl)

-- ---- the one that does nothing

pub nothing_same : {s r : System} {cs : List ℕ} → ServesBy does_nothing s cs r → r ≡ s
nothing_same done = refl
nothing_same (then o v) = nothing_same v

-- from wherever a core owes, it never comes to rest
pub nothing_never_rests : {s r : System} {cs : List ℕ} (c : ℕ) → Owes s c → ServesBy does_nothing s cs r → NoneOwes r → ⊥
nothing_never_rests {s} c o v n = some_member s.lock.owing c o (ap (λ (x : System). x.lock.owing) (sym (nothing_same v)) ∙ n)

pub nothing_fails : Demand3 does_nothing → ⊥
nothing_fails D = let q = D.rests (one_ready_reached does_nothing) in nothing_never_rests 0 one_ready_owes q.serves q.none_owes

-- ---- the one that only clears the owing mark

-- it rests,
pub clears_rests : NoneOwes (only_clears one_ready 0)
unfolding bit has with_bit with_core without_core within_width owed_by
clears_rests = refl

-- with the lock free beside a ready thread
pub clears_not_given : GivenByReady (only_clears one_ready 0) → ⊥
clears_not_given G = G.held 0 one_ready_thread refl

pub clears_fails : Demand3 only_clears → ⊥
unfolding event_by
clears_fails D = clears_not_given (D.given (after_event (one_ready_reached only_clears) (event.Serve 0)) clears_rests)
