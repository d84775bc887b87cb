-- `take_turns` meets its contract: each turn is lent what the turns before it left, and the loop keeps that any run on what is left
-- completes the whole.
use Rattle.std.proofs.Common.{◌-◌, length}
use Rattle.system.specs.Events.{step_of}
use Rattle.batch.specs.Batch.{run_of}
use Rattle.batch.proofs.Sofar.{Sofar}
use Rattle.batch.proofs.turns.take_turns.Given as goal

abbrev pub invariant-loop-read : goal.invariant-loop-read
invariant-loop-read l =
    let i = l.initial in
    Sofar l.events i.out (run_of step_of (length l.events) i.system l.events (length i.out)) l.system l.read l.written l.out

abbrev pub decreases-loop-read : goal.decreases-loop-read
decreases-loop-read l = length l.events - l.read
