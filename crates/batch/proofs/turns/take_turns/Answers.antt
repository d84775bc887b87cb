-- `take_turns` meets its contract: each turn is lent what the turns before it left, and the loop keeps that any run on what is left
-- completes the whole.
use Rattle.std.proofs.Common.{arith}
use Rattle.batch.proofs.Sofar.{start, next_inside, room_after, ends_here, halts_here, goes_on}
use Rattle.batch.proofs.turns.take_turns.Goals as goal

pub loop-read-init : goal.loop-read-init
loop-read-init c = start _ _ _

pub overflow_add-read : goal.overflow_add-read
overflow_add-read c = let t = next_inside c.loop-read.invariant c.in-Ok.ensures in omega (arith, t.0)

pub overflow_add-written : goal.overflow_add-written
overflow_add-written c = let t = room_after c.loop-read.invariant c.in-Ok.ensures in omega arith

pub loop-read-smaller : goal.loop-read-smaller
loop-read-smaller c = let t = next_inside c.loop-read.invariant c.in-Ok.ensures in omega (arith, t.0, t.1)

pub loop-read-preserved : goal.loop-read-preserved
loop-read-preserved c = goes_on c.loop-read.invariant c.in-Ok.ensures

pub returns-in-Err : goal.returns-in-Err
returns-in-Err c = halts_here c.loop-read.invariant _ c.loop-read-test.true c.in-Err.ensures

pub returns : goal.returns
returns c = ends_here c.loop-read.invariant c.loop-read-test.false
