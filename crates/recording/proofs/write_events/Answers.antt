-- `write_events` is safe and ends: each turn takes a whole record of the bytes left, so the position is at most the place and one.
use Rattle.std.proofs.Common.{sym, arith}
use Rattle.recording.proofs.Turn.{turn}
use Rattle.recording.proofs.write_events.Goals as goal

pub overflow_add-at : goal.overflow_add-at
overflow_add-at g c =
    let took = turn _ _ c.loop-at.at c.args.bytes.now (sym c.in-Ok.ensures) c.loop-at.invariant.0 in
    omega (arith, took.1, c.requires.1)

pub loop-at-smaller : goal.loop-at-smaller
loop-at-smaller g c = omega (arith, turn _ _ c.loop-at.at c.args.bytes.now (sym c.in-Ok.ensures) c.loop-at.invariant.0)

pub loop-at-preserved : goal.loop-at-preserved
loop-at-preserved g c =
    let took = turn _ _ c.loop-at.at c.args.bytes.now (sym c.in-Ok.ensures) c.loop-at.invariant.0 in
    (took.1, omega (arith, took.0, c.loop-at.invariant.1))
