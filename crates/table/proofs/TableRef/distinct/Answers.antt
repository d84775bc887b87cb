-- `TableRef::distinct`: the loop keeps that the marks are those of the priorities passed, and whether each of these was free.
use Rattle.std.proofs.Common.{arith, ap, not}
use Rattle.ranges.specs.laws.Pass.{passed_none, passed_more}
use Rattle.table.specs.laws.Occurs.{marked_none, marked_met, marked_more}
use Rattle.table.proofs.TableRef.distinct.Goals as goal

pub loop-g-init : goal.loop-g-init
loop-g-init c = (passed_none _ _, marked_none _)

pub loop-g-preserved : goal.loop-g-preserved
loop-g-preserved c =
    let inv = c.loop-g.invariant in
    let met = marked_met _ _ _ _ c.at-p.ensures (omega arith) inv.1 in
    (passed_more inv.0 c.loop-g-test.true (ap not met), marked_more _ _ _ _ c.at-p.ensures (omega arith) inv.1)
