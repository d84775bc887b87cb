-- `TableRef::distinct`: the loop keeps that the marks are those of the priorities passed, and whether each of these was free.
use Rattle.std.proofs.Common.{not, get_or}
use Rattle.ranges.specs.laws.Pass.{Passed}
use Rattle.table.specs.Occurs.{Marked, occurs}
use Rattle.table.proofs.TableRef.distinct.Given as goal

abbrev pub invariant-loop-g : goal.invariant-loop-g
invariant-loop-g l =
    Passed l.self.sizes.gangs (λ h. not (occurs l.self.priority.now h (get_or l.self.priority.now h 0))) l.g l.ok
    × Marked l.self.priority.now l.g l.seen
