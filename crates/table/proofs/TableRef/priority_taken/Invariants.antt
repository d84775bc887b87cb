-- `TableRef::priority_taken`: the loop keeps that no gang passed has the priority, and one that has it decides.
use Rattle.std.proofs.Common.{◌≡◌, false}
use Rattle.ranges.specs.laws.Pass.{Upto}
use Rattle.table.specs.Occurs.{occurs}
use Rattle.table.proofs.TableRef.priority_taken.Given as goal

abbrev pub invariant-loop-g : goal.invariant-loop-g
invariant-loop-g l = Upto l.self.sizes.gangs (λ n. occurs l.self.priority.now n l.p ≡ false) l.g
