-- `all_finished` meets its contract: the loop keeps that every thread passed is finished or another gang's, and one that is not decides.
use Rattle.state.specs.Threads.{finished_in}
use Rattle.ranges.specs.Range.{every}
use Rattle.ranges.specs.laws.Pass.{Upto}
use Rattle.std.proofs.Common.{◌≡◌, true}
use Rattle.state.proofs.threads.all_finished.Given as goal

abbrev pub invariant-loop-t : goal.invariant-loop-t
invariant-loop-t l = Upto l.table.sizes.threads (λ k. every k (finished_in l.state l.table.gang.now l.g) ≡ true) l.t
