-- `make_ready` meets its contract: the loop keeps that the threads passed are ready, if they are the gang's.
use Rattle.state.specs.Threads.{readied}
use Rattle.ranges.specs.laws.Pass.{Upto}
use Rattle.std.proofs.Common.{◌≡◌}
use Rattle.state.proofs.threads.make_ready.Given as goal

abbrev pub invariant-loop-t : goal.invariant-loop-t
invariant-loop-t l = Upto l.table.sizes.threads (λ k. l.state ≡ readied l.table.gang.now l.g k l.initial.state) l.t
