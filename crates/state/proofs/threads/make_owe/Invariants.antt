-- `make_owe` meets its contract: the loop keeps that the threads passed have added their cores.
use Rattle.state.specs.Threads.{owed_by}
use Rattle.ranges.specs.laws.Pass.{Upto}
use Rattle.std.proofs.Common.{◌≡◌}
use Rattle.state.proofs.threads.make_owe.Given as goal

abbrev pub invariant-loop-t : goal.invariant-loop-t
invariant-loop-t l = Upto l.table.sizes.threads (λ k. l.owe ≡ owed_by l.table.core.now l.table.gang.now l.g k l.owing) l.t
