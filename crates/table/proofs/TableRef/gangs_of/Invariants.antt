-- `TableRef::gangs_of`: the loop keeps that the marks are those of the gangs of the threads passed.
use Rattle.ranges.specs.laws.Pass.{Upto}
use Rattle.table.specs.Occurs.{Marked}
use Rattle.table.proofs.TableRef.gangs_of.Given as goal

abbrev pub invariant-loop-t : goal.invariant-loop-t
invariant-loop-t l = Upto l.self.sizes.threads (λ n. Marked l.self.gang.now n l.seen) l.t
