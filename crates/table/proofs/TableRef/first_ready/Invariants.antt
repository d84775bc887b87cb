-- `TableRef::first_ready`: the loop keeps the first of the threads that it has passed.
use Rattle.std.proofs.Common.{◌≡◌}
use Rattle.ranges.specs.laws.Pass.{Upto}
use Rattle.pick.specs.Pick.{pick_below}
use Rattle.table.specs.Order.{stands_at, before_by}
use Rattle.table.proofs.TableRef.first_ready.Given as goal

abbrev pub invariant-loop-t : goal.invariant-loop-t
invariant-loop-t l =
    Upto l.threads (λ n. l.best ≡ pick_below (stands_at l.state l.self.core.now l.c) (before_by l.self.gang.now l.self.priority.now) n) l.t
