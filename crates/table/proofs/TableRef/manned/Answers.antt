-- `TableRef::manned` meets its contract: the marks tell of each gang whether it has a thread.
use Rattle.std.proofs.Common.{rules, arith}
use Rattle.table.specs.Occurs.{occurs}
use Rattle.table.specs.Rules.{manned}
use Rattle.table.proofs.TableRef.manned.Goals as goal

pub returns : goal.returns
unfolding manned
returns c = c.every_place.ensures (occurs _ _) (λ i r l q. let m = c.gangs_of-seen.ensures.marks i (omega arith) in search (rules, m))
