-- `TableRef::threads_ok` meets its contract: the rule that is tested at each place is `thread_place`.
use Rattle.std.proofs.Common.{rules}
use Rattle.table.specs.Rules.{thread_place, threads_ok}
use Rattle.table.proofs.TableRef.threads_ok.Goals as goal

pub returns : goal.returns
unfolding threads_ok
returns c = c.every_place.ensures (thread_place _ _ _) (λ i r l q. search rules)
