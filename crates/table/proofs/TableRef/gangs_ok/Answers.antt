-- `TableRef::gangs_ok` meets its contract: the rule that is tested at each place is `gang_place`.
use Rattle.std.proofs.Common.{rules}
use Rattle.table.specs.Rules.{gang_place, gangs_ok}
use Rattle.table.proofs.TableRef.gangs_ok.Goals as goal

pub returns : goal.returns
unfolding gangs_ok
returns c = c.every_place.ensures (gang_place _ _ _) (λ i r l q. search rules)
