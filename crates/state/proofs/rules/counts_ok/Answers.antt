-- `counts_ok` meets its contract: the rule that is tested at each place is `count_place`.
use Rattle.std.proofs.Common.{rules}
use Rattle.state.specs.Rules.{count_place, counts_ok}
use Rattle.state.proofs.rules.counts_ok.Goals as goal

pub returns : goal.returns
unfolding counts_ok
returns c = c.every_place.ensures (count_place _ _) (λ i r l q. search rules)
