-- `states_ok` meets its contract: the rule that is tested at each place is `state_place`.
use Rattle.std.proofs.Common.{rules}
use Rattle.state.specs.Rules.{state_place, states_ok}
use Rattle.state.proofs.rules.states_ok.Goals as goal

pub returns : goal.returns
unfolding states_ok
returns c = c.every_place.ensures (state_place _ _) (λ i r l q. search rules)
