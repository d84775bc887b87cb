-- `LedgerRef::ok` meets its contract: the rule that is tested at each place is `ledger_place`.
use Rattle.std.proofs.Common.{rules}
use Rattle.ledger.specs.Lent.{ledger_seen}
use Rattle.ledger.specs.WellFormed.{ledger_place, ledger_ok}
use Rattle.ledger.proofs.LedgerRef.ok.Goals as goal

pub returns : goal.returns
unfolding ledger_ok ledger_place
returns c = c.every_place.ensures (ledger_place _ (ledger_seen c.args.self)) (λ i r l q. search rules)
