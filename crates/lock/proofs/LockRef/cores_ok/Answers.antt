-- `LockRef::cores_ok` meets its contract: the rule that is tested at each core is `core_ok`.
use Rattle.std.proofs.Common.{rules}
use Rattle.lock.specs.LockRules.{core_ok, cores_ok}
use Rattle.lock.proofs.LockRef.cores_ok.Goals as goal

pub returns : goal.returns
unfolding cores_ok
returns c = c.every_place.ensures (core_ok _ _) (λ i r l q. search rules)
