-- `LockMut::owe` is `Held::owe` with the lent occupants.
use Rattle.lock.proofs.LockMut.owe.Goals as goal

pub returns-clause-owed : goal.returns-clause-owed
returns-clause-owed c = c.owe-self.ensures c.args.self.now.occupant.now
