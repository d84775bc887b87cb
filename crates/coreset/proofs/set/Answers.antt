-- `coreset::set` meets its contract: a bit for a core of the mask.
use Rattle.coreset.specs.laws.Bits.{or_put, shifted_one}
use Rattle.coreset.specs.laws.Members.{within_below}
use Rattle.coreset.specs.Set.{with_core}
use Rattle.coreset.proofs.set.Goals as goal

pub returns-then-c-lt-WIDTH : goal.returns-then-c-lt-WIDTH
unfolding with_core
returns-then-c-lt-WIDTH c =
    let a = c.args in
    rw (shifted_one 32 a.c c.if-c-lt-WIDTH.true, within_below 32 a.m a.c c.if-c-lt-WIDTH.true) (or_put a.m a.c)
