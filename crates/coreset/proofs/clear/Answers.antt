-- `coreset::clear` meets its contract: to take a core past the mask away changes nothing.
use Rattle.std.proofs.Common.{rules, sym}
use Rattle.coreset.specs.Set.{without_core}
use Rattle.coreset.specs.laws.Bits.{and_put_at, shifted_one}
use Rattle.coreset.specs.laws.Members.{has_beyond, without_absent}
use Rattle.coreset.proofs.clear.Goals as goal

pub returns-then-c-lt-WIDTH : goal.returns-then-c-lt-WIDTH
unfolding without_core
returns-then-c-lt-WIDTH c =
    let a = c.args in
    rw (shifted_one 32 a.c c.if-c-lt-WIDTH.true) (and_put_at 32 a.m a.c c.if-c-lt-WIDTH.true (search rules))

pub returns-else-c-lt-WIDTH : goal.returns-else-c-lt-WIDTH
returns-else-c-lt-WIDTH c =
    let a = c.args in
    sym (without_absent a.m a.c (has_beyond 32 a.m a.c (search rules) c.if-c-lt-WIDTH.false))
