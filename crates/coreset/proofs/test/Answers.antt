-- `coreset::test` meets its contract: a core past the mask has no bit in it.
use Rattle.std.proofs.Common.{rules, sym, ◌∙◌, le-ltb}
use Rattle.coreset.specs.laws.Members.{has_beyond}
use Rattle.coreset.proofs.test.Goals as goal

pub returns-else-c-lt-WIDTH : goal.returns-else-c-lt-WIDTH
returns-else-c-lt-WIDTH c =
    let a = c.args in
    le-ltb a.c 32 c.if-c-lt-WIDTH.false ∙ sym (has_beyond 32 a.m a.c (search rules) c.if-c-lt-WIDTH.false)
