-- `put_which` meets its contract: nothing for none, and else the digits.
use Rattle.std.proofs.Common.{[], arith}
use Rattle.lines.specs.laws.Put.{put_none}
use Rattle.lines.proofs.Some.{put_other, put_some}
use Rattle.lines.proofs.thread.put_which.Goals as goal

pub returns-then-which-eq-NONE : goal.returns-then-which-eq-NONE
returns-then-which-eq-NONE c =
    let a = c.args in
    put_other [] a.which c.if-which-eq-NONE.true (put_none a.out.now a.at) (omega arith)

pub returns-else-which-eq-NONE : goal.returns-else-which-eq-NONE
returns-else-which-eq-NONE c =
    put_some [] c.args.which c.if-which-eq-NONE.false c.put_number.ensures
