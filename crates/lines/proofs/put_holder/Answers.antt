-- `put_holder` meets its contract: the arm for no holder puts the dash, and the other puts the holder's digits.
use Rattle.std.proofs.Common.{[], ◌∷◌, arith}
use Rattle.lines.specs.Chars.{dash}
use Rattle.lines.specs.laws.Put.{put_byte}
use Rattle.lines.proofs.Some.{put_other, put_some}
use Rattle.lines.proofs.put_holder.Goals as goal

pub returns-then-holder-eq-NONE : goal.returns-then-holder-eq-NONE
returns-then-holder-eq-NONE c =
    let a = c.args in
    put_other (dash ∷ []) a.holder c.if-holder-eq-NONE.true (put_byte a.out.now a.at dash (omega arith)) (omega arith)

pub returns-else-holder-eq-NONE : goal.returns-else-holder-eq-NONE
returns-else-holder-eq-NONE c =
    put_some (dash ∷ []) c.args.holder c.if-holder-eq-NONE.false c.put_number.ensures
