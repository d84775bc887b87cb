-- `put` of an event's line meets its contract: each field is put where the one before it ends, and so the line is joined of them.
use Rattle.std.proofs.Common.{arith}
use Rattle.lines.proofs.Joined.{joined}
use Rattle.lines.proofs.LineTextLine.put.Goals as goal

pub returns : goal.returns
returns c =
    joined c.args.self.now (omega arith)
    c.put_decimal-at.ensures
    c.put_decimal-at-2.ensures
    c.put_decimal-at-3.ensures
    c.put_decimal-at-4.ensures
    c.put_decimal-at-5.ensures
    c.put_hex-at.ensures
    c.put_hex-at-2.ensures
    c.put_holder-at.ensures
