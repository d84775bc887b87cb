-- `put` of a refusal's line meets its contract: each part is put where the one before it ends, and so the line is joined of them.
use Rattle.std.proofs.Common.{arith}
use Rattle.lines.proofs.Joined.{joined_refusal}
use Rattle.lines.proofs.message.RefusalLineTextLine.put.Goals as goal

pub returns : goal.returns
returns c =
    let a = c.args.self.now in
    joined_refusal a.words.now a.number a.place (omega arith)
    c.put_words-at.ensures
    c.put_number-at.ensures
    c.put_words-at-2.ensures
    c.put_number-at-2.ensures
