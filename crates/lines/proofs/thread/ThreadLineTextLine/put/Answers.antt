-- `put` of a thread's line meets its contract: each part is put where the one before it ends, and so the line is joined of them.
use Rattle.std.proofs.Common.{arith}
use Rattle.lines.proofs.Joined.{joined_thread}
use Rattle.lines.proofs.thread.ThreadLineTextLine.put.Goals as goal

pub returns : goal.returns
returns c =
    let a = c.args.self.now in
    joined_thread a.position a.thread a.words.now a.which (omega arith)
    c.put_decimal-at.ensures
    c.put_decimal-at-2.ensures
    c.put_words-at.ensures
    c.put_which-at.ensures
