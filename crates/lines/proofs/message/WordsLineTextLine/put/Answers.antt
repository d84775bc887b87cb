-- `put` of a line of words meets its contract: the words, and then the end of the line.
use Rattle.std.proofs.Common.{arith}
use Rattle.lines.proofs.Joined.{joined_words}
use Rattle.lines.proofs.message.WordsLineTextLine.put.Goals as goal

pub returns : goal.returns
returns c =
    let a = c.args.self.now in
    joined_words a.words.now (omega arith) c.put_words-end.ensures
