-- `put_words` meets its contract: the part that is copied into is the words, as far as there are places for them.
use Rattle.lines.proofs.Words.{words_put}
use Rattle.lines.proofs.thread.put_words.Goals as goal

pub returns : goal.returns
returns c =
    let a = c.args in
    words_put a.out.now a.words.now _ a.at a.most c.min-size.result c.min-size.ensures c.requires c.copy_from_slice.ensures.after
