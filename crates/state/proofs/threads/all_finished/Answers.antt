-- `all_finished` meets its contract: a thread of the gang that is not finished decides.
use Rattle.state.specs.Threads.{all_finished}
use Rattle.ranges.specs.laws.Pass.{passed_not}
use Rattle.std.proofs.Common.{sym, ◌∙◌}
use Rattle.state.proofs.threads.all_finished.Goals as goal

pub returns-then-not-finished_in : goal.returns-then-not-finished_in
unfolding all_finished
returns-then-not-finished_in c = passed_not _ _ _ c.loop-t-test.true (sym c.if-not-finished_in.true ∙ c.finished_in.ensures)
