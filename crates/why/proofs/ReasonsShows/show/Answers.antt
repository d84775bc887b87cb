-- `show` of the reasons: at first no line is written, and each turn writes the next thread's.
use Rattle.std.proofs.Common.{◌≡◌, ◌+◌, suc, arith}
use Rattle.std.proofs.KnownBytes.{Appends-nil, Appends-trans}
use Rattle.listed.specs.Reasons.{reasons_below}
use Rattle.why.proofs.ReasonsShows.show.Goals as goal

pub loop-thread-init : goal.loop-thread-init
unfolding reasons_below
loop-thread-init g c = Appends-nil (g.W.Write.contents c.args.out.now)

pub loop-thread-preserved : goal.loop-thread-preserved
unfolding reasons_below
loop-thread-preserved g c =
    let next : c.loop-thread.thread + 1 ≡ suc c.loop-thread.thread = omega arith in
    rw next (Appends-trans _ _ _ _ _ c.loop-thread.invariant c.in_ok-show_reason.ensures)
