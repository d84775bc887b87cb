-- `show` of the reasons: the loop keeps that the lines of the threads passed are written.
use Rattle.std.specs.Io.KnownBytes.{Appends}
use Rattle.listed.specs.Reasons.{reasons_below}
use Rattle.why.proofs.ReasonsShows.show.Given as goal

abbrev pub invariant-loop-thread : goal.invariant-loop-thread
invariant-loop-thread g l =
    Appends (g.W.Write.contents l.initial.out) (g.W.Write.contents l.out) (reasons_below l.system l.event.line.position l.thread)
