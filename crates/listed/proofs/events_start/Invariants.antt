-- `events_start` meets its contract: the loop goes past a table record at each turn, and keeps that walking on finds the start.
use Rattle.std.proofs.Common.{◌-◌, length}
use Rattle.listed.proofs.Walked.{Walked}
use Rattle.listed.proofs.events_start.Given as goal

abbrev pub invariant-loop-next : goal.invariant-loop-next
invariant-loop-next l = Walked l.bytes l.at

abbrev pub decreases-loop-next : goal.decreases-loop-next
decreases-loop-next l = length l.bytes - l.at
