-- `reading::read_into`: each turn reads the record at the place, and the loop keeps that reading on gives the whole reading.
use Rattle.std.proofs.Common.{◌-◌, length}
use Rattle.reading.specs.laws.Sofar.{Sofar}
use Rattle.reading.proofs.read_into.Given as goal

abbrev pub invariant-loop-at : goal.invariant-loop-at
invariant-loop-at l =
    Sofar l.default l.bytes l.table l.at

abbrev pub decreases-loop-at : goal.decreases-loop-at
decreases-loop-at l =
    length l.bytes - l.at
