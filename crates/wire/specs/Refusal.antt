-- Document 01, "Refusal numbers": each refusal's number.
use Rattle.std.specs.Prelude.{ℕ}
use Rattle.wire.specs.declared.refusal.Refusal.{Refusal}
use Rattle.wire.specs.declared.refusal.Refusal.TheVariants.{CutShort, WrongKind, WrongLength, NotCoresFirst, TooMany}
use Rattle.wire.specs.declared.refusal.Refusal.TheVariants.{OutOfRange, PriorityTaken, Unfinished, NotRunning, NotWaiting}
use Rattle.wire.specs.declared.refusal.Refusal.TheVariants.{CoreOccupied, NumbersSpent, NoRoom, NotWellFormed}

abbrev pub number_of : Refusal → ℕ
number_of CutShort = 1
number_of WrongKind = 2
number_of WrongLength = 3
number_of NotCoresFirst = 4
number_of TooMany = 5
number_of OutOfRange = 6
number_of PriorityTaken = 7
number_of Unfinished = 8
number_of NotRunning = 9
number_of NotWaiting = 10
number_of CoreOccupied = 11
number_of NumbersSpent = 12
number_of NoRoom = 13
number_of NotWellFormed = 14
