-- Laws of `Refusal`.
use Rattle.std.specs.Prelude.{ℕ, ◌≤◌, List, [], ◌∷◌, ◌≡◌, refl, get_or}
use Rattle.std.proofs.Common.{sym, ap, ◌∙◌, arith}
use Rattle.wire.specs.declared.refusal.Refusal.{Refusal}
use Rattle.wire.specs.declared.refusal.Refusal.TheVariants.{CutShort, WrongKind, WrongLength, NotCoresFirst, TooMany}
use Rattle.wire.specs.declared.refusal.Refusal.TheVariants.{OutOfRange, PriorityTaken, Unfinished, NotRunning, NotWaiting}
use Rattle.wire.specs.declared.refusal.Refusal.TheVariants.{CoreOccupied, NumbersSpent, NoRoom, NotWellFormed}
use Rattle.wire.specs.Refusal.{number_of}

-- no refusal has the number of acceptance
pub some_number : (refusal : Refusal) → 1 ≤ number_of refusal
some_number CutShort = omega arith
some_number WrongKind = omega arith
some_number WrongLength = omega arith
some_number NotCoresFirst = omega arith
some_number TooMany = omega arith
some_number OutOfRange = omega arith
some_number PriorityTaken = omega arith
some_number Unfinished = omega arith
some_number NotRunning = omega arith
some_number NotWaiting = omega arith
some_number CoreOccupied = omega arith
some_number NumbersSpent = omega arith
some_number NoRoom = omega arith
some_number NotWellFormed = omega arith

-- the refusals from number 1 on
abbrev refusals : List Refusal
refusals =
    CutShort ∷ WrongKind ∷ WrongLength ∷ NotCoresFirst ∷ TooMany ∷ OutOfRange ∷ PriorityTaken ∷ Unfinished ∷ NotRunning ∷ NotWaiting
    ∷ CoreOccupied ∷ NumbersSpent ∷ NoRoom ∷ NotWellFormed ∷ []

-- the refusal of a number; 0 is none's
abbrev refusal_of : ℕ → Refusal
refusal_of n = get_or (NotWellFormed ∷ refusals) n NotWellFormed

its_refusal : (refusal : Refusal) → refusal_of (number_of refusal) ≡ refusal
its_refusal CutShort = refl
its_refusal WrongKind = refl
its_refusal WrongLength = refl
its_refusal NotCoresFirst = refl
its_refusal TooMany = refl
its_refusal OutOfRange = refl
its_refusal PriorityTaken = refl
its_refusal Unfinished = refl
its_refusal NotRunning = refl
its_refusal NotWaiting = refl
its_refusal CoreOccupied = refl
its_refusal NumbersSpent = refl
its_refusal NoRoom = refl
its_refusal NotWellFormed = refl

-- and no two have one number
pub one_number : (a r : Refusal) → number_of a ≡ number_of r → a ≡ r
one_number a r e = sym (its_refusal a) ∙ ap refusal_of e ∙ its_refusal r
