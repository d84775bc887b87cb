-- The threads' lines are what a loop prints that takes each event as the listing does and prints the reasons of the system after it.
use Rattle.std.specs.Prelude.{ℕ, ◌≡◌, List}
use Rattle.std.proofs.Common.{ap}
use Rattle.system.specs.declared.System.{System}
use Rattle.listed.specs.Listed.{Listed, listed_of}
use Rattle.listed.specs.laws.Listed.{listed_event}
use Rattle.listed.specs.Output.{events_from}
use Rattle.listed.specs.Reasons.{reasons_text, reasons_printed}
use Rattle.listed.specs.Steps.{TurnText, Prints, steps_from, steps_same}

-- what a turn prints
abbrev pub reasons_turn : TurnText
reasons_turn s position bytes = reasons_text (listed_of s position bytes).system position

reasons_prints : Prints reasons_printed reasons_turn
reasons_prints s position bytes e next f = ap (λ (l : Listed). reasons_text l.system position) (listed_event s position bytes e next f)

pub reasons_steps : (n : ℕ) (s : System) (position at : ℕ) (bytes : List ℕ)
    → events_from reasons_printed n s position at bytes ≡ steps_from reasons_turn n s position at bytes
reasons_steps n = steps_same reasons_printed reasons_turn reasons_prints n
