-- The events' part of an output is the program's loop: a turn, time after time; the listing's turn is list_event.
use Rattle.std.specs.Prelude.{ℕ, zero, suc, ◌+◌, ◌≡◌, refl, List, [], ◌++◌, cond, eqb, length, drop, Ok, Err}
use Rattle.std.proofs.Common.{ap, arith, ne_eqb}
use Rattle.wire.specs.Event.{next_event}
use Rattle.wire.specs.Refusal.{number_of}
use Rattle.wire.specs.laws.Refusal.{some_number}
use Rattle.wire.specs.declared.event.Event.{Event}
use Rattle.wire.specs.NextEvent.{NextEvent}
use Rattle.wire.specs.NextEvent as found
use Rattle.wire.specs.declared.refusal.Refusal.{Refusal}
use Rattle.system.specs.declared.System.{System}
use Rattle.system.specs.Events.{apply_of}
use Rattle.lines.specs.Listing.{line_of}
use Rattle.listed.specs.Listed.{Listed, line_for, listed_seen, text_of, listed_of}
use Rattle.listed.specs.laws.Listed.{text_event}
use Rattle.listed.specs.Output.{Print, PrintRest, events_seen, events_from}
use Rattle.listed.specs.ListingOf.{event_printed}
use Rattle.listed.specs.Messages.{events_stopped}

-- the text of a turn: of its system, its position and the bytes left
abbrev pub TurnText : Type 0
TurnText = System → ℕ → List ℕ → List ℕ

-- what the program prints of one turn: the text, and then what follows; or "stopped R at P"
abbrev pub step_then : PrintRest → ℕ → ℕ → List ℕ → List ℕ → Listed → List ℕ
step_then rest position at bytes text l =
    cond (eqb l.number 0) (text ++ rest l.system (position + 1) (at + l.size) (drop l.size bytes)) (events_stopped l.number at)

-- the program's loop, in at most n turns
unfoldable pub steps_from : TurnText → ℕ → PrintRest
steps_from text zero s position at bytes = []
steps_from text (suc n) s position at bytes =
    cond (eqb (length bytes) 0) [] (step_then (steps_from text n) position at bytes (text s position bytes) (listed_of s position bytes))

-- ---- the two are the same

-- the text of a turn that finds an event is what is printed of the event
abbrev pub Prints : Print → TurnText → Type 0
Prints print text = (s : System) (position : ℕ) (bytes : List ℕ) (e : Event) (next : ℕ) → next_event bytes ≡ found.Event e next
    → text s position bytes ≡ print position e (apply_of s e)

abbrev Same : PrintRest → PrintRest → Type 0
Same f g = (s : System) (position at : ℕ) (bytes : List ℕ) → f s position at bytes ≡ g s position at bytes

denied : (refusal : Refusal) → number_of refusal ≡ 0 → ⊥
denied refusal e = omega (arith, some_number refusal)

module _ (print : Print) (text : TurnText) (prints : Prints print text) where
  module _ (f g : PrintRest) (same : Same f g) (s : System) (position at : ℕ) (bytes : List ℕ) where
    seen_same : (x : NextEvent) → next_event bytes ≡ x
        → events_seen print f s position at bytes x ≡ step_then g position at bytes (text s position bytes) (listed_seen s position x)
    seen_same (Ok seen) p =
        let e = seen.found in
        let next = seen.next in
        rw (prints s position bytes e next p, same (apply_of s e).system (position + 1) (at + next) (drop next bytes))
    seen_same (Err refusal) p = rw (ne_eqb (number_of refusal) 0 (denied refusal))

  pub steps_same : (n : ℕ) → Same (events_from print n) (steps_from text n)
  unfolding events_from steps_from listed_of
  steps_same zero s position at bytes = refl
  steps_same (suc n) s position at bytes =
      ap (λ (l : List ℕ). cond (eqb (length bytes) 0) [] l)
      (seen_same (events_from print n) (steps_from text n) (steps_same n) s position at bytes (next_event bytes) refl)

-- the listing: each turn is listed_of, and its text is the line of the event's answer
pub record ListingSteps (n : ℕ) (s : System) (position at : ℕ) (bytes : List ℕ) : Type 0 where
  pub turns : events_from event_printed n s position at bytes ≡ steps_from text_of n s position at bytes
  pub line : (e : Event) (next : ℕ) → next_event bytes ≡ found.Event e next → text_of s position bytes ≡ line_of (line_for position e (apply_of s e))

pub listing_steps : (n : ℕ) (s : System) (position at : ℕ) (bytes : List ℕ) → ListingSteps n s position at bytes
listing_steps n s position at bytes = record {
  turns = steps_same event_printed text_of text_event n s position at bytes;
  line = text_event s position bytes;
}
