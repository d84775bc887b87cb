-- What listing an event comes to where its record is found and where it is refused, and which bytes it reads.
use Rattle.std.specs.Prelude.{ℕ, ◌≡◌, List, [], Ok, Err}
use Rattle.std.proofs.Common.{ap, arith}
use Rattle.wire.specs.Event.{next_event}
use Rattle.wire.specs.Question.{WholeRecord}
use Rattle.wire.specs.laws.Reader.{EventIn, event_in}
use Rattle.wire.specs.declared.event.Event.{Event}
use Rattle.wire.specs.NextEvent.{NextEvent}
use Rattle.wire.specs.NextEvent as found
use Rattle.wire.specs.declared.refusal.Refusal.{Refusal}
use Rattle.system.specs.declared.System.{System}
use Rattle.system.specs.Events.{apply_of}
use Rattle.lines.specs.Listing.{line_of}
use Rattle.listed.specs.Listed.{line_for, text_seen, listed_seen, event_seen, text_of, listed_of, event_listed}
use Rattle.listed.specs.declared.Listed as declared

module _ (s : System) (position : ℕ) (bytes : List ℕ) where
  module _ (e : Event) (next : ℕ) (f : next_event bytes ≡ found.Event e next) where
    pub text_event : text_of s position bytes ≡ line_of (line_for position e (apply_of s e))
    unfolding text_of
    text_event = ap (text_seen s position) f

    pub listed_event : listed_of s position bytes ≡ listed_seen s position (found.Event e next)
    unfolding listed_of
    listed_event = ap (listed_seen s position) f

  module _ (refusal : Refusal) (f : next_event bytes ≡ found.Refused refusal) where
    pub text_refused : text_of s position bytes ≡ []
    unfolding text_of
    text_refused = ap (text_seen s position) f

    pub listed_refused : listed_of s position bytes ≡ listed_seen s position (found.Refused refusal)
    unfolding listed_of
    listed_refused = ap (listed_seen s position) f

-- an event that is listed takes a whole record of the bytes left
pub listed_whole : (s : System) (position : ℕ) (bytes : List ℕ) → (listed_of s position bytes).number ≡ 0
    → WholeRecord bytes 0 (listed_of s position bytes).size
unfolding listed_of
listed_whole s position bytes = go (next_event bytes) (event_in bytes)
  where
    go : (f : NextEvent) → EventIn bytes f → (listed_seen s position f).number ≡ 0 → WholeRecord bytes 0 (listed_seen s position f).size
    go (Ok seen) w z = w
    go (Err refusal) o z = absurd (omega arith)

-- so does one that list_event gives
pub event_listed_whole : (s : System) (position : ℕ) (bytes : List ℕ) {l : declared.Listed} → event_listed s position bytes ≡ Ok l
    → WholeRecord bytes 0 l.size
unfolding event_listed
event_listed_whole s position bytes {l} = go (next_event bytes) (event_in bytes)
  where
    go : (f : NextEvent) → EventIn bytes f → event_seen s position f ≡ Ok l → WholeRecord bytes 0 l.size
    go (Ok seen) w p =
        let size : seen.next ≡ l.size = cc in
        rw (← size) w
    go (Err refusal) o p = absurd (cc)
