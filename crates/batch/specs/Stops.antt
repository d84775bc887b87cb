-- The ways that a turn can go, as a case to take apart: it stops, or it answers one event.
use Rattle.std.specs.Prelude.{ℕ, ◌<◌, ◌≡◌, List}
use Rattle.wire.specs.Answer.{answer_size}
use Rattle.wire.specs.Event.{next_event}
use Rattle.wire.specs.Refusal.{number_of}
use Rattle.wire.specs.declared.event.Event.{Event}
use Rattle.wire.specs.NextEvent as found
use Rattle.wire.specs.declared.refusal.Refusal.{Refusal}
use Rattle.wire.specs.declared.refusal.Refusal.TheVariants.{NoRoom}

-- the number that some bytes and some room stop a turn with
pub data Stops (ev : List ℕ) (room : ℕ) : ℕ → Type 0 where
  -- 1, 2 or 3
  unreadable : {refusal : Refusal} → next_event ev ≡ found.Refused refusal → Stops ev room (number_of refusal)
  -- 13, "the next answer has no room"
  no_room : {e : Event} {n : ℕ} → next_event ev ≡ found.Event e n → room < answer_size → Stops ev room (number_of NoRoom)
