-- What a turn comes to, as a case to take apart; and how long its answers are in bytes.
use Rattle.std.specs.Prelude.{ℕ, ◌*◌, ◌≤◌, ◌≡◌, refl, List, [], ◌∷◌, ◌++◌, Ok, ltb, length}
use Rattle.std.proofs.Common.{sym, ◌∙◌, append_assoc, arith, length-append, lt-ltb, le-ltb, ltb-true, ltb-false}
use Rattle.std.proofs.Math.Path.{ap}
use Rattle.ranges.specs.laws.Logic.{either}
use Rattle.system.specs.declared.System.{System}
use Rattle.system.specs.declared.events.Reply.{Reply}
use Rattle.wire.specs.Answer.{answer_bytes, answer_size}
use Rattle.wire.specs.Event.{next_event}
use Rattle.wire.specs.laws.Reader.{event_refused}
use Rattle.wire.specs.declared.answer.AnswerRecord.{AnswerRecord}
use Rattle.wire.specs.declared.event.Event.{Event}
use Rattle.wire.specs.NextEvent.{NextEvent}
use Rattle.wire.specs.NextEvent as found
use Rattle.batch.specs.Turn.{Run, bytes_of, stopped_with, answered, turn_with, turn_of}
use Rattle.batch.specs.Stops.{Stops, no_room, unreadable}

-- what a turn comes to
pub data Turned (step : System → Event → Reply) (s : System) (ev : List ℕ) (room : ℕ) : Run → Type 0 where
  stops : {k : ℕ} → Stops ev room k → Turned step s ev room (stopped_with s k)
  answers : {e : Event} {n : ℕ} → next_event ev ≡ found.Event e n → answer_size ≤ room → Turned step s ev room (answered (step s e) n)

pub turn_way : (step : System → Event → Reply) (s : System) (ev : List ℕ) (room : ℕ) → Turned step s ev room (turn_of step s ev room)
unfolding turn_of
turn_way step s ev room = go (next_event ev) refl
  where
    go : (f : NextEvent) → next_event ev ≡ f → Turned step s ev room (turn_with step s room f)
    go (Ok r) q =
        either (Turned step s ev room) (ltb room answer_size)
        (λ t. stops (no_room q (ltb-true room answer_size t))) (λ t. answers q (ltb-false room answer_size t))
    go (found.Refused refusal) q = stops (unreadable q)

module _ (step : System → Event → Reply) (s : System) (ev : List ℕ) (room : ℕ) where
  pub turn_stops : {k : ℕ} → Stops ev room k → turn_of step s ev room ≡ stopped_with s k
  unfolding turn_of
  turn_stops (unreadable q) = ap (turn_with step s room) q
  turn_stops (no_room q l) = ap (turn_with step s room) q ∙ rw (lt-ltb room answer_size l)

  pub turn_answers : {e : Event} {n : ℕ} → next_event ev ≡ found.Event e n → answer_size ≤ room → turn_of step s ev room ≡ answered (step s e) n
  unfolding turn_of
  turn_answers q l = ap (turn_with step s room) q ∙ rw (le-ltb room answer_size l)

-- no turn stops with 0
pub stops_some : {ev : List ℕ} {room k : ℕ} → Stops ev room k → 1 ≤ k
stops_some {ev} (unreadable {refusal} q) = (event_refused ev q).least
stops_some (no_room q l) = omega arith

pub answer_length : (a : AnswerRecord) → length (answer_bytes a) ≡ answer_size
unfolding answer_bytes
answer_length a = refl

pub bytes_length : (xs : List AnswerRecord) → length (bytes_of xs) ≡ answer_size * length xs
bytes_length [] = refl
bytes_length (a ∷ rest) = simp length-append (omega (arith, answer_length a, bytes_length rest))

pub bytes_append : (a b : List AnswerRecord) → bytes_of (a ++ b) ≡ bytes_of a ++ bytes_of b
bytes_append [] b = refl
bytes_append (x ∷ a) b = rw (bytes_append a b) (sym (append_assoc (answer_bytes x) (bytes_of a) (bytes_of b)))
