-- Document 01, "The listing": what one event prints, and what it comes to.
use Rattle.std.specs.Prelude.{ℕ, ◌≡◌, refl, List, [], length, Result, Ok, Err}
use Rattle.wire.specs.Answer.{record_of}
use Rattle.wire.specs.Event.{kind_of, next_event}
use Rattle.wire.specs.NextEvent.{NextEvent}
use Rattle.wire.specs.Refusal.{number_of}
use Rattle.wire.specs.declared.answer.AnswerRecord.{AnswerRecord}
use Rattle.wire.specs.declared.event.Event.{Event}
use Rattle.wire.specs.declared.refusal.Refusal.{Refusal}
use Rattle.system.specs.declared.System.{System}
use Rattle.system.specs.declared.events.Reply.{Reply}
use Rattle.system.specs.Events.{apply_of}
use Rattle.lines.specs.Listing.{line_of}
use Rattle.lines.specs.declared.Line.{Line}
use Rattle.listed.specs.declared.Listed as declared

-- "position from 1, kind, refusal, value, number, owing and locked as eight hex digits, holder": an ANSWER and what it does not say
abbrev pub line_with : ℕ → ℕ → AnswerRecord → ℕ → Line
line_with position kind a holder = record {
  position = position;
  kind = kind;
  refusal = a.refusal;
  value = a.value;
  number = a.number;
  owing = a.owing;
  locked = a.locked;
  holder = holder;
}

-- of an event and its reply: the sets and the holder are those after the event
abbrev pub line_for : ℕ → Event → Reply → Line
line_for position e r =
    line_with position (kind_of e) (record_of r.answer r.system.lock.owing r.system.lock.locked) r.system.lock.holder

-- the text of the event that was found: nothing where its record is refused
abbrev pub text_seen : System → ℕ → NextEvent → List ℕ
text_seen s position (Ok seen) = line_of (line_for position seen.found (apply_of s seen.found))
text_seen s position (Err refusal) = []

-- what listing an event comes to, told in numbers: the system after it, the bytes of its record and of its line, and the number of a refusal
pub record Listed : Type 0 where
  pub system : System
  pub size : ℕ
  pub length : ℕ
  pub number : ℕ

abbrev pub listed_seen : System → ℕ → NextEvent → Listed
listed_seen s position (Ok seen) = record {
  system = (apply_of s seen.found).system;
  size = seen.next;
  length = length (line_of (line_for position seen.found (apply_of s seen.found)));
  number = 0;
}
listed_seen s position (Err refusal) = record { system = s; size = 0; length = 0; number = number_of refusal }

-- the event at the start of the bytes left
unfoldable pub text_of : System → ℕ → List ℕ → List ℕ
text_of s position bytes = text_seen s position (next_event bytes)

unfoldable pub listed_of : System → ℕ → List ℕ → Listed
listed_of s position bytes = listed_seen s position (next_event bytes)

-- ---- what list_event gives

abbrev pub EventListed : Type 0
EventListed = Result declared.Listed Refusal

-- the system after the event, the bytes of its record and its line; or why its record is refused
abbrev pub event_seen : System → ℕ → NextEvent → EventListed
event_seen s position (Ok seen) = Ok record {
  system = (apply_of s seen.found).system;
  size = seen.next;
  line = line_for position seen.found (apply_of s seen.found);
}
event_seen s position (Err refusal) = Err refusal

unfoldable pub event_listed : System → ℕ → List ℕ → EventListed
event_listed s position bytes = event_seen s position (next_event bytes)

-- that told in numbers; the system of a refusal is the one that came
abbrev pub told_listed : System → EventListed → Listed
told_listed s (Ok l) = record { system = l.system; size = l.size; length = length (line_of l.line); number = 0 }
told_listed s (Err refusal) = record { system = s; size = 0; length = 0; number = number_of refusal }

-- and what it prints
abbrev pub told_text : EventListed → List ℕ
told_text (Ok l) = line_of l.line
told_text (Err refusal) = []

-- so what list_event gives is what the listing comes to, in numbers and in text
pub event_listed_told : (s : System) (position : ℕ) (bytes : List ℕ)
    → (told_listed s (event_listed s position bytes) ≡ listed_of s position bytes)
    × (told_text (event_listed s position bytes) ≡ text_of s position bytes)
unfolding event_listed listed_of text_of
event_listed_told s position bytes = go (next_event bytes)
  where
    go : (x : NextEvent) → (told_listed s (event_seen s position x) ≡ listed_seen s position x)
        × (told_text (event_seen s position x) ≡ text_seen s position x)
    go (Ok seen) = (refl, refl)
    go (Err refusal) = (refl, refl)
