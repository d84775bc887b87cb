-- Document 01, "The listing": the whole output of an input, whatever is printed of an event.
use Rattle.std.specs.Prelude.{ℕ, zero, suc, ◌+◌, List, [], ◌++◌, cond, eqb, ltb, length, take, drop, Ok, Err}
use Rattle.wire.specs.Event.{next_event}
use Rattle.wire.specs.Refusal.{number_of}
use Rattle.wire.specs.declared.event.Event.{Event}
use Rattle.wire.specs.NextEvent.{NextEvent}
use Rattle.system.specs.declared.System.{System}
use Rattle.system.specs.declared.events.Reply.{Reply}
use Rattle.system.specs.Events.{apply_of}
use Rattle.reading.specs.Reading.{default_budget}
use Rattle.reading.specs.SystemRead.{system_read}
use Rattle.reading.specs.declared.SystemRead.{SystemRead}
use Rattle.listed.specs.Start.{events_start}
use Rattle.listed.specs.Messages.{input_too_long, table_refused, events_stopped}

-- ---- the events

-- what is printed of the event at a position: of the event and its reply
abbrev pub Print : Type 0
Print = ℕ → Event → Reply → List ℕ

-- what prints the events after one: their system, the position and the place of the next, and the bytes left
abbrev pub PrintRest : Type 0
PrintRest = System → ℕ → ℕ → List ℕ → List ℕ

-- what an event prints, then what follows on the system that it leaves
abbrev pub event_then : Print → PrintRest → ℕ → ℕ → List ℕ → Event → Reply → List ℕ
event_then print rest position at bytes e r = print position e r ++ rest r.system (position + 1) at bytes

-- "stopped R at P" where the record is refused
abbrev pub events_seen : Print → PrintRest → System → ℕ → ℕ → List ℕ → NextEvent → List ℕ
events_seen print rest s position at bytes (Ok seen) =
    event_then print rest position (at + seen.next) (drop seen.next bytes) seen.found (apply_of s seen.found)
events_seen print rest s position at bytes (Err refusal) = events_stopped (number_of refusal) at

-- the events of the bytes left at a place, at most n of them
unfoldable pub events_from : Print → ℕ → PrintRest
events_from print zero s position at bytes = []
events_from print (suc n) s position at bytes =
    cond (eqb (length bytes) 0) [] (events_seen print (events_from print n) s position at bytes (next_event bytes))

-- ---- the whole

-- "above 32,768 bytes"
abbrev pub most_bytes : ℕ
most_bytes = 32768

-- "position from 1"
abbrev pub first_position : ℕ
first_position = 1

-- the events from the place where they start, on the system that the table gave; or "table refused R at P"
unfoldable pub output_read : Print → List ℕ → ℕ → SystemRead → List ℕ
output_read print s start r =
    cond (eqb r.number 0)
    (events_from print (length s) r.system first_position start (drop start s))
    (table_refused r.number r.place)

-- the table, then the events
abbrev pub output_split : Print → List ℕ → ℕ → List ℕ
output_split print s start = output_read print s start (system_read default_budget (take start s))

-- the whole output of an input, where `print` says what an event prints
unfoldable pub output_of : Print → List ℕ → List ℕ
output_of print s = cond (ltb most_bytes (length s)) input_too_long (output_split print s (events_start s))
