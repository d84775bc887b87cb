-- The system that an input's events leave.
use Rattle.std.specs.Prelude.{ℕ, zero, suc, List, length, take, drop, Ok, Err}
use Rattle.wire.specs.Event.{next_event}
use Rattle.wire.specs.NextEvent.{NextEvent}
use Rattle.system.specs.declared.System.{System}
use Rattle.system.specs.Events.{apply_of}
use Rattle.reading.specs.Reading.{default_budget}
use Rattle.reading.specs.SystemRead.{system_read}
use Rattle.listed.specs.Start.{events_start}

-- the event that was found, and those after it; at a refused record the events stop
abbrev pub last_seen : (System → List ℕ → System) → System → List ℕ → NextEvent → System
last_seen rest s bytes (Ok seen) = rest (apply_of s seen.found).system (drop seen.next bytes)
last_seen rest s bytes (Err refusal) = s

-- the events of the bytes left, at most n of them
unfoldable pub last_from : ℕ → System → List ℕ → System
last_from zero s bytes = s
last_from (suc n) s bytes = last_seen (last_from n) s bytes (next_event bytes)

-- the table's system, and then the events
abbrev pub last_split : List ℕ → ℕ → System
last_split s start = last_from (length s) (system_read default_budget (take start s)).system (drop start s)

abbrev pub last_of : List ℕ → System
last_of s = last_split s (events_start s)
