-- Document 01, "Records": the events as values.
use Rattle.std.specs.Prelude.{ℕ, List, cond, get_or, eqb, ◌≡◌, refl}
use Rattle.wire.specs.declared.event.Event.{Event}
use Rattle.wire.specs.declared.event.Event.TheVariants.{Release, Finish, Wait, Wake, Serve, Traffic, Tick}
use Rattle.wire.specs.NextEvent.{NextEvent}
use Rattle.wire.specs.NextEvent as found
use Rattle.wire.specs.declared.kinds.Stream.TheVariants.{Events}
use Rattle.wire.specs.Kinds.{kind_release, kind_finish, kind_wait, kind_wake, kind_serve, kind_traffic, kind_tick}
use Rattle.wire.specs.Number.{le32}
use Rattle.wire.specs.Record.{read_first, read_as}

-- the event of a kind and its payload
unfoldable pub event_of : ℕ → List ℕ → Event
event_of k p =
    cond (eqb k kind_release) (Release (get_or p 0 0))
    (cond (eqb k kind_finish) (Finish (get_or p 0 0))
    (cond (eqb k kind_wait) (Wait (get_or p 0 0))
    (cond (eqb k kind_wake) (Wake (get_or p 0 0))
    (cond (eqb k kind_serve) (Serve (get_or p 0 0))
    (cond (eqb k kind_traffic) (Traffic (get_or p 0 0) (le32 p 1)) Tick)))))

-- the kind of an event's record
abbrev pub kind_of : Event → ℕ
kind_of (Release gang) = kind_release
kind_of (Finish thread) = kind_finish
kind_of (Wait thread) = kind_wait
kind_of (Wake thread) = kind_wake
kind_of (Serve core) = kind_serve
kind_of (Traffic core transactions) = kind_traffic
kind_of Tick = kind_tick

-- the event record at the start of some bytes
abbrev pub event_found : ℕ → List ℕ → ℕ → NextEvent
event_found kind payload next = found.Event (event_of kind payload) next

unfoldable pub next_event : List ℕ → NextEvent
next_event s = read_first event_found found.Refused Events s

-- it is the reader of its stream by what a kind and a payload mean
pub event_reads : (s : List ℕ) → read_as event_of Events s ≡ next_event s
unfolding next_event
event_reads s = refl
