-- What an event comes to for a caller that lends the parts of its system.
use Rattle.std.specs.Prelude.{◌≡◌}
use Rattle.lock.specs.declared.Held.{Held}
use Rattle.system.specs.declared.System.{System}
use Rattle.wire.specs.Answer.{record_of}
use Rattle.wire.specs.declared.answer.Answer.{Answer}
use Rattle.ffi.specs.declared.events.EventValue.{EventValue}
use Rattle.ffi.specs.declared.lent.Outcome.{Outcome}
use Rattle.ffi.specs.Calls.{answered_by, applied_of}

-- the holder and the blocked cores, and the ANSWER, which has the owing and the locked cores
abbrev pub outcome_of : Held → Answer → Outcome
outcome_of h a = record { holder = h.holder; blocked = h.blocked; answer = record_of a h.owing h.locked }

-- the holder and the core sets again
abbrev pub held_in : Outcome → Held
held_in o = record { holder = o.holder; locked = o.answer.locked; blocked = o.blocked; owing = o.answer.owing }

-- what an event in place promises: of the system that the lent parts make up before, the system that they make up after and the answer are
-- those of `gjalvorn_apply`
abbrev pub AppliedInPlace : System → EventValue → System → Outcome → Type 0
AppliedInPlace s event s' r = applied_of s event ≡ answered_by s' r.answer
