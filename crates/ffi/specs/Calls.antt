-- The calls for C and Rust, by what the calls that they stand for come to.
use Rattle.std.specs.Prelude.{ℕ, Result, Ok, Err, cond, eqb}
use Rattle.wire.specs.Answer.{record_of}
use Rattle.wire.specs.Kinds.{kind_release, kind_finish, kind_wait, kind_wake, kind_serve, kind_traffic, kind_tick}
use Rattle.wire.specs.declared.answer.AnswerRecord.{AnswerRecord}
use Rattle.wire.specs.declared.event.Event.{Event}
use Rattle.wire.specs.declared.event.Event.TheVariants as event
use Rattle.wire.specs.declared.refusal.Refusal.{Refusal}
use Rattle.wire.specs.declared.refusal.Refusal.TheVariants.{WrongKind}
use Rattle.system.specs.declared.System.{System}
use Rattle.system.specs.declared.events.Reply.{Reply}
use Rattle.system.specs.Events.{refused_by, checked, apply_of}
use Rattle.system.specs.Questions.{Told, finding_refusal, finding_value}
use Rattle.reason.specs.declared.Reason.{Reason}
use Rattle.reason.specs.Why.{Explained, explanation_refusal, explanation_number, explanation_which}
use Rattle.ffi.specs.declared.events.Answered.{Answered}
use Rattle.ffi.specs.declared.events.EventValue.{EventValue}
use Rattle.ffi.specs.declared.questions.Found.{Found}
use Rattle.ffi.specs.declared.questions.ReasonFound.{ReasonFound}

-- the system after an event, beside its answer
abbrev pub answered_by : System → AnswerRecord → Answered
answered_by s a = record { system = s; answer = a }

-- an answer as the fields of its record, with the owing and the locked cores after the event
abbrev pub answered_of : Reply → Answered
answered_of r = answered_by r.system (record_of r.answer r.system.lock.owing r.system.lock.locked)

-- a question's refusal number and value
abbrev pub found_of : Result ℕ Refusal → Found
found_of finding = record { refusal = finding_refusal finding; value = finding_value finding }

abbrev pub found_in : Told → Found
found_in t = found_of t.finding

-- the refusal number of why a thread isn't running, the reason's number, and the thread or gang that it names
abbrev pub reason_told : Result Reason Refusal → ReasonFound
reason_told explanation = record {
  refusal = explanation_refusal explanation;
  reason = explanation_number explanation;
  which = explanation_which explanation;
}

abbrev pub reason_found : Explained → ReasonFound
reason_found e = reason_told e.explanation

-- the event that a kind names, in the order of the kinds, or 2
unfoldable pub named_by : EventValue → Result Event Refusal
named_by v =
    cond (eqb v.kind kind_release) (Ok (event.Release v.number))
    (cond (eqb v.kind kind_finish) (Ok (event.Finish v.number))
    (cond (eqb v.kind kind_wait) (Ok (event.Wait v.number))
    (cond (eqb v.kind kind_wake) (Ok (event.Wake v.number))
    (cond (eqb v.kind kind_serve) (Ok (event.Serve v.number))
    (cond (eqb v.kind kind_traffic) (Ok (event.Traffic v.number v.transactions))
    (cond (eqb v.kind kind_tick) (Ok event.Tick) (Err WrongKind)))))))

-- 14 first, then 2, "the kind is not of this stream", then the event's own
abbrev pub applied_by : System → Result Event Refusal → Answered
applied_by s (Ok e) = answered_of (apply_of s e)
applied_by s (Err refusal) = answered_of (checked s (refused_by s refusal))

abbrev pub applied_of : System → EventValue → Answered
applied_of s v = applied_by s (named_by v)
