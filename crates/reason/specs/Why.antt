-- Document 02, K3: a reason's number and the thread or gang that it names, the reason by tests, and the question with its refusals, "14, then 6".
use Rattle.std.specs.Prelude.{ℕ, Result, Ok, Err, cond, eqb, ltb}
use Rattle.coreset.specs.Set.{has}
use Rattle.table.specs.Numbers.{finished, waiting}
use Rattle.wire.specs.Refusal.{number_of}
use Rattle.wire.specs.declared.refusal.Refusal.{Refusal}
use Rattle.wire.specs.declared.refusal.Refusal.TheVariants.{OutOfRange, NotWellFormed}
use Rattle.system.specs.declared.System.{System}
use Rattle.system.specs.System.{state_in, core_in, gang_in, running, first_in, ahead_in}
use Rattle.system.specs.WellFormed.{well_formed}
use Rattle.reason.specs.declared.Reason.{Reason}
use Rattle.reason.specs.declared.Reason.TheVariants as reason

-- ---- numbers and values

-- a reason's place in the request
abbrev pub reason_number : Reason → ℕ
reason_number reason.Finished = 1
reason_number reason.Waiting = 2
reason_number reason.RunningLocked = 3
reason_number reason.RunningDisplaced = 4
reason_number reason.CoreOwes = 5
reason_number (reason.ThreadAhead u) = 6
reason_number (reason.GangHolds g) = 7
reason_number reason.NoneOfThese = 8

-- the thread or gang that it names, 255 where it names none
abbrev pub reason_which : Reason → ℕ
reason_which reason.Finished = 255
reason_which reason.Waiting = 255
reason_which reason.RunningLocked = 255
reason_which reason.RunningDisplaced = 255
reason_which reason.CoreOwes = 255
reason_which (reason.ThreadAhead u) = u
reason_which (reason.GangHolds g) = g
reason_which reason.NoneOfThese = 255

-- what the question finds, beside the system that it leaves
pub record Explained : Type 0 where
  pub system : System
  pub explanation : Result Reason Refusal

-- the refusal's number, 0 where there is a reason; where refused, "a question's value is then 0"
abbrev pub explanation_refusal : Result Reason Refusal → ℕ
explanation_refusal (Ok r) = 0
explanation_refusal (Err refusal) = number_of refusal

abbrev pub explanation_number : Result Reason Refusal → ℕ
explanation_number (Ok r) = reason_number r
explanation_number (Err refusal) = 0

abbrev pub explanation_which : Result Reason Refusal → ℕ
explanation_which (Ok r) = reason_which r
explanation_which (Err refusal) = 0

-- ---- the reason, by tests: `Exactly` says that it is the first that holds

-- whether the gang that holds the lock is ahead of thread t's
unfoldable pub outranked_reason : System → ℕ → Reason
outranked_reason s t =
    cond (eqb s.lock.holder 255) reason.NoneOfThese
    (cond (ahead_in s s.lock.holder (gang_in s t)) (reason.GangHolds s.lock.holder) reason.NoneOfThese)

-- of a thread that is ready and does not run
unfoldable pub ready_reason : System → ℕ → Reason
ready_reason s t =
    cond (has s.lock.owing (core_in s t)) reason.CoreOwes
    (cond (eqb (first_in s (core_in s t)) t) (outranked_reason s t)
    (reason.ThreadAhead (first_in s (core_in s t))))

-- of any thread
unfoldable pub reason_of : System → ℕ → Reason
reason_of s t =
    cond (eqb (state_in s t) finished) reason.Finished
    (cond (eqb (state_in s t) waiting) reason.Waiting
    (cond (running s t) (cond (has s.lock.locked (core_in s t)) reason.RunningLocked reason.RunningDisplaced)
    (ready_reason s t)))

-- ---- the question

-- the system is handed back as it came
abbrev pub explained_of : System → Result Reason Refusal → Explained
explained_of s e = record { system = s; explanation = e }

unfoldable pub why_of : System → ℕ → Explained
why_of s t = explained_of s
    (cond (well_formed s)
    (cond (ltb t s.table.sizes.threads) (Ok (reason_of s t)) (Err OutOfRange))
    (Err NotWellFormed))
