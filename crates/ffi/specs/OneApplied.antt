-- The promise of `gjalvorn_apply_lent` allows one outcome and one list for each part that it is lent.
use Rattle.std.specs.Prelude.{ℕ, List, ◌≡◌}
use Rattle.std.proofs.Common.{sym, ap}
use Rattle.table.specs.declared.Sizes.{Sizes}
use Rattle.wire.specs.Promise.{one_answer}
use Rattle.system.specs.declared.System.{System}
use Rattle.system.specs.Parts.{system_of}
use Rattle.system.specs.OneStep.{SameParts, one_parts}
use Rattle.ffi.specs.declared.events.Answered.{Answered}
use Rattle.ffi.specs.declared.events.EventValue.{EventValue}
use Rattle.ffi.specs.declared.lent.Outcome.{Outcome}
use Rattle.ffi.specs.Calls.{answered_by, applied_of}
use Rattle.ffi.specs.Outcomes.{AppliedInPlace, held_in}

module _ (sizes : Sizes) (priority budget gang core : List ℕ) {state number served skipped job occupant kept : List ℕ}
    {state' number' served' skipped' job' occupant' kept' : List ℕ} where
  pub one_applied : (before : System) (event : EventValue) (r q : Outcome)
      → AppliedInPlace before event (system_of sizes priority budget gang core state number served skipped job (held_in r) occupant kept) r
      → AppliedInPlace before event (system_of sizes priority budget gang core state' number' served' skipped' job' (held_in q) occupant' kept') q
      → (r ≡ q) × SameParts state number served skipped job (held_in r) occupant kept state' number' served' skipped' job' (held_in q) occupant' kept'
  one_applied before event r q e f =
      (λ i. record { holder = (parts.held_same i).holder; blocked = (parts.held_same i).blocked; answer = (same i).answer }, parts)
    where
      same : answered_by (system_of sizes priority budget gang core state number served skipped job (held_in r) occupant kept) r.answer
          ≡ answered_by (system_of sizes priority budget gang core state' number' served' skipped' job' (held_in q) occupant' kept') q.answer
      same = one_answer (applied_of before event) (sym e) (sym f)

      parts : SameParts state number served skipped job (held_in r) occupant kept state' number' served' skipped' job' (held_in q) occupant' kept'
      parts = one_parts sizes priority budget gang core (ap (λ (x : Answered). x.system) same)
