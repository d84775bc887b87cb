-- The reason that the tests find is the first that holds, and the first that holds is the reason that they find.
use Rattle.std.specs.Prelude.{ℕ, Bool, true, false, ◌≡◌, refl}
use Rattle.std.proofs.Common.{sym, ap, ◌∙◌, subst}
use Rattle.std.proofs.Math.Decide.{ℕ_discrete}
use Rattle.coreset.specs.Set.{has}
use Rattle.ranges.specs.laws.Logic.{clash, is_false}
use Rattle.table.specs.Numbers.{finished, waiting}
use Rattle.system.specs.declared.System.{System}
use Rattle.system.specs.System.{state_in, core_in, gang_in, running, first_in, ahead_in}
use Rattle.reason.specs.declared.Reason.{Reason}
use Rattle.reason.specs.declared.Reason.TheVariants as reason
use Rattle.reason.specs.Reasons.{Past4, Past5, Past6, Past7, FirstHolds}
use Rattle.reason.specs.Why.{outranked_reason, ready_reason, reason_of}
use Rattle.reason.specs.laws.Why as laws

module _ (s : System) (t : ℕ) where
  -- ---- the reason that the tests find is the first that holds

  is : {r q : Reason} → r ≡ q → FirstHolds s t q → FirstHolds s t r
  is {r} {q} e h = subst (FirstHolds s t) (sym e) h

  outranked_first : Past6 s t → FirstHolds s t (outranked_reason s t)
  outranked_first p = go (ℕ_discrete s.lock.holder 255) (ahead_in s s.lock.holder (gang_in s t)) refl
    where
      go : Dec (s.lock.holder ≡ 255) → (x : Bool) → ahead_in s s.lock.holder (gang_in s t) ≡ x → FirstHolds s t (outranked_reason s t)
      go (yes e) x a = is (laws.outranked_free s t e) (p, λ g o. o.1 (sym o.0 ∙ e))
      go (no h) true a = is (laws.outranked_ahead s t h a) (p, (refl, h, a))
      go (no h) false a = is (laws.outranked_not s t h a) (p, λ g o. clash o.2 (ap (λ (k : ℕ). ahead_in s k (gang_in s t)) (sym o.0) ∙ a))

  ready_first : Past4 s t → FirstHolds s t (ready_reason s t)
  ready_first p = go (has s.lock.owing (core_in s t)) refl (ℕ_discrete (first_in s (core_in s t)) t)
    where
      go : (x : Bool) → has s.lock.owing (core_in s t) ≡ x → Dec (first_in s (core_in s t) ≡ t) → FirstHolds s t (ready_reason s t)
      go true o d = is (laws.ready_owes s t o) (p, o)
      go false o (no n) = is (laws.ready_behind s t o n) ((p, λ q. clash q o), (refl, n))
      go false o (yes e) =
          is (laws.ready_not_behind s t o e) (outranked_first ((p, λ q. clash q o), λ u b. b.1 (sym b.0 ∙ e)))

  pub reason_first : FirstHolds s t (reason_of s t)
  reason_first =
      go (ℕ_discrete (state_in s t) finished) (ℕ_discrete (state_in s t) waiting) (running s t) refl (has s.lock.locked (core_in s t)) refl
    where
      go : Dec (state_in s t ≡ finished) → Dec (state_in s t ≡ waiting) → (x : Bool) → running s t ≡ x
          → (y : Bool) → has s.lock.locked (core_in s t) ≡ y → FirstHolds s t (reason_of s t)
      go (yes e) d x r y l = is (laws.reason_finished s t e) e
      go (no f) (yes e) x r y l = is (laws.reason_waiting s t f e) (f, e)
      go (no f) (no w) true r true l = is (laws.reason_locked s t f w r l) ((f, w), (r, l))
      go (no f) (no w) true r false l = is (laws.reason_displaced s t f w r l) (((f, w), λ q. clash q.1 l), (r, l))
      go (no f) (no w) false r y l = is (laws.reason_ready s t f w r) (ready_first (((f, w), λ q. clash q.0 r), λ q. clash q.0 r))

  -- ---- and the first that holds is the reason that they find

  not_running : Past4 s t → running s t ≡ false
  not_running p = is_false (running s t) (λ r. go r (has s.lock.locked (core_in s t)) refl)
    where
      go : running s t ≡ true → (y : Bool) → has s.lock.locked (core_in s t) ≡ y → ⊥
      go r true l = p.0.1 (r, l)
      go r false l = p.1 (r, l)

  not_owing : Past5 s t → has s.lock.owing (core_in s t) ≡ false
  not_owing p = is_false (has s.lock.owing (core_in s t)) p.1

  is_ready : Past4 s t → reason_of s t ≡ ready_reason s t
  is_ready p = laws.reason_ready s t p.0.0.0 p.0.0.1 (not_running p)

  pub past_first : Past6 s t → first_in s (core_in s t) ≡ t
  past_first p = go (ℕ_discrete (first_in s (core_in s t)) t)
    where
      go : Dec (first_in s (core_in s t) ≡ t) → first_in s (core_in s t) ≡ t
      go (yes e) = e
      go (no n) = absurd (p.1 (first_in s (core_in s t)) (refl, n))

  is_outranked : Past6 s t → reason_of s t ≡ outranked_reason s t
  is_outranked p = is_ready p.0.0 ∙ laws.ready_not_behind s t (not_owing p.0) (past_first p)

  is_none : Past7 s t → outranked_reason s t ≡ reason.NoneOfThese
  is_none p = go (ℕ_discrete s.lock.holder 255) (ahead_in s s.lock.holder (gang_in s t)) refl
    where
      go : Dec (s.lock.holder ≡ 255) → (x : Bool) → ahead_in s s.lock.holder (gang_in s t) ≡ x → outranked_reason s t ≡ reason.NoneOfThese
      go (yes e) x a = laws.outranked_free s t e
      go (no h) true a = absurd (p.1 s.lock.holder (refl, h, a))
      go (no h) false a = laws.outranked_not s t h a

  pub first_reason : (r : Reason) → FirstHolds s t r → reason_of s t ≡ r
  first_reason reason.Finished h = laws.reason_finished s t h
  first_reason reason.Waiting h = laws.reason_waiting s t h.0 h.1
  first_reason reason.RunningLocked h = laws.reason_locked s t h.0.0 h.0.1 h.1.0 h.1.1
  first_reason reason.RunningDisplaced h = laws.reason_displaced s t h.0.0.0 h.0.0.1 h.1.0 h.1.1
  first_reason reason.CoreOwes h = is_ready h.0 ∙ laws.ready_owes s t h.1
  first_reason (reason.ThreadAhead u) h =
      is_ready h.0.0 ∙ laws.ready_behind s t (not_owing h.0) (λ e. h.1.1 (sym h.1.0 ∙ e)) ∙ ap reason.ThreadAhead h.1.0
  first_reason (reason.GangHolds g) h =
      is_outranked h.0
      ∙ laws.outranked_ahead s t (λ e. h.1.1 (sym h.1.0 ∙ e)) (ap (λ (k : ℕ). ahead_in s k (gang_in s t)) h.1.0 ∙ h.1.2)
      ∙ ap reason.GangHolds h.1.0
  first_reason reason.NoneOfThese h = is_outranked h.0 ∙ is_none h
