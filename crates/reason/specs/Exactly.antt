-- Document 02, K3: "For each reason we want it shown that it is given exactly when it is true and no earlier one is." And the two refusals, as
-- exactly.
use Rattle.std.specs.Prelude.{ℕ, ◌<◌, ◌≤◌, Bool, true, false, Result, Ok, ◌≡◌, ◌↔◌}
use Rattle.std.proofs.Math.Path.{refl}
use Rattle.std.proofs.Common.{sym, ap, ◌∙◌, subst, arith}
use Rattle.std.proofs.Math.Decide.{dec_lt}
use Rattle.system.specs.declared.System.{System}
use Rattle.system.specs.WellFormed.{well_formed}
use Rattle.reason.specs.declared.Reason.{Reason}
use Rattle.reason.specs.declared.Reason.TheVariants as reason
use Rattle.reason.specs.Reasons.{IsFinished, IsWaiting, RunsLocked, RunsDisplaced, ItsCoreOwes, IsBehind, IsOutranked, Past1, Past2, Past3}
use Rattle.reason.specs.Reasons.{Past4, Past5, Past6, Past7, FirstHolds}
use Rattle.wire.specs.declared.refusal.Refusal.{Refusal}
use Rattle.reason.specs.Why.{Explained, explanation_refusal, reason_of, why_of}
use Rattle.reason.specs.laws.Why.{why_given, why_beyond, why_unformed}
use Rattle.reason.specs.laws.FirstHeld.{reason_first, first_reason}

-- the question about thread t gives the reason r
abbrev pub Gives : System → ℕ → Reason → Type 0
Gives s t r = (why_of s t).explanation ≡ Ok r

same_reason : {r q : Reason} → ◌≡◌ {A = Result Reason Refusal} (Ok r) (Ok q) → r ≡ q
same_reason e = cc

-- ---- the reasons, of a thread of a well-formed system

module _ (s : System) (w : well_formed s ≡ true) (t : ℕ) (l : t < s.table.sizes.threads) where
  answered : (why_of s t).explanation ≡ Ok (reason_of s t)
  answered = ap (λ (x : Explained). x.explanation) (why_given s t w l)

  -- whichever it is
  pub given_exactly : (r : Reason) → Gives s t r ↔ FirstHolds s t r
  given_exactly r = (
    λ g. subst (FirstHolds s t) (same_reason (sym answered ∙ g)) (reason_first s t),
    λ h. answered ∙ ap Ok (first_reason s t r h),
  )

  pub finished_exactly : Gives s t reason.Finished ↔ IsFinished s t
  finished_exactly = given_exactly reason.Finished

  pub waiting_exactly : Gives s t reason.Waiting ↔ (Past1 s t × IsWaiting s t)
  waiting_exactly = given_exactly reason.Waiting

  pub locked_exactly : Gives s t reason.RunningLocked ↔ (Past2 s t × RunsLocked s t)
  locked_exactly = given_exactly reason.RunningLocked

  pub displaced_exactly : Gives s t reason.RunningDisplaced ↔ (Past3 s t × RunsDisplaced s t)
  displaced_exactly = given_exactly reason.RunningDisplaced

  pub owes_exactly : Gives s t reason.CoreOwes ↔ (Past4 s t × ItsCoreOwes s t)
  owes_exactly = given_exactly reason.CoreOwes

  pub behind_exactly : (u : ℕ) → Gives s t (reason.ThreadAhead u) ↔ (Past5 s t × IsBehind s t u)
  behind_exactly u = given_exactly (reason.ThreadAhead u)

  pub outranked_exactly : (g : ℕ) → Gives s t (reason.GangHolds g) ↔ (Past6 s t × IsOutranked s t g)
  outranked_exactly g = given_exactly (reason.GangHolds g)

  pub none_exactly : Gives s t reason.NoneOfThese ↔ Past7 s t
  none_exactly = given_exactly reason.NoneOfThese

-- ---- the refusals, "14, then 6", of any system and any number

module _ (s : System) (t : ℕ) where
  -- the system comes back as it went in
  pub why_same : (why_of s t).system ≡ s
  unfolding why_of
  why_same = refl

  -- the answer's refusal number is 14, 6 or 0, by what the system and the number are
  numbered : {e : Explained} → why_of s t ≡ e → explanation_refusal (why_of s t).explanation ≡ explanation_refusal e.explanation
  numbered p = ap (λ (x : Explained). explanation_refusal x.explanation) p

  pub unformed_exactly : (explanation_refusal (why_of s t).explanation ≡ 14) ↔ (well_formed s ≡ false)
  unformed_exactly = (λ e. go (well_formed s) refl (dec_lt t s.table.sizes.threads) e, λ w. numbered (why_unformed s t w))
    where
      go : (x : Bool) → well_formed s ≡ x → Dec (t < s.table.sizes.threads) → explanation_refusal (why_of s t).explanation ≡ 14 → x ≡ false
      go true w (yes l) e = absurd (let n = numbered (why_given s t w l) in omega arith)
      go true w (no l) e = absurd (let n = numbered (why_beyond s t w (omega arith)) in omega arith)
      go false w d e = refl

  pub beyond_exactly : (explanation_refusal (why_of s t).explanation ≡ 6) ↔ ((well_formed s ≡ true) × (s.table.sizes.threads ≤ t))
  beyond_exactly = (λ e. go (well_formed s) refl (dec_lt t s.table.sizes.threads) e, λ h. numbered (why_beyond s t h.0 h.1))
    where
      go : (x : Bool) → well_formed s ≡ x → Dec (t < s.table.sizes.threads) → explanation_refusal (why_of s t).explanation ≡ 6
          → (x ≡ true) × (s.table.sizes.threads ≤ t)
      go true w (yes l) e = absurd (let n = numbered (why_given s t w l) in omega arith)
      go true w (no l) e = (refl, omega arith)
      go false w d e = absurd (let n = numbered (why_unformed s t w) in omega arith)
