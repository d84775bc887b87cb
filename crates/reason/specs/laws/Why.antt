-- What each way through the tests comes to.
use Rattle.std.specs.Prelude.{ℕ, ◌≤◌, ◌<◌, true, false, Ok, Err, ◌≡◌}
use Rattle.std.proofs.lemmas.Bool.{eq-eqb, ne_eqb, lt-ltb, le-ltb}
use Rattle.coreset.specs.Set.{has}
use Rattle.table.specs.Numbers.{finished, waiting}
use Rattle.wire.specs.declared.refusal.Refusal.TheVariants.{OutOfRange, NotWellFormed}
use Rattle.system.specs.declared.System.{System}
use Rattle.system.specs.System.{state_in, core_in, gang_in, running, first_in, ahead_in}
use Rattle.system.specs.WellFormed.{well_formed}
use Rattle.reason.specs.declared.Reason.TheVariants as reason
use Rattle.reason.specs.Why.{outranked_reason, ready_reason, reason_of, explained_of, why_of}

module _ (s : System) (t : ℕ) where
  -- ---- the question

  pub why_given : well_formed s ≡ true → t < s.table.sizes.threads → why_of s t ≡ explained_of s (Ok (reason_of s t))
  unfolding why_of
  why_given w l = rw (w, lt-ltb t s.table.sizes.threads l)

  pub why_beyond : well_formed s ≡ true → s.table.sizes.threads ≤ t → why_of s t ≡ explained_of s (Err OutOfRange)
  unfolding why_of
  why_beyond w l = rw (w, le-ltb t s.table.sizes.threads l)

  pub why_unformed : well_formed s ≡ false → why_of s t ≡ explained_of s (Err NotWellFormed)
  unfolding why_of
  why_unformed w = rw w

  -- ---- the reason

  pub reason_finished : state_in s t ≡ finished → reason_of s t ≡ reason.Finished
  unfolding reason_of
  reason_finished e = rw (eq-eqb (state_in s t) finished e)

  module _ (f : state_in s t ≡ finished → ⊥) where
    pub reason_waiting : state_in s t ≡ waiting → reason_of s t ≡ reason.Waiting
    unfolding reason_of
    reason_waiting e = rw (ne_eqb (state_in s t) finished f, eq-eqb (state_in s t) waiting e)

    module _ (w : state_in s t ≡ waiting → ⊥) where
      pub reason_locked : running s t ≡ true → has s.lock.locked (core_in s t) ≡ true → reason_of s t ≡ reason.RunningLocked
      unfolding reason_of
      reason_locked r l = rw (ne_eqb (state_in s t) finished f, ne_eqb (state_in s t) waiting w, r, l)

      pub reason_displaced : running s t ≡ true → has s.lock.locked (core_in s t) ≡ false → reason_of s t ≡ reason.RunningDisplaced
      unfolding reason_of
      reason_displaced r l = rw (ne_eqb (state_in s t) finished f, ne_eqb (state_in s t) waiting w, r, l)

      pub reason_ready : running s t ≡ false → reason_of s t ≡ ready_reason s t
      unfolding reason_of
      reason_ready r = rw (ne_eqb (state_in s t) finished f, ne_eqb (state_in s t) waiting w, r)

  -- ---- of a thread that is ready and does not run

  pub ready_owes : has s.lock.owing (core_in s t) ≡ true → ready_reason s t ≡ reason.CoreOwes
  unfolding ready_reason
  ready_owes o = rw o

  module _ (o : has s.lock.owing (core_in s t) ≡ false) where
    pub ready_behind : (first_in s (core_in s t) ≡ t → ⊥) → ready_reason s t ≡ reason.ThreadAhead (first_in s (core_in s t))
    unfolding ready_reason
    ready_behind n = rw (o, ne_eqb (first_in s (core_in s t)) t n)

    pub ready_not_behind : first_in s (core_in s t) ≡ t → ready_reason s t ≡ outranked_reason s t
    unfolding ready_reason
    ready_not_behind e = rw (o, eq-eqb (first_in s (core_in s t)) t e)

  pub outranked_free : s.lock.holder ≡ 255 → outranked_reason s t ≡ reason.NoneOfThese
  unfolding outranked_reason
  outranked_free e = rw (eq-eqb s.lock.holder 255 e)

  module _ (h : s.lock.holder ≡ 255 → ⊥) where
    pub outranked_ahead : ahead_in s s.lock.holder (gang_in s t) ≡ true → outranked_reason s t ≡ reason.GangHolds s.lock.holder
    unfolding outranked_reason
    outranked_ahead a = rw (ne_eqb s.lock.holder 255 h, a)

    pub outranked_not : ahead_in s s.lock.holder (gang_in s t) ≡ false → outranked_reason s t ≡ reason.NoneOfThese
    unfolding outranked_reason
    outranked_not a = rw (ne_eqb s.lock.holder 255 h, a)
