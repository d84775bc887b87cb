-- Document 01, RELEASE: "If all its threads are finished the release is served .. and the gang's current job takes that number. Otherwise it is
-- skipped": at every reached state, exactly then.
use Rattle.std.specs.Prelude.{ℕ, ◌+◌, ◌≤◌, ◌<◌, Bool, true, false, ◌≡◌, refl, ◌↔◌}
use Rattle.std.proofs.Common.{ap, ◌∙◌, arith}
use Rattle.std.proofs.Math.Decide.{dec_lt}
use Rattle.ledger.specs.Releases.{last_number, number_at, job_at}
use Rattle.ledger.specs.laws.LedgerKept.{serve_raises}
use Rattle.ledger.proofs.Skips.{skip_raises}
use Rattle.ranges.specs.laws.Logic.{clash}
use Rattle.state.specs.laws.Threads.{all_finished_lem, make_finished, some_unfinished, make_unfinished}
use Rattle.table.specs.laws.Table.{gangs_room}
use Rattle.wire.specs.declared.answer.Answer.TheVariants.{Served, Skipped}
use Rattle.wire.specs.declared.event.Event.{Event}
use Rattle.wire.specs.declared.event.Event.TheVariants as event
use Rattle.system.specs.declared.System.{System}
use Rattle.system.specs.declared.events.Reply.{Reply}
use Rattle.system.specs.System.{number_in}
use Rattle.system.specs.Events.{apply_of}
use Rattle.effects.specs.Keeps.{below_last}
use Rattle.effects.specs.Refusals.{when_accepted}
use Rattle.effects.specs.Ways.{all_done, serves_release, skips_release}
use Rattle.reached.specs.Reached.{Reached}
use Rattle.reached.specs.History.{entry_of, served_release}
use Rattle.reached.specs.Formed.{reached_formed, reached_shaped, reached_applies}
use Rattle.reached.proofs.Tallies.{Tallied, was_served, was_skipped, was_other, tells}
use Rattle.reached.specs.ServedExactly.{AllFinished, SomeUnfinished, answer_to_release}

-- ---- RELEASE of a gang of the table that has a number left

module _ {s : System} (R : Reached s) (g : ℕ) (there : g < s.table.sizes.gangs) (left : number_in s g ≡ last_number → ⊥) where
  -- by the test, one way or the other
  if_done : all_done s g ≡ true → answer_to_release s g ≡ Served (number_in s g + 1)
  if_done d =
      ap (λ (r : Reply). r.answer) (reached_applies R (event.Release g) ∙ when_accepted s (serves_release there left d))
      ∙ ap Served
      (serve_raises s.table.sizes.gangs s.ledger g (reached_shaped R).ledger_sized (reached_formed R).releases there
      (gangs_room s.table (reached_formed R).table) (below_last s (reached_shaped R) (reached_formed R) g left)).next_number

  if_not : all_done s g ≡ false → answer_to_release s g ≡ Skipped (number_in s g + 1)
  if_not d =
      ap (λ (r : Reply). r.answer) (reached_applies R (event.Release g) ∙ when_accepted s (skips_release there left d))
      ∙ ap Skipped
      (skip_raises s.table.sizes.gangs s.ledger g (reached_shaped R).ledger_sized (reached_formed R).releases there
      (gangs_room s.table (reached_formed R).table) (below_last s (reached_shaped R) (reached_formed R) g left)).next_number

  not_both : (n m : ℕ) → answer_to_release s g ≡ Served n → answer_to_release s g ≡ Skipped m → ⊥
  not_both n m p q = let z : ◌≡◌ {A = ℕ} 0 1 = cc in omega arith

  done_when : (n : ℕ) → answer_to_release s g ≡ Served n → all_done s g ≡ true
  done_when n p = go (all_done s g) refl
    where
      go : (x : Bool) → all_done s g ≡ x → x ≡ true
      go true e = refl
      go false e = absurd (not_both n (number_in s g + 1) p (if_not e))

  not_when : (n : ℕ) → answer_to_release s g ≡ Skipped n → all_done s g ≡ false
  not_when n p = go (all_done s g) refl
    where
      go : (x : Bool) → all_done s g ≡ x → x ≡ false
      go true e = absurd (not_both (number_in s g + 1) n (if_done e) p)
      go false e = refl

  -- "If all its threads are finished the release is served", with the next number, and only then
  pub release_served : (answer_to_release s g ≡ Served (number_in s g + 1)) ↔ AllFinished s g
  release_served = (
    λ p. all_finished_lem s.state s.table.gang g s.table.sizes.threads (done_when (number_in s g + 1) p),
    λ h. if_done (make_finished s.state s.table.gang g s.table.sizes.threads h),
  )

  -- "Otherwise it is skipped", with the next number too: exactly when some thread of the gang's is not finished
  pub release_skipped : (answer_to_release s g ≡ Skipped (number_in s g + 1)) ↔ SomeUnfinished s g
  release_skipped = (
    λ p. some_unfinished s.state s.table.gang g s.table.sizes.threads (not_when (number_in s g + 1) p),
    λ u. if_not (make_unfinished s.state s.table.gang g s.table.sizes.threads u),
  )

-- ---- a job starts at a served release, and at nothing else

module _ {s : System} (R : Reached s) (g : ℕ) where
  -- "job number at most the release number"
  job_within_number : job_at s.ledger g ≤ number_at s.ledger g
  job_within_number = go (dec_lt g s.table.sizes.gangs)
    where
      go : Dec (g < s.table.sizes.gangs) → job_at s.ledger g ≤ number_at s.ledger g
      go (yes l) = ((reached_formed R).releases.agrees g l).job_within
      go (no l) = let z = ((reached_formed R).releases.unused g (omega arith)).no_job in omega arith

  -- whatever the event, gang g's job number changes exactly when it is a release of g that is served
  pub job_changes : (e : Event)
      → (job_at (apply_of s e).system.ledger g ≡ job_at s.ledger g → ⊥) ↔ (served_release g (entry_of s e) ≡ true)
  job_changes e = go (tells s (reached_shaped R) (reached_formed R) g e)
    where
      go : Tallied g s.ledger (apply_of s e).system.ledger (entry_of s e)
          → (job_at (apply_of s e).system.ledger g ≡ job_at s.ledger g → ⊥) ↔ (served_release g (entry_of s e) ≡ true)
      go (was_served t v p n w) = (λ c. v, λ q same. omega (arith, job_within_number, w.job_number, same))
      go (was_skipped t v p n w) = (λ c. absurd (c w.job_stays), λ q. absurd (clash q v))
      go (was_other t v p w) = (λ c. absurd (c w.same_job), λ q. absurd (clash q v))
