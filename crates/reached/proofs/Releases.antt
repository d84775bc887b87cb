-- "Every release takes the next number, served or skipped, and a job carries the number of its own release": at every reached state, against the
-- history of the way to it.
use Rattle.std.specs.Prelude.{ℕ, ◌+◌, ◌≡◌, List, [], ◌∷◌, ◌++◌}
use Rattle.std.proofs.Common.{arith}
use Rattle.lists.specs.laws.Lists.{same_throughout}
use Rattle.ledger.specs.Releases.{number_at, served_at, skipped_at, job_at, empty_ledger}
use Rattle.table.specs.declared.Table.{Table}
use Rattle.wire.specs.declared.answer.Answer.TheVariants.{Served}
use Rattle.wire.specs.declared.event.Event.{Event}
use Rattle.wire.specs.declared.event.Event.TheVariants as event
use Rattle.system.specs.System.{fresh_system, number_in}
use Rattle.effects.specs.Run.{system_after}
use Rattle.reached.specs.Reached.{Accepted, after}
use Rattle.reached.specs.History.{history, Numbered, took_release, select, taken_in, served_in, skipped_in, numbers_of, last_served, count_up}
use Rattle.reached.specs.laws.Runs.{start_shaped, start_formed, run_shaped, run_formed, after_append}
use Rattle.reached.proofs.Tallies.{Tally, tally, numbered_next, served_carries}
use Rattle.reached.specs.Releases.{release_after}

-- ---- gang g at the state that some events lead to from an accepted table, against their history

module _ (b : Table) (a : Accepted b) (g : ℕ) where
  from_start : (es : List Event) → Tally g empty_ledger (after (fresh_system b) es).ledger (history (fresh_system b) es)
  from_start = tally g (fresh_system b) (start_shaped b a) (start_formed b a)

  zero_at_first : number_at empty_ledger g ≡ 0
  zero_at_first = same_throughout 32 g 0

  -- "the gang's number goes up by one": it is how many releases were taken
  pub number_is_taken : (es : List Event) → number_in (after (fresh_system b) es) g ≡ taken_in g (history (fresh_system b) es)
  number_is_taken es = omega (arith, (from_start es).number, zero_at_first)

  -- the served count is how many releases were answered served
  pub served_is : (es : List Event) → served_at (after (fresh_system b) es).ledger g ≡ served_in g (history (fresh_system b) es)
  served_is es = omega (arith, (from_start es).served, zero_at_first)

  -- the skipped count is how many releases were answered skipped
  pub skipped_is : (es : List Event) → skipped_at (after (fresh_system b) es).ledger g ≡ skipped_in g (history (fresh_system b) es)
  skipped_is es = omega (arith, (from_start es).skipped, zero_at_first)

  -- "its current job's number (0 before the first)": that of the last release that was served
  pub job_is : (es : List Event) → job_at (after (fresh_system b) es).ledger g ≡ last_served g (history (fresh_system b) es)
  job_is es = rw zero_at_first at (from_start es).job

  -- "releases taken equal releases served plus releases skipped, each counted from the events and not from one another"
  pub taken_adds_up : (es : List Event)
      → taken_in g (history (fresh_system b) es) ≡ served_in g (history (fresh_system b) es) + skipped_in g (history (fresh_system b) es)
  taken_adds_up es = (from_start es).adds_up

  -- "every release takes the next number, served or skipped": one more than the gang's number, and than how many were taken before it
  pub next_number : (before : List Event) (n : ℕ) → Numbered (release_after b before g) n
      → (n ≡ number_in (after (fresh_system b) before) g + 1) × (n ≡ taken_in g (history (fresh_system b) before) + 1)
  next_number before n q =
      let next = numbered_next (after (fresh_system b) before) (run_shaped b a before) (run_formed b a before) g n q in
      (next, omega (arith, number_is_taken before))

  -- and so no number is left out and none comes twice: in order they are 1, 2, 3, ..
  pub no_gap : (es : List Event)
      → numbers_of (select (took_release g) (history (fresh_system b) es)) ≡ count_up 1 (taken_in g (history (fresh_system b) es))
  no_gap es = rw zero_at_first at (from_start es).in_order

  -- "a job carries the number of its own release": after a served release the job has that number, until the next one that is served, whatever
  -- else happens, skipped releases too
  pub job_carries : (before more : List Event) (n : ℕ) → release_after b before g ≡ Served n
      → served_in g (history (after (fresh_system b) (before ++ (event.Release g ∷ []))) more) ≡ 0
      → job_at (after (fresh_system b) (before ++ (event.Release g ∷ more))).ledger g ≡ n
  unfolding system_after
  job_carries before more n q none =
      rw (after_append (fresh_system b) before (event.Release g ∷ more))
      (served_carries (after (fresh_system b) before) (run_shaped b a before) (run_formed b a before) g n q more
      (rw (after_append (fresh_system b) before (event.Release g ∷ [])) at none))
