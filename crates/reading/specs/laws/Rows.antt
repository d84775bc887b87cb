-- Every record goes one of the ways of `Rows`; and what each row comes to.
use Rattle.std.specs.Prelude.{ℕ, ◌≤◌, ◌<◌, false, ◌⊎◌, ◌≡◌, eqb, leb}
use Rattle.std.proofs.Common.{inl, inr, arith, eqb-true, leb-true, leb-false}
use Rattle.std.proofs.lemmas.Bool.{eqb-false}
use Rattle.ranges.specs.laws.Logic.{either}
use Rattle.table.specs.declared.Table.{Table}
use Rattle.table.specs.Numbers.{max_cores, max_gangs, max_threads, top_priority, max_budget}
use Rattle.table.specs.Occurs.{occurs}
use Rattle.table.specs.laws.Occurs.{occurs_found, make_occurs, not_occurs, make_not_occurs}
use Rattle.wire.specs.Refusal.{number_of}
use Rattle.wire.specs.declared.refusal.Refusal.{Refusal}
use Rattle.wire.specs.declared.refusal.Refusal.TheVariants.{OutOfRange}
use Rattle.wire.specs.declared.table_record.TableRecord.{TableRecord}
use Rattle.wire.specs.declared.table_record.TableRecord.TheVariants as put
use Rattle.reading.specs.Rows.{SomeCores, NotOneTo, PriorityRead}
use Rattle.reading.specs.Rows.{RefusesRecord, second_cores, gang_too_soon, thread_too_soon, gang_too_many, thread_too_many, bad_count}
use Rattle.reading.specs.Rows.{bad_priority, bad_budget, gang_unread, core_absent, taken_already, short_refused}
use Rattle.reading.specs.Rows.{AcceptsRecord, takes_cores, takes_gang, takes_short, takes_thread, RecordWay, record_bad, record_good}
use Rattle.reading.specs.Taken.{Taken, record_refused, record_accepted, count_fits, gang_fits, thread_fits, cores_taken, gang_taken, thread_taken}
use Rattle.reading.specs.Taken.{record_taken}
use Rattle.reading.specs.laws.Fits.{in_range, make_range, gang_fits_lem, make_gang, thread_fits_lem, make_thread, out_of_range, not_range, gang_unfit}
use Rattle.reading.specs.laws.Fits.{unfit_priority, unfit_budget, thread_unfit, unfit_gang, unfit_core}
use Rattle.reading.specs.laws.Taken as law

-- ---- every record goes one of these ways

module _ (d : ℕ) (b : Table) where
  some_cores : eqb b.sizes.cores 0 ≡ false → SomeCores b
  some_cores x = omega (arith, eqb-false b.sizes.cores 0 x)

  cores_way : (n : ℕ) → RecordWay d b (put.Cores n) (cores_taken b n)
  unfolding cores_taken
  cores_way n =
      either (RecordWay d b (put.Cores n)) (eqb b.sizes.cores 0)
      (λ x.
      let none = eqb-true b.sizes.cores 0 x in
      either (RecordWay d b (put.Cores n)) (count_fits n)
      (λ y. record_good (takes_cores none (in_range n max_cores y).0 (in_range n max_cores y).1))
      (λ y. record_bad (bad_count none (out_of_range n max_cores y))))
      (λ x. record_bad (second_cores (some_cores x)))

  -- gangs and threads where there are cores
  module _ (cores : SomeCores b) where
    gang_unfits : (p m : ℕ) → b.sizes.gangs < max_gangs → NotOneTo top_priority p ⊎ (max_budget < m) → RefusesRecord d b (put.Gang p m) OutOfRange
    gang_unfits p m room (inl o) = bad_priority cores room o
    gang_unfits p m room (inr l) = bad_budget cores room l

    thread_unfits : (g c : ℕ) → b.sizes.threads < max_threads → (b.sizes.gangs ≤ g) ⊎ (b.sizes.cores ≤ c)
        → RefusesRecord d b (put.Thread g c) OutOfRange
    thread_unfits g c room (inl l) = gang_unread cores room l
    thread_unfits g c room (inr l) = core_absent cores room l

  free_priority : (p : ℕ) → occurs b.priority b.sizes.gangs p ≡ false → PriorityRead b p → ⊥
  free_priority p e k = not_occurs b.priority b.sizes.gangs p e k.at k.below k.stands

  gang_way : (p m : ℕ) → RecordWay d b (put.Gang p m) (gang_taken b p m)
  unfolding gang_taken
  gang_way p m =
      either (RecordWay d b (put.Gang p m)) (eqb b.sizes.cores 0)
      (λ x. record_bad (gang_too_soon (eqb-true b.sizes.cores 0 x)))
      (λ x.
      let cores = some_cores x in
      either (RecordWay d b (put.Gang p m)) (leb max_gangs b.sizes.gangs)
      (λ y. record_bad (gang_too_many cores (leb-true max_gangs b.sizes.gangs y)))
      (λ y.
      let room = leb-false max_gangs b.sizes.gangs y in
      either (RecordWay d b (put.Gang p m)) (gang_fits p m)
      (λ z.
      let fit = gang_fits_lem p m z in
      either (RecordWay d b (put.Gang p m)) (occurs b.priority b.sizes.gangs p)
      (λ t. record_bad (taken_already cores room fit.0 fit.1 (occurs_found b.priority b.sizes.gangs p t)))
      (λ t. record_good (takes_gang cores room fit.0 fit.1 (free_priority p t))))
      (λ z. record_bad (gang_unfits cores p m room (gang_unfit p m z)))))

  thread_way : (g c : ℕ) → RecordWay d b (put.Thread g c) (thread_taken b g c)
  unfolding thread_taken
  thread_way g c =
      either (RecordWay d b (put.Thread g c)) (eqb b.sizes.cores 0)
      (λ x. record_bad (thread_too_soon (eqb-true b.sizes.cores 0 x)))
      (λ x.
      let cores = some_cores x in
      either (RecordWay d b (put.Thread g c)) (leb max_threads b.sizes.threads)
      (λ y. record_bad (thread_too_many cores (leb-true max_threads b.sizes.threads y)))
      (λ y.
      let room = leb-false max_threads b.sizes.threads y in
      either (RecordWay d b (put.Thread g c)) (thread_fits g b.sizes.gangs c b.sizes.cores)
      (λ z.
      let fit = thread_fits_lem g b.sizes.gangs c b.sizes.cores z in
      record_good (takes_thread cores room fit.0 fit.1))
      (λ z. record_bad (thread_unfits cores g c room (thread_unfit g b.sizes.gangs c b.sizes.cores z)))))

  short_way : (p : ℕ) {t : Taken} → RecordWay d b (put.Gang p d) t → RecordWay d b (put.ShortGang p) t
  short_way p (record_bad w) = record_bad (short_refused w)
  short_way p (record_good w) = record_good (takes_short w)

  pub record_way : (one : TableRecord) → RecordWay d b one (record_taken d b one)
  record_way (put.Cores n) = cores_way n
  record_way (put.Gang p m) = gang_way p m
  record_way (put.ShortGang p) = short_way p (gang_way p d)
  record_way (put.Thread g c) = thread_way g c

  -- ---- and what each row comes to

  not_none : SomeCores b → b.sizes.cores ≡ 0 → ⊥
  not_none l e = omega arith

  pub record_refuses : {one : TableRecord} {r : Refusal} → RefusesRecord d b one r → record_taken d b one ≡ record_refused b r
  record_refuses (second_cores {n = n} l) = law.cores_again b n (not_none l)
  record_refuses (gang_too_soon {p = p} {m = m} e) = law.gang_first b p m e
  record_refuses (thread_too_soon {g = g} {c = c} e) = law.thread_first b g c e
  record_refuses (gang_too_many {p = p} {m = m} l k) = law.gang_many b p m (not_none l) k
  record_refuses (thread_too_many {g = g} {c = c} l k) = law.thread_many b g c (not_none l) k
  record_refuses (bad_count {n = n} e o) = law.cores_out b n e (not_range n max_cores o)
  record_refuses (bad_priority {p = p} {m = m} l k o) = law.gang_out b p m (not_none l) k (unfit_priority p m o)
  record_refuses (bad_budget {p = p} {m = m} l k o) = law.gang_out b p m (not_none l) k (unfit_budget p m o)
  record_refuses (gang_unread {g = g} {c = c} l k o) =
      law.thread_out b g c (not_none l) k (unfit_gang g b.sizes.gangs c b.sizes.cores o)
  record_refuses (core_absent {g = g} {c = c} l k o) =
      law.thread_out b g c (not_none l) k (unfit_core g b.sizes.gangs c b.sizes.cores o)
  record_refuses (taken_already {p = p} {m = m} l k f h t) =
      law.gang_taken_lem b p m (not_none l) k (make_gang p m f h) (make_occurs b.priority b.sizes.gangs p t.at t.below t.stands)
  record_refuses (short_refused w) = record_refuses w

  pub record_accepts : {one : TableRecord} {more : Table} → AcceptsRecord d b one more → record_taken d b one ≡ record_accepted more
  record_accepts (takes_cores {n = n} e l m) = law.cores_in b n e (make_range n max_cores l m)
  record_accepts (takes_gang {p = p} {m = m} l k f h t) =
      law.gang_in_lem b p m (not_none l) k (make_gang p m f h)
      (make_not_occurs b.priority b.sizes.gangs p (λ i lt q. t (record { at = i; below = lt; stands = q })))
  record_accepts (takes_short w) = record_accepts w
  record_accepts (takes_thread {g = g} {c = c} l k f h) =
      law.thread_in b g c (not_none l) k (make_thread g b.sizes.gangs c b.sizes.cores f h)

  -- ---- the numbers that the rules give, and what an accepted record leaves

  pub rules_number : {one : TableRecord} {r : Refusal} → RefusesRecord d b one r → 4 ≤ number_of r
  rules_number (second_cores l) = omega arith
  rules_number (gang_too_soon e) = omega arith
  rules_number (thread_too_soon e) = omega arith
  rules_number (gang_too_many l k) = omega arith
  rules_number (thread_too_many l k) = omega arith
  rules_number (bad_count e o) = omega arith
  rules_number (bad_priority l k o) = omega arith
  rules_number (bad_budget l k o) = omega arith
  rules_number (gang_unread l k o) = omega arith
  rules_number (core_absent l k o) = omega arith
  rules_number (taken_already l k f h t) = omega arith
  rules_number (short_refused w) = rules_number w

  pub cores_then : {one : TableRecord} {more : Table} → AcceptsRecord d b one more → SomeCores more
  cores_then (takes_cores e l m) = l
  cores_then (takes_gang l k f h t) = l
  cores_then (takes_short w) = cores_then w
  cores_then (takes_thread l k f h) = l
