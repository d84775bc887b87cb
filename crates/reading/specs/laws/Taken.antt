-- What one more record comes to in each case: a law for each branch.
use Rattle.std.specs.Prelude.{ℕ, ◌≤◌, ◌<◌, ◌≡◌, true, false}
use Rattle.std.proofs.Common.{eq-eqb, ne_eqb, le-leb}
use Rattle.std.proofs.lemmas.Bool.{lt-leb}
use Rattle.table.specs.declared.Table.{Table}
use Rattle.table.specs.Numbers.{max_gangs, max_threads}
use Rattle.table.specs.Occurs.{occurs}
use Rattle.wire.specs.declared.refusal.Refusal.TheVariants.{NotCoresFirst, TooMany, OutOfRange, PriorityTaken}
use Rattle.reading.specs.Taken.{record_refused, record_accepted, with_cores, with_gang, with_thread, count_fits, gang_fits, thread_fits, cores_taken}
use Rattle.reading.specs.Taken.{gang_taken, thread_taken}

module _ (b : Table) (n : ℕ) where
  pub cores_again : (b.sizes.cores ≡ 0 → ⊥) → cores_taken b n ≡ record_refused b NotCoresFirst
  unfolding cores_taken
  cores_again h = rw (ne_eqb b.sizes.cores 0 h)

  module _ (first : b.sizes.cores ≡ 0) where
    pub cores_out : count_fits n ≡ false → cores_taken b n ≡ record_refused b OutOfRange
    unfolding cores_taken
    cores_out f = rw (eq-eqb b.sizes.cores 0 first, f)

    pub cores_in : count_fits n ≡ true → cores_taken b n ≡ record_accepted (with_cores b n)
    unfolding cores_taken
    cores_in f = rw (eq-eqb b.sizes.cores 0 first, f)

module _ (b : Table) (p m : ℕ) where
  pub gang_first : b.sizes.cores ≡ 0 → gang_taken b p m ≡ record_refused b NotCoresFirst
  unfolding gang_taken
  gang_first h = rw (eq-eqb b.sizes.cores 0 h)

  module _ (cores : b.sizes.cores ≡ 0 → ⊥) where
    pub gang_many : max_gangs ≤ b.sizes.gangs → gang_taken b p m ≡ record_refused b TooMany
    unfolding gang_taken
    gang_many h = rw (ne_eqb b.sizes.cores 0 cores, le-leb max_gangs b.sizes.gangs h)

    module _ (room : b.sizes.gangs < max_gangs) where
      pub gang_out : gang_fits p m ≡ false → gang_taken b p m ≡ record_refused b OutOfRange
      unfolding gang_taken
      gang_out f = rw (ne_eqb b.sizes.cores 0 cores, lt-leb max_gangs b.sizes.gangs room, f)

      module _ (fits : gang_fits p m ≡ true) where
        pub gang_taken_lem : occurs b.priority b.sizes.gangs p ≡ true → gang_taken b p m ≡ record_refused b PriorityTaken
        unfolding gang_taken
        gang_taken_lem t = rw (ne_eqb b.sizes.cores 0 cores, lt-leb max_gangs b.sizes.gangs room, fits, t)

        pub gang_in_lem : occurs b.priority b.sizes.gangs p ≡ false → gang_taken b p m ≡ record_accepted (with_gang b p m)
        unfolding gang_taken
        gang_in_lem t = rw (ne_eqb b.sizes.cores 0 cores, lt-leb max_gangs b.sizes.gangs room, fits, t)

module _ (b : Table) (g c : ℕ) where
  pub thread_first : b.sizes.cores ≡ 0 → thread_taken b g c ≡ record_refused b NotCoresFirst
  unfolding thread_taken
  thread_first h = rw (eq-eqb b.sizes.cores 0 h)

  module _ (cores : b.sizes.cores ≡ 0 → ⊥) where
    pub thread_many : max_threads ≤ b.sizes.threads → thread_taken b g c ≡ record_refused b TooMany
    unfolding thread_taken
    thread_many h = rw (ne_eqb b.sizes.cores 0 cores, le-leb max_threads b.sizes.threads h)

    module _ (room : b.sizes.threads < max_threads) where
      pub thread_out : thread_fits g b.sizes.gangs c b.sizes.cores ≡ false → thread_taken b g c ≡ record_refused b OutOfRange
      unfolding thread_taken
      thread_out f = rw (ne_eqb b.sizes.cores 0 cores, lt-leb max_threads b.sizes.threads room, f)

      pub thread_in : thread_fits g b.sizes.gangs c b.sizes.cores ≡ true → thread_taken b g c ≡ record_accepted (with_thread b g c)
      unfolding thread_taken
      thread_in f = rw (ne_eqb b.sizes.cores 0 cores, lt-leb max_threads b.sizes.threads room, f)
