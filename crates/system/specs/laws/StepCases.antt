-- What each event comes to, case by case: what the code's branches and the laws of events go by.
use Rattle.std.specs.Prelude.{ℕ, ◌≤◌, ◌<◌, ◌≡◌, true, false, get_or}
use Rattle.std.proofs.lemmas.Bool.{eq-eqb, ne_eqb, le-leb, lt-leb, lt-ltb, le-ltb}
use Rattle.ledger.specs.Releases.{last_number}
use Rattle.table.specs.Numbers.{ready, waiting}
use Rattle.wire.specs.declared.answer.Answer.TheVariants.{Served, Skipped, Occupant, Counted, Done}
use Rattle.wire.specs.declared.refusal.Refusal.TheVariants.{OutOfRange, NotRunning, NotWaiting, CoreOccupied, NumbersSpent, NotWellFormed}
use Rattle.system.specs.declared.System.{System}
use Rattle.system.specs.declared.events.Reply.{Reply}
use Rattle.system.specs.System.{state_in, occupant_in, kept_in, number_in, running, with_lock}
use Rattle.state.specs.Allowance.{max_traffic}
use Rattle.system.specs.Stop.{stopped}
use Rattle.state.specs.Threads.{all_finished}
use Rattle.system.specs.WellFormed.{well_formed}
use Rattle.system.specs.Events.{reply_of, refused_by, served_by, skipped_by, released_by, release_step, turned, leave_step, wake_step, served_lock}
use Rattle.system.specs.Events.{serve_step, counted, traffic_step, checked}

-- 14 first
module _ (s : System) (r : Reply) where
  pub checked_yes : well_formed s ≡ true → checked s r ≡ r
  unfolding checked
  checked_yes e = rw e

  pub checked_no : well_formed s ≡ false → checked s r ≡ refused_by s NotWellFormed
  unfolding checked
  checked_no e = rw e

-- RELEASE
module _ (s : System) (g : ℕ) where
  pub release_absent : s.table.sizes.gangs ≤ g → release_step s g ≡ refused_by s OutOfRange
  unfolding release_step
  release_absent h = rw (le-leb s.table.sizes.gangs g h)

  pub release_spent : g < s.table.sizes.gangs → number_in s g ≡ last_number → release_step s g ≡ refused_by s NumbersSpent
  unfolding release_step
  release_spent h e = rw (lt-leb s.table.sizes.gangs g h, eq-eqb (number_in s g) last_number e)

  pub release_taken : g < s.table.sizes.gangs → (number_in s g ≡ last_number → ⊥) → release_step s g ≡ released_by s g
  unfolding release_step
  release_taken h e = rw (lt-leb s.table.sizes.gangs g h, ne_eqb (number_in s g) last_number e)

  pub released_served : all_finished s.state s.table.gang g s.table.sizes.threads ≡ true
      → released_by s g ≡ reply_of (served_by s g) (Served (number_in (served_by s g) g))
  unfolding released_by
  released_served e = rw e

  pub released_skipped : all_finished s.state s.table.gang g s.table.sizes.threads ≡ false
      → released_by s g ≡ reply_of (skipped_by s g) (Skipped (number_in (skipped_by s g) g))
  unfolding released_by
  released_skipped e = rw e

-- FINISH and WAIT
module _ (s : System) (t v : ℕ) where
  pub leave_absent : s.table.sizes.threads ≤ t → leave_step s t v ≡ refused_by s OutOfRange
  unfolding leave_step
  leave_absent h = rw (le-leb s.table.sizes.threads t h)

  pub leave_done : t < s.table.sizes.threads → running s t ≡ true → leave_step s t v ≡ reply_of (turned s t v) Done
  unfolding leave_step
  leave_done h e = rw (lt-leb s.table.sizes.threads t h, e)

  pub leave_idle : t < s.table.sizes.threads → running s t ≡ false → leave_step s t v ≡ refused_by s NotRunning
  unfolding leave_step
  leave_idle h e = rw (lt-leb s.table.sizes.threads t h, e)

-- WAKE
module _ (s : System) (t : ℕ) where
  pub wake_absent : s.table.sizes.threads ≤ t → wake_step s t ≡ refused_by s OutOfRange
  unfolding wake_step
  wake_absent h = rw (le-leb s.table.sizes.threads t h)

  pub wake_done : t < s.table.sizes.threads → state_in s t ≡ waiting → wake_step s t ≡ reply_of (turned s t ready) Done
  unfolding wake_step
  wake_done h e = rw (lt-leb s.table.sizes.threads t h, eq-eqb (state_in s t) waiting e)

  pub wake_idle : t < s.table.sizes.threads → (state_in s t ≡ waiting → ⊥) → wake_step s t ≡ refused_by s NotWaiting
  unfolding wake_step
  wake_idle h e = rw (lt-leb s.table.sizes.threads t h, ne_eqb (state_in s t) waiting e)

-- SERVE
module _ (s : System) (c : ℕ) where
  pub serve_absent : s.table.sizes.cores ≤ c → serve_step s c ≡ refused_by s OutOfRange
  unfolding serve_step
  serve_absent h = rw (le-leb s.table.sizes.cores c h)

  pub serve_done : c < s.table.sizes.cores
      → serve_step s c ≡ reply_of (with_lock s (served_lock s c)) (Occupant (get_or (served_lock s c).occupant c 255))
  unfolding serve_step
  serve_done h = rw (lt-leb s.table.sizes.cores c h)

-- TRAFFIC
module _ (s : System) (c n : ℕ) where
  pub traffic_absent : s.table.sizes.cores ≤ c → traffic_step s c n ≡ refused_by s OutOfRange
  unfolding traffic_step
  traffic_absent h = rw (le-leb s.table.sizes.cores c h)

  module _ (there : c < s.table.sizes.cores) where
    pub traffic_large : max_traffic < n → traffic_step s c n ≡ refused_by s OutOfRange
    unfolding traffic_step
    traffic_large h = rw (lt-leb s.table.sizes.cores c there, lt-ltb max_traffic n h)

    pub traffic_counted : n ≤ max_traffic → occupant_in s c ≡ 255
        → traffic_step s c n ≡ reply_of (counted s c n) (Counted (stopped (counted s c n) c) (kept_in (counted s c n) c))
    unfolding traffic_step
    traffic_counted h e = rw (lt-leb s.table.sizes.cores c there, le-ltb max_traffic n h, eq-eqb (occupant_in s c) 255 e)

    pub traffic_occupied : n ≤ max_traffic → (occupant_in s c ≡ 255 → ⊥) → traffic_step s c n ≡ refused_by s CoreOccupied
    unfolding traffic_step
    traffic_occupied h e = rw (lt-leb s.table.sizes.cores c there, le-ltb max_traffic n h, ne_eqb (occupant_in s c) 255 e)
