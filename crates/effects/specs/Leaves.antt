-- What each event leaves alone, on any system whatever: field for field, and within a field place by place.
use Rattle.std.specs.Prelude.{ℕ, ◌≤◌, ◌≡◌}
use Rattle.std.proofs.Math.Path.{refl}
use Rattle.std.proofs.Common.{arith, get_or-set_other}
use Rattle.coreset.specs.Set.{has}
use Rattle.ledger.specs.Sized.{SameAt}
use Rattle.ledger.specs.laws.Ledger.{served_other, skipped_other}
use Rattle.table.specs.Numbers.{finished, ready, waiting}
use Rattle.wire.specs.declared.answer.Answer.TheVariants.{Skipped}
use Rattle.wire.specs.declared.event.Event.{Event}
use Rattle.wire.specs.declared.event.Event.TheVariants as event
use Rattle.system.specs.declared.System.{System}
use Rattle.system.specs.declared.events.Reply.{Reply}
use Rattle.system.specs.System.{state_in, core_in, gang_in, kept_in}
use Rattle.state.specs.laws.Threads.{readied_other, readied_past}
use Rattle.coreset.specs.laws.Members.{within_other}
use Rattle.state.specs.HasThread.{HasThread}
use Rattle.state.specs.laws.Owed.{owed_elsewhere}
use Rattle.system.specs.Events.{turned, step_of}
use Rattle.effects.specs.Ways.{Accepts, serves_release, skips_release, finishes, waits, wakes, serves, counts, ticks}
use Rattle.effects.specs.WaysLaws.{by_way}

-- ---- no event changes the table

accepted_table : {s : System} {e : Event} {r : Reply} → Accepts s e r → r.system.table ≡ s.table
accepted_table (serves_release l n d) = refl
accepted_table (skips_release l n d) = refl
accepted_table (finishes l q) = refl
accepted_table (waits l q) = refl
accepted_table (wakes l q) = refl
accepted_table (serves l) = refl
accepted_table (counts l m q) = refl
accepted_table ticks = refl

pub table_same : (s : System) (e : Event) → (step_of s e).system.table ≡ s.table
table_same s e = by_way s e (λ (r : Reply). r.system.table ≡ s.table) (λ r w. refl) (λ r w. accepted_table w)

-- ---- FINISH, WAIT and WAKE: all but thread t's own state and whether its core owes

pub record AllButThread (s r : System) (t : ℕ) : Type 0 where
  pub other_states : (u : ℕ) → (u ≡ t → ⊥) → state_in r u ≡ state_in s u
  pub same_ledger : r.ledger ≡ s.ledger
  pub same_kept : r.kept ≡ s.kept
  pub same_holder : r.lock.holder ≡ s.lock.holder
  pub same_locked : r.lock.locked ≡ s.lock.locked
  pub same_blocked : r.lock.blocked ≡ s.lock.blocked
  pub same_occupants : r.lock.occupant ≡ s.lock.occupant
  pub other_owing : (d : ℕ) → (d ≡ core_in s t → ⊥) → has r.lock.owing d ≡ has s.lock.owing d

-- ---- SERVE: all but the lock

pub record AllButLock (s r : System) : Type 0 where
  pub same_state : r.state ≡ s.state
  pub same_ledger : r.ledger ≡ s.ledger
  pub same_kept : r.kept ≡ s.kept

-- ---- TRAFFIC and TICK: all but the counts

pub record AllButKept (s r : System) : Type 0 where
  pub same_state : r.state ≡ s.state
  pub same_ledger : r.ledger ≡ s.ledger
  pub same_lock : r.lock ≡ s.lock

-- ---- a skipped RELEASE, "nothing else changes": all but the ledger

pub record AllButLedger (s r : System) : Type 0 where
  pub same_state : r.state ≡ s.state
  pub same_lock : r.lock ≡ s.lock
  pub same_kept : r.kept ≡ s.kept

-- ---- RELEASE of gang g: all but its own four numbers, its threads' states and whether their cores owe

pub record AllButGang (s r : System) (g : ℕ) : Type 0 where
  pub other_numbers : (d : ℕ) → (d ≡ g → ⊥) → SameAt s.ledger r.ledger d
  pub other_states : (t : ℕ) → (gang_in s t ≡ g → ⊥) → state_in r t ≡ state_in s t
  pub unused_states : (t : ℕ) → s.table.sizes.threads ≤ t → state_in r t ≡ state_in s t
  pub same_holder : r.lock.holder ≡ s.lock.holder
  pub same_locked : r.lock.locked ≡ s.lock.locked
  pub same_blocked : r.lock.blocked ≡ s.lock.blocked
  pub same_occupants : r.lock.occupant ≡ s.lock.occupant
  pub other_owing : (d : ℕ) → (HasThread s.table.core s.table.gang g s.table.sizes.threads d → ⊥)
      → has r.lock.owing d ≡ has s.lock.owing d
  pub same_kept : r.kept ≡ s.kept

module _ (s : System) where
  -- ---- the events of one thread

  same_thread : (t : ℕ) → AllButThread s s t
  same_thread t = record {
    other_states = λ u ne. refl;
    same_ledger = refl;
    same_kept = refl;
    same_holder = refl;
    same_locked = refl;
    same_blocked = refl;
    same_occupants = refl;
    other_owing = λ d ne. refl;
  }

  turned_thread : (t v : ℕ) → AllButThread s (turned s t v) t
  turned_thread t v = record {
    other_states = λ u ne. get_or-set_other s.state t u v 0 ne;
    same_ledger = refl;
    same_kept = refl;
    same_holder = refl;
    same_locked = refl;
    same_blocked = refl;
    same_occupants = refl;
    other_owing = λ d ne. within_other 32 s.lock.owing (core_in s t) d ne;
  }

  pub finish_leaves : (t : ℕ) → AllButThread s (step_of s (event.Finish t)).system t
  finish_leaves t = by_way s (event.Finish t) (λ (r : Reply). AllButThread s r.system t) (λ r w. same_thread t) go
    where
      go : (r : Reply) → Accepts s (event.Finish t) r → AllButThread s r.system t
      go r (finishes l q) = turned_thread t finished

  pub wait_leaves : (t : ℕ) → AllButThread s (step_of s (event.Wait t)).system t
  wait_leaves t = by_way s (event.Wait t) (λ (r : Reply). AllButThread s r.system t) (λ r w. same_thread t) go
    where
      go : (r : Reply) → Accepts s (event.Wait t) r → AllButThread s r.system t
      go r (waits l q) = turned_thread t waiting

  pub wake_leaves : (t : ℕ) → AllButThread s (step_of s (event.Wake t)).system t
  wake_leaves t = by_way s (event.Wake t) (λ (r : Reply). AllButThread s r.system t) (λ r w. same_thread t) go
    where
      go : (r : Reply) → Accepts s (event.Wake t) r → AllButThread s r.system t
      go r (wakes l q) = turned_thread t ready

  -- ---- SERVE

  pub serve_leaves : (c : ℕ) → AllButLock s (step_of s (event.Serve c)).system
  serve_leaves c = by_way s (event.Serve c) (λ (r : Reply). AllButLock s r.system)
      (λ r w. record { same_state = refl; same_ledger = refl; same_kept = refl }) go
    where
      go : (r : Reply) → Accepts s (event.Serve c) r → AllButLock s r.system
      go r (serves l) = record { same_state = refl; same_ledger = refl; same_kept = refl }

  -- ---- TRAFFIC and TICK

  pub traffic_leaves : (c n : ℕ) → AllButKept s (step_of s (event.Traffic c n)).system
  traffic_leaves c n = by_way s (event.Traffic c n) (λ (r : Reply). AllButKept s r.system)
      (λ r w. record { same_state = refl; same_ledger = refl; same_lock = refl }) go
    where
      go : (r : Reply) → Accepts s (event.Traffic c n) r → AllButKept s r.system
      go r (counts l m q) = record { same_state = refl; same_ledger = refl; same_lock = refl }

  -- "the core's count": no other core's
  pub traffic_others : (c n d : ℕ) → (d ≡ c → ⊥) → kept_in (step_of s (event.Traffic c n)).system d ≡ kept_in s d
  traffic_others c n d ne = by_way s (event.Traffic c n) (λ (r : Reply). kept_in r.system d ≡ kept_in s d) (λ r w. refl) go
    where
      go : (r : Reply) → Accepts s (event.Traffic c n) r → kept_in r.system d ≡ kept_in s d
      go r (counts l m q) = get_or-set_other s.kept c d _ 0 ne

  pub tick_leaves : AllButKept s (step_of s event.Tick).system
  unfolding step_of
  tick_leaves = record { same_state = refl; same_ledger = refl; same_lock = refl }

  -- ---- RELEASE

  pub skipped_leaves : (g n : ℕ) → (step_of s (event.Release g)).answer ≡ Skipped n → AllButLedger s (step_of s (event.Release g)).system
  skipped_leaves g n = by_way s (event.Release g) (λ (r : Reply). r.answer ≡ Skipped n → AllButLedger s r.system)
      (λ r w q. record { same_state = refl; same_lock = refl; same_kept = refl }) go
    where
      go : (r : Reply) → Accepts s (event.Release g) r → r.answer ≡ Skipped n → AllButLedger s r.system
      go r (serves_release l ne d) q = let z : ◌≡◌ {A = ℕ} 0 1 = cc in absurd (omega arith)
      go r (skips_release l ne d) q = record { same_state = refl; same_lock = refl; same_kept = refl }

  pub release_leaves : (g : ℕ) → AllButGang s (step_of s (event.Release g)).system g
  release_leaves g = by_way s (event.Release g) (λ (r : Reply). AllButGang s r.system g)
      (λ r w. record {
        other_numbers = λ d ne. record { same_number = refl; same_served = refl; same_skipped = refl; same_job = refl };
        other_states = λ t ne. refl;
        unused_states = λ t l. refl;
        same_holder = refl;
        same_locked = refl;
        same_blocked = refl;
        same_occupants = refl;
        other_owing = λ d ne. refl;
        same_kept = refl;
      })
      go
    where
      go : (r : Reply) → Accepts s (event.Release g) r → AllButGang s r.system g
      go r (serves_release l ne d) = record {
        other_numbers = served_other s.ledger g;
        other_states = readied_other s.table.gang g s.table.sizes.threads s.state;
        unused_states = readied_past s.table.gang g s.table.sizes.threads s.state;
        same_holder = refl;
        same_locked = refl;
        same_blocked = refl;
        same_occupants = refl;
        other_owing = owed_elsewhere s.table.core s.table.gang g s.table.sizes.threads s.lock.owing;
        same_kept = refl;
      }
      go r (skips_release l ne d) = record {
        other_numbers = skipped_other s.ledger g;
        other_states = λ t ne. refl;
        unused_states = λ t l. refl;
        same_holder = refl;
        same_locked = refl;
        same_blocked = refl;
        same_occupants = refl;
        other_owing = λ d ne. refl;
        same_kept = refl;
      }
