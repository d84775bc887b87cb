-- What holds of the lock at every reached state, `Good`: it holds before any event, and every event keeps it, as each core whose first ready
-- thread may have changed then owes.
use Rattle.std.specs.Prelude.{ℕ, ◌<◌, false, ◌≡◌, refl}
use Rattle.std.proofs.Common.{sym, subst, arith}
use Rattle.coreset.specs.Set.{has}
use Rattle.lists.specs.laws.Lists.{same_throughout}
use Rattle.ranges.specs.laws.Logic.{clash, is_false}
use Rattle.lock.specs.Good.{Good}
use Rattle.lock.specs.laws.Good.{good_free}
use Rattle.lock.proofs.GoodKept.{good_serve}
use Rattle.lock.specs.laws.LockEvents.{Unmoved, same_order, good_event, good_owe}
use Rattle.table.specs.declared.Table.{Table}
use Rattle.table.specs.Numbers.{max_threads}
use Rattle.table.specs.laws.First.{first_cong, first_local}
use Rattle.state.specs.laws.Threads.{readied_other}
use Rattle.state.specs.laws.Owed.{owed_still, owed_thread}
use Rattle.wire.specs.declared.event.Event.{Event}
use Rattle.system.specs.declared.System.{System}
use Rattle.system.specs.declared.events.Reply.{Reply}
use Rattle.system.specs.System.{core_in, gang_in, lineup_in, first_in, with_lock, fresh_system}
use Rattle.system.specs.Events.{served_by, turned, served_lock, step_of}
use Rattle.effects.specs.laws.Shaped.{served_lock_is}
use Rattle.effects.specs.Ways.{Accepts, serves_release, skips_release, finishes, waits, wakes, serves, counts, ticks}
use Rattle.effects.specs.WaysLaws.{by_way}
use Rattle.reached.specs.Reached.{Accepted, Reached}
use Rattle.reached.specs.ByEvents.{by_events}
use Rattle.reached.specs.Formed.{accepted_table_ok, accepted_cores, reached_applies, reached_accepted}
use Rattle.reached.specs.First.{none_first}
use Rattle.reached.specs.WorldOf.{world_of}

-- the lock is as the system's ready threads have it, but for what its owing cores owe
abbrev pub GoodLock : System → Type 0
GoodLock s = (a : Accepted s.table) → Good (world_of s a) s.lock

-- "Each thread is finished (at first)": none is ready
pub fresh_good : (b : Table) → GoodLock (fresh_system b)
fresh_good b a =
    good_free (world_of (fresh_system b) a)
    (λ d. none_first (fresh_system b) a d (λ t r p. let e = r.1 in let z = same_throughout max_threads t 0 in omega arith))

module _ (s : System) (G : GoodLock s) where
  -- FINISH, WAIT, WAKE: the thread's core owes, and no other core's first ready thread changes
  turned_good : (t v : ℕ) → t < s.table.sizes.threads → GoodLock (turned s t v)
  turned_good t v l a =
      good_owe (world_of s a) (world_of (turned s t v) a) s.lock (core_in s t)
      (let c = (accepted_table_ok s.table a).core_there t l in let m = (accepted_cores s.table a).1 in omega arith)
      refl unmoved (G a)
    where
      unmoved : (d : ℕ) → (d ≡ core_in s t → ⊥) → Unmoved (world_of s a) (world_of (turned s t v) a) s.lock d
      unmoved d ne =
          same_order (world_of s a) (world_of (turned s t v) a) s.lock d refl refl
          (first_local (lineup_in s) d t v (λ e. ne (sym e)))

  -- RELEASE served: the cores of the gang's threads owe, and no other core's first ready thread changes
  released_good : (g : ℕ) → GoodLock (served_by s g)
  released_good g a =
      good_event (world_of s a) (world_of (served_by s g) a) s.lock (served_by s g).lock.owing refl
      (λ d o. (owed d o, same_order (world_of s a) (world_of (served_by s g) a) s.lock d refl refl (same d o))) (G a)
    where
      owed : (d : ℕ) → has (served_by s g).lock.owing d ≡ false → has s.lock.owing d ≡ false
      owed d o =
          is_false (has s.lock.owing d)
          (λ p. clash (owed_still s.table.core s.table.gang g s.table.sizes.threads s.lock.owing d p) o)

      -- a thread of the gang's is not pinned to a core that does not owe
      elsewhere : (d u : ℕ) → has (served_by s g).lock.owing d ≡ false → u < s.table.sizes.threads → core_in s u ≡ d → gang_in s u ≡ g → ⊥
      elsewhere d u o l p q =
          let c = (accepted_table_ok s.table a).core_there u l in
          let m = (accepted_cores s.table a).1 in
          clash
          (owed_thread s.table.core s.table.gang g s.table.sizes.threads s.lock.owing d (omega arith)
          (record { thread = u; below = l; its_gang = q; its_core = p }))
          o

      same : (d : ℕ) → has (served_by s g).lock.owing d ≡ false → first_in s d ≡ first_in (served_by s g) d
      same d o =
          first_cong (lineup_in s) d (served_by s g).state
          (λ u l p. sym (readied_other s.table.gang g s.table.sizes.threads s.state u (elsewhere d u o l p)))

  -- SERVE
  served_good : (c : ℕ) → c < s.table.sizes.cores → GoodLock (with_lock s (served_lock s c))
  served_good c l a =
      let m : c < 32 = (let k = (accepted_cores s.table a).1 in omega arith) in
      subst (Good (world_of s a)) (served_lock_is s c m) (good_serve (world_of s a) s.lock c m (G a))

  -- a skipped RELEASE, TRAFFIC and TICK change neither the lock nor a thread
  accepted_good : {e : Event} {r : Reply} → Accepts s e r → GoodLock r.system
  accepted_good (serves_release {g = g} l n d) = released_good g
  accepted_good (skips_release l n d) = G
  accepted_good (finishes {t = t} l q) = turned_good t _ l
  accepted_good (waits {t = t} l q) = turned_good t _ l
  accepted_good (wakes {t = t} l q) = turned_good t _ l
  accepted_good (serves {c = c} l) = served_good c l
  accepted_good (counts l m o) = G
  accepted_good ticks = G

  -- a refused event hands the system back as it came
  pub step_good : (e : Event) → GoodLock (step_of s e).system
  step_good e = by_way s e (λ (r : Reply). GoodLock r.system) (λ r w. G) (λ r w. accepted_good w)

-- at every reached state
pub reached_lock : {s : System} → Reached s → GoodLock s
reached_lock =
    by_events GoodLock (λ s R e G. subst (λ (x : Reply). GoodLock x.system) (sym (reached_applies R e)) (step_good s G e))
    (λ b a. fresh_good b)

pub reached_good : {s : System} (R : Reached s) → Good (world_of s (reached_accepted R)) s.lock
reached_good R = reached_lock R (reached_accepted R)
