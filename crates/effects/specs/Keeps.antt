-- Well formed before any event and after each: the fresh system of a well-formed table is, and every event keeps a system so, part by part.
use Rattle.std.specs.Prelude.{ℕ, ◌≤◌, ◌<◌, true, ◌≡◌, List, length, set, replicate}
use Rattle.std.proofs.Common.{arith}
use Rattle.ledger.specs.declared.Ledger.{Ledger}
use Rattle.ledger.specs.laws.LedgerKept.{empty_ledger_ok, served_ok}
use Rattle.ledger.proofs.Skips.{skipped_ok}
use Rattle.ledger.specs.Releases.{last_number, served_of, skipped_of}
use Rattle.ledger.specs.WellFormed.{LedgerOk}
use Rattle.lock.specs.declared.Lock.{Lock}
use Rattle.lock.specs.LockOk.{LockOk}
use Rattle.lock.specs.laws.LockKept.{Handed, kept_owing, kept_owe, free_ok}
use Rattle.lock.proofs.LockKept.{kept_serve}
use Rattle.state.specs.laws.Owed.{owed_in}
use Rattle.state.specs.Rules.{StatesOk, CountsOk}
use Rattle.state.specs.laws.Rules.{states_none, states_set, states_readied, counts_none, counts_set}
use Rattle.state.specs.Threads.{readied}
use Rattle.table.specs.declared.Table.{Table}
use Rattle.table.specs.First.{first_highest}
use Rattle.table.specs.Order.{HighestReady}
use Rattle.table.specs.Numbers.{finished, ready, waiting, max_cores}
use Rattle.table.specs.Rules.{table_ok}
use Rattle.table.specs.laws.Table.{cores_room, gangs_room, threads_room}
use Rattle.table.specs.laws.Ok.{table_ok_lem}
use Rattle.wire.specs.declared.event.Event.{Event}
use Rattle.system.specs.declared.System.{System}
use Rattle.system.specs.declared.events.Reply.{Reply}
use Rattle.system.specs.Events.{served_by, skipped_by, turned, served_lock, counted, tick_step, step_of}
use Rattle.system.specs.System.{core_in, kept_in, number_in, lineup_in, first_in, with_state, with_ledger, with_lock, with_kept, fresh_system}
use Rattle.system.specs.WellFormed.{pins_of, well_formed}
use Rattle.effects.specs.Facts.{Shaped, WellFormed}
use Rattle.effects.specs.Ways.{Accepts, serves_release, skips_release, finishes, waits, wakes, serves, counts, ticks}
use Rattle.effects.specs.WaysLaws.{by_way}
use Rattle.effects.specs.WellFormedLaws.{well_formed_lem, formed_well}

-- ---- before any event

pub fresh_formed : (b : Table) → table_ok b ≡ true → WellFormed (fresh_system b)
fresh_formed b e = record {
  table = table_ok_lem b e;
  states = states_none b.sizes.threads;
  counts = counts_none b.sizes.cores;
  releases = empty_ledger_ok b.sizes.gangs;
  lock = free_ok (pins_of (fresh_system b));
}

-- ---- part by part: a system with another part is well formed where that part is

module _ (s : System) (w : WellFormed s) where
  pub with_state_keeps : (x : List ℕ) → StatesOk s.table.sizes.threads x → WellFormed (with_state s x)
  with_state_keeps x k = record { table = w.table; states = k; counts = w.counts; releases = w.releases; lock = w.lock }

  pub with_ledger_keeps : (x : Ledger) → LedgerOk s.table.sizes.gangs x → WellFormed (with_ledger s x)
  with_ledger_keeps x k = record { table = w.table; states = w.states; counts = w.counts; releases = k; lock = w.lock }

  pub with_lock_keeps : (x : Lock) → LockOk (pins_of s) x → WellFormed (with_lock s x)
  with_lock_keeps x k = record { table = w.table; states = w.states; counts = w.counts; releases = w.releases; lock = k }

  pub with_kept_keeps : (x : List ℕ) → CountsOk s.table.sizes.cores x → WellFormed (with_kept s x)
  with_kept_keeps x k = record { table = w.table; states = w.states; counts = k; releases = w.releases; lock = w.lock }

-- ---- each event

module _ (s : System) (h : Shaped s) (w : WellFormed s) where
  -- RELEASE

  pub below_last : (g : ℕ) → (number_in s g ≡ last_number → ⊥) → number_in s g < last_number
  below_last g ne = let k = h.number_fits g in omega arith

  pub served_keeps : (g : ℕ) → g < s.table.sizes.gangs → (number_in s g ≡ last_number → ⊥) → WellFormed (served_by s g)
  served_keeps g l ne =
      let made_ready = with_state s (readied s.table.gang g s.table.sizes.threads s.state) in
      with_lock_keeps (with_ledger made_ready (served_of s.ledger g))
      (with_ledger_keeps made_ready (with_state_keeps s w _ (states_readied s.table.gang g w.states)) (served_of s.ledger g)
      (served_ok s.table.sizes.gangs s.ledger g h.ledger_sized w.releases l (gangs_room s.table w.table) (below_last g ne)))
      (served_by s g).lock
      (kept_owing (pins_of s) s.lock (served_by s g).lock.owing
      (owed_in s.table.core s.table.gang g s.table.sizes.threads s.lock.owing s.table.sizes.cores w.table.core_there
      (λ d. (w.lock.core d).owing_in))
      w.lock)

  pub skipped_keeps : (g : ℕ) → g < s.table.sizes.gangs → (number_in s g ≡ last_number → ⊥) → WellFormed (skipped_by s g)
  skipped_keeps g l ne =
      with_ledger_keeps s w (skipped_of s.ledger g)
      (skipped_ok s.table.sizes.gangs s.ledger g h.ledger_sized w.releases l (gangs_room s.table w.table) (below_last g ne))

  -- FINISH, WAIT, WAKE

  pub turned_keeps : (t v : ℕ) → t < s.table.sizes.threads → v ≤ waiting → WellFormed (turned s t v)
  turned_keeps t v l k =
      with_lock_keeps (with_state s (set s.state t v)) (with_state_keeps s w (set s.state t v) (states_set t v w.states l in_room k))
      (turned s t v).lock (kept_owe (pins_of s) s.lock (core_in s t) (w.table.core_there t l) w.lock)
    where
      in_room : t < length s.state
      in_room = let a = threads_room s.table w.table in let b = h.state_size in omega arith

  -- SERVE: c's first ready thread is none, or a thread pinned to c, of one of the gangs
  pub first_handed : (c : ℕ) → Handed (pins_of s) c (first_in s c)
  first_handed c ne = (f.inside ne, f.pinned ne, w.table.gang_there (first_in s c) (f.inside ne))
    where
      f : HighestReady (lineup_in s) c (first_in s c)
      f = first_highest (lineup_in s) c (let a = threads_room s.table w.table in omega arith)

  pub served_lock_keeps : (c : ℕ) → c < s.table.sizes.cores → LockOk (pins_of s) (served_lock s c)
  served_lock_keeps c l =
      kept_serve (pins_of s) s.lock c (first_in s c) _ l (cores_room s.table w.table) (gangs_room s.table w.table) h.occupant_size
      (first_handed c) w.lock

  pub serve_keeps : (c : ℕ) → c < s.table.sizes.cores → WellFormed (with_lock s (served_lock s c))
  serve_keeps c l = with_lock_keeps s w (served_lock s c) (served_lock_keeps c l)

  -- TRAFFIC and TICK

  pub counted_keeps : (c n : ℕ) → c < s.table.sizes.cores → WellFormed (counted s c n)
  counted_keeps c n l = with_kept_keeps s w _ (counts_set c (kept_in s c) n w.counts l in_room)
    where
      in_room : c < length s.kept
      in_room = let a = cores_room s.table w.table in let b = h.kept_size in omega arith

  pub tick_keeps : WellFormed (tick_step s).system
  tick_keeps = with_kept_keeps s w (replicate max_cores 0) (counts_none s.table.sizes.cores)

  -- any event

  accepted_keeps : {e : Event} {r : Reply} → Accepts s e r → WellFormed r.system
  accepted_keeps (serves_release {g = g} l n d) = served_keeps g l n
  accepted_keeps (skips_release {g = g} l n d) = skipped_keeps g l n
  accepted_keeps (finishes {t = t} l q) = turned_keeps t finished l (omega arith)
  accepted_keeps (waits {t = t} l q) = turned_keeps t waiting l (omega arith)
  accepted_keeps (wakes {t = t} l q) = turned_keeps t ready l (omega arith)
  accepted_keeps (serves {c = c} l) = serve_keeps c l
  accepted_keeps (counts {c = c} {n = n} l m o) = counted_keeps c n l
  accepted_keeps ticks = tick_keeps

  -- a refused event hands the system back as it came
  pub step_keeps : (e : Event) → WellFormed (step_of s e).system
  step_keeps e = by_way s e (λ (r : Reply). WellFormed r.system) (λ r q. w) (λ r q. accepted_keeps q)

-- ---- the same of the test

pub step_well : (s : System) → Shaped s → well_formed s ≡ true → (e : Event) → well_formed (step_of s e).system ≡ true
step_well s h p e = formed_well (step_of s e).system (step_keeps s h (well_formed_lem s h p) e)
