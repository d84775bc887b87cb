-- Every event keeps as many places in each list as the types say, and numbers that fit.
use Rattle.std.specs.Prelude.{ℕ, ◌≤◌, ◌<◌, ◌^◌, ◌≡◌, refl, List, length, get_or, set, replicate}
use Rattle.std.proofs.Common.{◌∙◌, arith, length-set, pow_pos, get_or-set_same}
use Rattle.std.proofs.Math.Decide.{dec_lt}
use Rattle.std.proofs.Math.ListN.{get_or-eq_default}
use Rattle.ledger.specs.declared.Ledger.{Ledger}
use Rattle.ledger.specs.Releases.{last_number, raised, raised_at, served_of, skipped_of}
use Rattle.ledger.specs.Sized.{Sized}
use Rattle.ledger.specs.laws.Ledger.{empty_sized, served_sized, skipped_sized, raised_below, raised_last, raised_other}
use Rattle.lists.specs.laws.Lists.{same_throughout}
use Rattle.lock.specs.declared.Lock.{Lock}
use Rattle.lock.specs.laws.ServeCases.{serve_beyond}
use Rattle.lock.specs.laws.Occupants.{serve_room}
use Rattle.lock.specs.LockOk.{Masks}
use Rattle.lock.proofs.LockKept.{serve_masks}
use Rattle.lock.specs.Serve.{with_owing, serve_by}
use Rattle.lock.specs.laws.ServeSteps.{serve_by_order}
use Rattle.ranges.specs.laws.Logic.{at_or_away}
use Rattle.state.specs.laws.Threads.{readied_length}
use Rattle.state.specs.Threads.{readied}
use Rattle.coreset.specs.laws.Members.{within_lt}
use Rattle.state.specs.laws.Owed.{owed_fits}
use Rattle.table.specs.declared.Table.{Table}
use Rattle.table.specs.Numbers.{max_cores, max_threads}
use Rattle.wire.specs.declared.event.Event.{Event}
use Rattle.system.specs.declared.System.{System}
use Rattle.system.specs.declared.events.Reply.{Reply}
use Rattle.system.specs.Events.{served_by, turned, served_lock, step_of}
use Rattle.system.specs.System.{core_in, gang_in, number_in, first_in, ahead_in, with_state, with_ledger, with_lock, with_kept, fresh_system}
use Rattle.effects.specs.Facts.{TableShaped, Shaped}
use Rattle.effects.specs.Ways.{Accepts, serves_release, skips_release, finishes, waits, wakes, serves, counts, ticks}
use Rattle.effects.specs.WaysLaws.{by_way}

-- ---- a fresh system

pub fresh_shaped : (b : Table) → TableShaped b → Shaped (fresh_system b)
fresh_shaped b h = record {
  table_shaped = h;
  state_size = refl;
  ledger_sized = empty_sized;
  masks = record { locked_fits = pow_pos 32; blocked_fits = pow_pos 32; owing_fits = pow_pos 32 };
  occupant_size = refl;
  kept_size = refl;
  number_fits = λ g. let e : number_in (fresh_system b) g ≡ 0 = same_throughout 32 g 0 in omega arith;
}

-- ---- the parts that events change

raised_fits : (n : ℕ) → n ≤ last_number → raised n ≤ last_number
raised_fits n h = go (dec_lt n last_number)
  where
    go : Dec (n < last_number) → raised n ≤ last_number
    go (yes l) = let e : raised n ≡ _ = raised_below n l in omega arith
    go (no l) = let e : raised n ≡ n = raised_last n (omega arith) in omega arith

-- no number passes the last one
raised_all_fit : (xs : List ℕ) (g : ℕ) → length xs ≡ 32 → ((d : ℕ) → get_or xs d 0 ≤ last_number) → (d : ℕ)
    → get_or (raised_at xs g) d 0 ≤ last_number
raised_all_fit xs g n h =
    at_or_away (λ (d : ℕ). get_or (raised_at xs g) d 0 ≤ last_number) g (here (dec_lt g 32))
    (λ d ne. let e = raised_other xs g d ne in let k = h d in omega arith)
  where
    here : Dec (g < 32) → get_or (raised_at xs g) g 0 ≤ last_number
    here (yes l) = let e = get_or-set_same xs g (raised (get_or xs g 0)) 0 (omega arith) in let k = raised_fits (get_or xs g 0) (h g) in omega arith
    here (no l) =
        let past = length-set xs g (raised (get_or xs g 0)) in
        let e : get_or (raised_at xs g) g 0 ≡ 0 = get_or-eq_default (raised_at xs g) 0 (omega arith) in
        omega arith

module _ (s : System) where
  -- the lock after SERVE c, by the order of gangs alone
  pub served_lock_is : (c : ℕ) → c < 32
      → serve_by (ahead_in s (gang_in s (first_in s c))) s.lock c (first_in s c) (gang_in s (first_in s c)) ≡ served_lock s c
  served_lock_is c l = serve_by_order (ahead_in s (gang_in s (first_in s c))) s.lock c (first_in s c) (gang_in s (first_in s c)) l

  pub served_lock_beyond : (c : ℕ) → 32 ≤ c → served_lock s c ≡ s.lock
  served_lock_beyond c l = serve_beyond s.lock c (first_in s c) _ _ l

-- ---- part by part: a system with another part is shaped where that part is

module _ (s : System) (h : Shaped s) where
  pub with_state_shaped : (x : List ℕ) → length x ≡ max_threads → Shaped (with_state s x)
  with_state_shaped x e = record {
    table_shaped = h.table_shaped;
    state_size = e;
    ledger_sized = h.ledger_sized;
    masks = h.masks;
    occupant_size = h.occupant_size;
    kept_size = h.kept_size;
    number_fits = h.number_fits;
  }

  pub with_ledger_shaped : (x : Ledger) → Sized x → ((g : ℕ) → get_or x.number g 0 ≤ last_number) → Shaped (with_ledger s x)
  with_ledger_shaped x z f = record {
    table_shaped = h.table_shaped;
    state_size = h.state_size;
    ledger_sized = z;
    masks = h.masks;
    occupant_size = h.occupant_size;
    kept_size = h.kept_size;
    number_fits = f;
  }

  pub with_lock_shaped : (x : Lock) → Masks 32 x → length x.occupant ≡ max_cores → Shaped (with_lock s x)
  with_lock_shaped x m o = record {
    table_shaped = h.table_shaped;
    state_size = h.state_size;
    ledger_sized = h.ledger_sized;
    masks = m;
    occupant_size = o;
    kept_size = h.kept_size;
    number_fits = h.number_fits;
  }

  pub with_kept_shaped : (x : List ℕ) → length x ≡ max_cores → Shaped (with_kept s x)
  with_kept_shaped x e = record {
    table_shaped = h.table_shaped;
    state_size = h.state_size;
    ledger_sized = h.ledger_sized;
    masks = h.masks;
    occupant_size = h.occupant_size;
    kept_size = e;
    number_fits = h.number_fits;
  }

-- ---- each event

module _ (s : System) (h : Shaped s) where
  -- other owing cores, which fit
  owing_shaped : (r : System) → Shaped r → (m : ℕ) → m < 2 ^ 32 → Shaped (with_lock r (with_owing s.lock m))
  owing_shaped r k m l =
      with_lock_shaped r k (with_owing s.lock m)
      (record { locked_fits = h.masks.locked_fits; blocked_fits = h.masks.blocked_fits; owing_fits = l }) h.occupant_size

  lock_masks : (c : ℕ) → Masks 32 (served_lock s c)
  lock_masks c = go (dec_lt c 32)
    where
      go : Dec (c < 32) → Masks 32 (served_lock s c)
      go (yes l) = serve_masks 32 s.lock c (first_in s c) _ _ l h.masks
      go (no l) = rw (served_lock_beyond s c (omega arith)) h.masks

  numbers_fit : (g d : ℕ) → get_or (raised_at s.ledger.number g) d 0 ≤ last_number
  numbers_fit g = raised_all_fit s.ledger.number g h.ledger_sized.number_size h.number_fits

  turned_shaped : (t v : ℕ) → Shaped (turned s t v)
  turned_shaped t v =
      owing_shaped (with_state s (set s.state t v)) (with_state_shaped s h (set s.state t v) (length-set s.state t v ∙ h.state_size))
      _ (within_lt 32 s.lock.owing (core_in s t) h.masks.owing_fits)

  served_shaped : (g : ℕ) → Shaped (served_by s g)
  served_shaped g =
      let made_ready = with_state s (readied s.table.gang g s.table.sizes.threads s.state) in
      owing_shaped (with_ledger made_ready (served_of s.ledger g))
      (with_ledger_shaped made_ready (with_state_shaped s h _ (readied_length s.table.gang g s.table.sizes.threads s.state ∙ h.state_size))
      (served_of s.ledger g) (served_sized s.ledger g h.ledger_sized) (numbers_fit g))
      _ (owed_fits s.table.core s.table.gang g s.table.sizes.threads s.lock.owing h.masks.owing_fits)

  accepted_shaped : {e : Event} {r : Reply} → Accepts s e r → Shaped r.system
  accepted_shaped (serves_release {g = g} l n d) = served_shaped g
  accepted_shaped (skips_release {g = g} l n d) =
      with_ledger_shaped s h (skipped_of s.ledger g) (skipped_sized s.ledger g h.ledger_sized) (numbers_fit g)
  accepted_shaped (finishes {t = t} l q) = turned_shaped t _
  accepted_shaped (waits {t = t} l q) = turned_shaped t _
  accepted_shaped (wakes {t = t} l q) = turned_shaped t _
  accepted_shaped (serves {c = c} l) =
      with_lock_shaped s h (served_lock s c) (lock_masks c) (serve_room s.lock c (first_in s c) _ _ ∙ h.occupant_size)
  accepted_shaped (counts {c = c} l m o) = with_kept_shaped s h _ (length-set s.kept c _ ∙ h.kept_size)
  accepted_shaped ticks = with_kept_shaped s h (replicate max_cores 0) refl

  -- every event
  pub step_shaped : (e : Event) → Shaped (step_of s e).system
  step_shaped e = by_way s e (λ (r : Reply). Shaped r.system) (λ r w. h) (λ r w. accepted_shaped w)
