-- Demand 3, said once of any rule for SERVE whatever: which states it speaks of, and what it asks. SERVE meets it; WrongServe has rules that don't.
use Rattle.std.specs.Prelude.{ℕ, ◌*◌, ◌≤◌, true, ◌≡◌, refl, List, length}
use Rattle.std.proofs.Common.{sym, subst}
use Rattle.lock.specs.Times.{times}
use Rattle.table.specs.declared.Table.{Table}
use Rattle.wire.specs.declared.event.Event.{Event}
use Rattle.wire.specs.declared.event.Event.TheVariants as event
use Rattle.system.specs.declared.System.{System}
use Rattle.system.specs.System.{core_in, occupant_in, first_in, ahead_in, fresh_system}
use Rattle.system.specs.Events.{apply_of}
use Rattle.effects.specs.Standing.{Locked}
use Rattle.reached.specs.Reached.{Accepted, Reached}
use Rattle.reached.specs.ByEvents.{fresh_reached, event_reached, by_events}
use Rattle.reached.specs.First.{ReadyThread, HasFirst, first_gang_in}
use Rattle.reached.specs.EveryState.{Runs}
use Rattle.reached.specs.Services.{ServeRule, ServesBy, serve_in}
use Rattle.reached.specs.Demand3.{NoneOwes, Rest, three_services, serving_ends, rest_exists, one_rest}
use Rattle.reached.specs.AtRest.{HasReady, FirstIsHolders, Blocked, NoneReady}
use Rattle.reached.specs.AtRest.{rest_held, rest_holder_ready, rest_holder_highest, rest_runs, rest_empty, rest_idle}
use Rattle.reached.specs.AtRest.{rest_blocked, rest_unblocked, rest_free, rest_free_empty}

-- ---- "any state reached from an accepted table by any events", where SERVE is done by a rule

-- an event, with SERVE done by the rule
unfoldable pub event_by : ServeRule → System → Event → System
event_by rule s (event.Serve c) = rule s c
event_by rule s (event.Release g) = (apply_of s (event.Release g)).system
event_by rule s (event.Finish t) = (apply_of s (event.Finish t)).system
event_by rule s (event.Wait t) = (apply_of s (event.Wait t)).system
event_by rule s (event.Wake t) = (apply_of s (event.Wake t)).system
event_by rule s (event.Traffic c n) = (apply_of s (event.Traffic c n)).system
event_by rule s event.Tick = (apply_of s event.Tick).system

pub data ReachedBy (rule : ServeRule) : System → Type 0 where
  at_first : (b : Table) → Accepted b → ReachedBy rule (fresh_system b)
  after_event : {s : System} → ReachedBy rule s → (e : Event) → ReachedBy rule (event_by rule s e)

-- by SERVE itself these are the reached states
event_by_serve : (s : System) (e : Event) → event_by serve_in s e ≡ (apply_of s e).system
unfolding event_by
event_by_serve s (event.Serve c) = refl
event_by_serve s (event.Release g) = refl
event_by_serve s (event.Finish t) = refl
event_by_serve s (event.Wait t) = refl
event_by_serve s (event.Wake t) = refl
event_by_serve s (event.Traffic c n) = refl
event_by_serve s event.Tick = refl

pub serve_reached : {s : System} → ReachedBy serve_in s → Reached s
serve_reached (at_first b a) = fresh_reached b a
serve_reached (after_event {s = s} R e) = subst Reached (sym (event_by_serve s e)) (event_reached (serve_reached R) e)

pub reached_serve : {s : System} → Reached s → ReachedBy serve_in s
reached_serve =
    by_events (ReachedBy serve_in) (λ s R e Q. subst (ReachedBy serve_in) (event_by_serve s e) (after_event Q e)) (λ b a. at_first b a)

-- ---- the shape at rest: the lock that the ready threads give

pub record GivenByReady (s : System) : Type 0 where
  -- where some thread is ready the lock is held, by the highest-priority gang with a ready thread
  pub held : (t : ℕ) → ReadyThread s t → s.lock.holder ≡ 255 → ⊥
  pub by_ready : (t : ℕ) → ReadyThread s t → HasReady s s.lock.holder
  pub by_highest : (g : ℕ) → HasReady s g → (g ≡ s.lock.holder → ⊥) → ahead_in s s.lock.holder g ≡ true
  -- each core whose first ready thread is that gang's runs it
  pub runs : (d : ℕ) → FirstIsHolders s d → Locked s d × (occupant_in s d ≡ first_in s d) × Runs s (first_in s d)
  -- no other core runs a real-time thread
  pub empty : (d : ℕ) → (FirstIsHolders s d → ⊥) → (Locked s d → ⊥) × (occupant_in s d ≡ 255)
  pub idle : (d : ℕ) → (FirstIsHolders s d → ⊥) → (t : ℕ) → core_in s t ≡ d → Runs s t → ⊥
  -- a core whose first ready thread is another gang's is blocked, and no other core is
  pub blocked : (d : ℕ) → HasFirst s d → (first_gang_in s d ≡ s.lock.holder → ⊥) → Blocked s d
  pub unblocked : (d : ℕ) → (HasFirst s d → first_gang_in s d ≡ s.lock.holder) → Blocked s d → ⊥
  -- where no thread is ready the lock is free
  pub free : NoneReady s → (s.lock.holder ≡ 255) × (s.lock.locked ≡ 0) × (s.lock.blocked ≡ 0)
  pub free_empty : NoneReady s → (d : ℕ) → occupant_in s d ≡ 255

-- ---- demand 3

pub record Demand3 (rule : ServeRule) : Type 0 where
  -- no core is served more than three times, so serving ends
  pub thrice_at_most : {s r : System} {cs : List ℕ} → ReachedBy rule s → ServesBy rule s cs r → (d : ℕ) → times d cs ≤ 3
  pub ends : {s r : System} {cs : List ℕ} → ReachedBy rule s → ServesBy rule s cs r → length cs ≤ 3 * s.table.sizes.cores
  -- it comes to where none owes, and every order comes to one and the same system
  pub rests : {s : System} → ReachedBy rule s → Rest rule s
  pub one_system : {s r r' : System} {cs cs' : List ℕ} → ReachedBy rule s → ServesBy rule s cs r → ServesBy rule s cs' r'
      → NoneOwes r → NoneOwes r' → r ≡ r'
  -- whose lock the ready threads give
  pub given : {s : System} → ReachedBy rule s → NoneOwes s → GivenByReady s

pub serve_meets : Demand3 serve_in
serve_meets = record {
  thrice_at_most = λ R v. three_services (serve_reached R) v;
  ends = λ R v. serving_ends (serve_reached R) v;
  rests = λ R. rest_exists (serve_reached R);
  one_system = λ R v v' e e'. one_rest (serve_reached R) v v' e e';
  given = λ Q n. let R = serve_reached Q in record {
    held = rest_held R n;
    by_ready = rest_holder_ready R n;
    by_highest = rest_holder_highest R n;
    runs = rest_runs R n;
    empty = rest_empty R n;
    idle = rest_idle R n;
    blocked = rest_blocked R n;
    unblocked = rest_unblocked R n;
    free = rest_free R n;
    free_empty = rest_free_empty R n;
  };
}
