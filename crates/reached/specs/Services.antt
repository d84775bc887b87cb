-- Serving only owing cores, one after the other, by SERVE itself: `apply_of s (Serve c)` is what the code does.
use Rattle.std.specs.Prelude.{ℕ, ◌<◌, ◌≡◌, refl, List, [], ◌∷◌, ◌++◌}
use Rattle.std.proofs.Common.{sym, ap, ◌∙◌, subst, arith}
use Rattle.lock.specs.declared.Lock.{Lock}
use Rattle.lock.specs.World.{serve}
use Rattle.lock.specs.laws.Thrice.{Serving, serving_done as serving_done, serving_then as serving_then}
use Rattle.lock.specs.laws.Times.{NonePast, none_past_nil, none_past_cons}
use Rattle.wire.specs.declared.answer.Answer.TheVariants.{Occupant}
use Rattle.wire.specs.declared.event.Event.TheVariants.{Serve}
use Rattle.system.specs.declared.System.{System}
use Rattle.system.specs.declared.events.Reply.{Reply}
use Rattle.system.specs.System.{occupant_in, with_lock}
use Rattle.system.specs.Events.{reply_of, served_lock, apply_of}
use Rattle.effects.specs.laws.Shaped.{served_lock_is}
use Rattle.effects.specs.Ways.{serves}
use Rattle.effects.specs.Refusals.{when_accepted}
use Rattle.reached.specs.Reached.{Accepted, Reached}
use Rattle.reached.specs.ByEvents.{event_reached}
use Rattle.reached.specs.Formed.{accepted_cores, reached_formed, reached_accepted, reached_applies}
use Rattle.reached.specs.WorldOf.{world_of}
use Rattle.reached.specs.EveryState.{Owes}

-- the system after SERVE c
abbrev pub serve_in : System → ℕ → System
serve_in s c = (apply_of s (Serve c)).system

-- a rule for SERVE: what it makes of a system and a core
abbrev pub ServeRule : Type 0
ServeRule = System → ℕ → System

-- from s, the cores of the list are served one after the other by a rule, each of them owing then, up to r
pub data ServesBy (rule : ServeRule) : System → List ℕ → System → Type 0 where
  done : {s : System} → ServesBy rule s [] s
  then : {s r : System} {c : ℕ} {cs : List ℕ} → Owes s c → ServesBy rule (rule s c) cs r → ServesBy rule s (c ∷ cs) r

-- the same by SERVE itself
abbrev pub Serves : System → List ℕ → System → Type 0
Serves = ServesBy serve_in

-- services are events: they lead from a reached state to a reached state
pub serves_reached : {s r : System} {cs : List ℕ} → Serves s cs r → Reached s → Reached r
serves_reached done R = R
serves_reached (then o v) R = serves_reached v (event_reached R (Serve _))

-- some services, and then some more
pub serves_on : {rule : ServeRule} {s r q : System} {cs ds : List ℕ} → ServesBy rule s cs r → ServesBy rule r ds q → ServesBy rule s (cs ++ ds) q
serves_on done w = w
serves_on (then o v) w = then o (serves_on v w)

-- ---- a core that owes can be served: it exists, SERVE is accepted, and answers with the occupant that it leaves

module _ {s : System} (R : Reached s) (c : ℕ) (o : Owes s c) where
  pub owing_exists : c < s.table.sizes.cores
  owing_exists = ((reached_formed R).lock.core c).owing_in o

  served_reply : apply_of s (Serve c) ≡ reply_of (with_lock s (served_lock s c)) (Occupant (occupant_in (with_lock s (served_lock s c)) c))
  served_reply = reached_applies R (Serve c) ∙ when_accepted s (serves owing_exists)

  -- and changes nothing but the lock, as lock's own SERVE does in this system's world
  pub served_in_world : (a : Accepted s.table) → serve_in s c ≡ with_lock s (serve (world_of s a) s.lock c)
  served_in_world a =
      ap (λ (x : Reply). x.system) served_reply
      ∙ ap (with_lock s) (sym (served_lock_is s c (let l = owing_exists in let m = (accepted_cores s.table a).1 in omega arith)))

-- ---- the services as a run of lock's: nothing but the lock changes, and each is of one of the table's cores

pub record RunsIn (s : System) (a : Accepted s.table) (l : Lock) (cs : List ℕ) (r : System) : Type 0 where
  pub all_but_lock : r ≡ with_lock s r.lock
  pub run : Serving (world_of s a) l cs r.lock
  pub of_cores : NonePast s.table.sizes.cores cs

module _ (s : System) (a : Accepted s.table) where
  run_from : (l : Lock) {t r : System} {cs : List ℕ} → Reached t → t ≡ with_lock s l → Serves t cs r → RunsIn s a l cs r
  run_from l R e done = record {
    all_but_lock = e ∙ sym (ap (λ (x : System). with_lock s x.lock) e);
    run = subst (λ (x : System). Serving (world_of s a) l [] x.lock) (sym e) serving_done;
    of_cores = none_past_nil s.table.sizes.cores;
  }
  run_from l R e (then {c = c} {cs = cs} o v) =
      let Q : Reached (with_lock s l) = subst Reached e R in
      let p : Owes (with_lock s l) c = subst (λ (x : System). Owes x c) e o in
      let k : c < s.table.sizes.cores = owing_exists Q c p in
      let i = run_from (serve (world_of s a) l c) (event_reached R (Serve c)) (ap (λ (x : System). serve_in x c) e ∙ served_in_world Q c p a) v in
      record {
        all_but_lock = i.all_but_lock;
        run = serving_then {c = c} (let m = (accepted_cores s.table a).1 in omega arith) p i.run;
        of_cores = none_past_cons s.table.sizes.cores c cs k i.of_cores;
      }

pub runs_in : {s r : System} {cs : List ℕ} (R : Reached s) → Serves s cs r → RunsIn s (reached_accepted R) s.lock cs r
runs_in {s} R v = run_from s (reached_accepted R) s.lock R refl v
