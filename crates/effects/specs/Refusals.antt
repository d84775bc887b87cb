-- Each event's refusals, "given exactly when", in both directions; and a refused event "hands the system back as it came".
use Rattle.std.specs.Prelude.{ℕ, ◌≡◌, ◌⊎◌, ◌↔◌, leb}
use Rattle.std.proofs.Math.Bool.{or-true}
use Rattle.std.proofs.Math.Path.{refl}
use Rattle.std.proofs.Common.{ap, subst, inl, inr, arith}
use Rattle.std.proofs.lemmas.Bool.{lt-ltb, le-ltb, le-leb, lt-leb, eq-eqb, ne_eqb}
use Rattle.ledger.specs.Releases.{last_number}
use Rattle.state.specs.Allowance.{max_traffic}
use Rattle.table.specs.Numbers.{waiting}
use Rattle.wire.specs.declared.answer.Answer.TheVariants.{Refused}
use Rattle.wire.specs.declared.event.Event.{Event}
use Rattle.wire.specs.declared.refusal.Refusal.{Refusal}
use Rattle.system.specs.declared.System.{System}
use Rattle.system.specs.declared.events.Reply.{Reply}
use Rattle.system.specs.System.{state_in, occupant_in, number_in}
use Rattle.system.specs.Events.{refused_by, released_by, release_step, leave_step, wake_step, serve_step, traffic_step, step_of}
use Rattle.effects.specs.Ways.{Refuses, no_gang, none_to_finish, none_to_wait, none_to_wake, none_to_serve, no_traffic}
use Rattle.effects.specs.Ways.{finish_idle, wait_idle, wake_awake, core_occupied, spent}
use Rattle.effects.specs.Ways.{Accepts, serves_release, skips_release, finishes, waits, wakes, serves, counts, ticks}
use Rattle.effects.specs.WaysLaws.{by_way}

-- no event that is accepted is answered with a refusal
pub accepted_not_refused : {s : System} {e : Event} {x : Reply} → Accepts s e x → (r : Refusal) → x.answer ≡ Refused r → ⊥
accepted_not_refused (serves_release l n d) r q = let z : ◌≡◌ {A = ℕ} 0 1 = cc in omega arith
accepted_not_refused (skips_release l n d) r q = let z : ◌≡◌ {A = ℕ} 0 1 = cc in omega arith
accepted_not_refused (finishes l p) r q = let z : ◌≡◌ {A = ℕ} 0 1 = cc in omega arith
accepted_not_refused (waits l p) r q = let z : ◌≡◌ {A = ℕ} 0 1 = cc in omega arith
accepted_not_refused (wakes l p) r q = let z : ◌≡◌ {A = ℕ} 0 1 = cc in omega arith
accepted_not_refused (serves l) r q = let z : ◌≡◌ {A = ℕ} 0 1 = cc in omega arith
accepted_not_refused (counts l m o) r q = let z : ◌≡◌ {A = ℕ} 0 1 = cc in omega arith
accepted_not_refused ticks r q = let z : ◌≡◌ {A = ℕ} 0 1 = cc in omega arith

same_refusal : (a r : Refusal) → Refused a ≡ Refused r → a ≡ r
same_refusal a r q = cc

module _ (s : System) where
  pub refused_when : (e : Event) (r : Refusal) → (step_of s e).answer ≡ Refused r → Refuses s e r
  refused_when e r = by_way s e (λ (x : Reply). x.answer ≡ Refused r → Refuses s e r)
      (λ a w q. subst (Refuses s e) (same_refusal a r q) w) (λ x w q. absurd (accepted_not_refused w r q))

  pub when_refused : {e : Event} {r : Refusal} → Refuses s e r → step_of s e ≡ refused_by s r
  unfolding step_of release_step leave_step wake_step serve_step traffic_step
  when_refused (no_gang {g = g} l) = rw (le-leb s.table.sizes.gangs g l)
  when_refused (none_to_finish {t = t} l) = rw (le-leb s.table.sizes.threads t l)
  when_refused (none_to_wait {t = t} l) = rw (le-leb s.table.sizes.threads t l)
  when_refused (none_to_wake {t = t} l) = rw (le-leb s.table.sizes.threads t l)
  when_refused (none_to_serve {c = c} l) = rw (le-leb s.table.sizes.cores c l)
  when_refused (no_traffic {c = c} (inl l)) = rw (le-leb s.table.sizes.cores c l)
  when_refused (no_traffic {c = c} {n = n} (inr l)) = rw (lt-ltb max_traffic n l, or-true (leb s.table.sizes.cores c))
  when_refused (finish_idle {t = t} l q) = rw (lt-leb s.table.sizes.threads t l, q)
  when_refused (wait_idle {t = t} l q) = rw (lt-leb s.table.sizes.threads t l, q)
  when_refused (wake_awake {t = t} l q) = rw (lt-leb s.table.sizes.threads t l, ne_eqb (state_in s t) waiting q)
  when_refused (core_occupied {c = c} {n = n} l m q) =
      rw (lt-leb s.table.sizes.cores c l, le-ltb max_traffic n m, ne_eqb (occupant_in s c) 255 q)
  when_refused (spent {g = g} l q) = rw (lt-leb s.table.sizes.gangs g l, eq-eqb (number_in s g) last_number q)

  pub when_accepted : {e : Event} {x : Reply} → Accepts s e x → step_of s e ≡ x
  unfolding step_of release_step released_by leave_step wake_step serve_step traffic_step
  when_accepted (serves_release {g = g} l n d) = rw (lt-leb s.table.sizes.gangs g l, ne_eqb (number_in s g) last_number n, d)
  when_accepted (skips_release {g = g} l n d) = rw (lt-leb s.table.sizes.gangs g l, ne_eqb (number_in s g) last_number n, d)
  when_accepted (finishes {t = t} l q) = rw (lt-leb s.table.sizes.threads t l, q)
  when_accepted (waits {t = t} l q) = rw (lt-leb s.table.sizes.threads t l, q)
  when_accepted (wakes {t = t} l q) = rw (lt-leb s.table.sizes.threads t l, eq-eqb (state_in s t) waiting q)
  when_accepted (serves {c = c} l) = rw (lt-leb s.table.sizes.cores c l)
  when_accepted (counts {c = c} {n = n} l m q) = rw (lt-leb s.table.sizes.cores c l, le-ltb max_traffic n m, eq-eqb (occupant_in s c) 255 q)
  when_accepted ticks = refl

  -- every event is the one or the other, and none is both
  pub accepted_or_refused : (e : Event) → ((r : Refusal) × Refuses s e r) ⊎ ((x : Reply) × Accepts s e x)
  accepted_or_refused e =
      by_way s e (λ (y : Reply). ((r : Refusal) × Refuses s e r) ⊎ ((x : Reply) × Accepts s e x)) (λ r w. inl (r, w)) (λ x w. inr (x, w))

  -- an event is refused with a number exactly when document 01's table says so: each row is a constructor of `Refuses`
  pub refused_exactly : (e : Event) (r : Refusal) → ((step_of s e).answer ≡ Refused r) ↔ Refuses s e r
  refused_exactly e r = (refused_when e r, λ w. ap (λ (x : Reply). x.answer) (when_refused w))

  -- "A refused event .. hands the system back as it came"
  pub refused_same : (e : Event) (r : Refusal) → (step_of s e).answer ≡ Refused r → (step_of s e).system ≡ s
  refused_same e r q = ap (λ (x : Reply). x.system) (when_refused (refused_when e r q))
