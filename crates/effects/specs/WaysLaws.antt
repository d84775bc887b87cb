-- Every event goes one of the ways, and no other: what is shown of each way is shown of every event.
use Rattle.std.specs.Prelude.{ℕ, ◌≤◌, ◌<◌, Bool, true, false, ◌||◌, ◌≡◌, refl, ◌⊎◌, eqb, leb}
use Rattle.std.proofs.Common.{true≢false, ⊎_elim}
use Rattle.std.proofs.Math.Logic.{inl, inr}
use Rattle.std.proofs.Math.Dec.{ltb}
use Rattle.std.proofs.lemmas.Bool.{ltb-true, ltb-false, leb-true, leb-false, eqb-true, eqb-false}
use Rattle.ledger.specs.Releases.{last_number}
use Rattle.ranges.specs.laws.Logic.{either}
use Rattle.state.specs.Allowance.{max_traffic}
use Rattle.table.specs.Numbers.{finished, waiting}
use Rattle.wire.specs.declared.answer.Answer.TheVariants.{Done}
use Rattle.wire.specs.declared.event.Event.{Event}
use Rattle.wire.specs.declared.event.Event.TheVariants as event
use Rattle.wire.specs.declared.refusal.Refusal.{Refusal}
use Rattle.wire.specs.declared.refusal.Refusal.TheVariants.{OutOfRange, NotRunning}
use Rattle.system.specs.declared.System.{System}
use Rattle.system.specs.declared.events.Reply.{Reply}
use Rattle.system.specs.Events.{reply_of, refused_by, released_by, release_step, turned, leave_step, wake_step, serve_step, traffic_step, step_of}
use Rattle.system.specs.System.{state_in, occupant_in, number_in, running}
use Rattle.effects.specs.Ways.{all_done}
use Rattle.effects.specs.Ways.{Refuses, no_gang, none_to_finish, none_to_wait, none_to_wake, none_to_serve, no_traffic}
use Rattle.effects.specs.Ways.{finish_idle, wait_idle, wake_awake, core_occupied, spent}
use Rattle.effects.specs.Ways.{Accepts, serves_release, skips_release, finishes, waits, wakes, serves, counts, ticks}
use Rattle.effects.specs.Ways.{Way, refused, accepted}

-- ---- every event goes one of these ways

either_of : (x y : Bool) → (x || y) ≡ true → (x ≡ true) ⊎ (y ≡ true)
either_of true y e = inl refl
either_of false y e = inr e

neither_of : (x y : Bool) → (x || y) ≡ false → (x ≡ false) × (y ≡ false)
neither_of true y e = absurd (true≢false e)
neither_of false y e = (refl, e)

module _ (s : System) where
  released_way : (g : ℕ) → g < s.table.sizes.gangs → (number_in s g ≡ last_number → ⊥) → Way s (event.Release g) (released_by s g)
  unfolding released_by
  released_way g l ne =
      either (Way s (event.Release g)) (all_done s g) (λ q. accepted (serves_release l ne q)) (λ q. accepted (skips_release l ne q))

  release_way : (g : ℕ) → Way s (event.Release g) (release_step s g)
  unfolding release_step
  release_way g =
      either (Way s (event.Release g)) (leb s.table.sizes.gangs g)
      (λ p. refused (no_gang (leb-true s.table.sizes.gangs g p)))
      (λ p.
      let l = leb-false s.table.sizes.gangs g p in
      either (Way s (event.Release g)) (eqb (number_in s g) last_number)
      (λ q. refused (spent l (eqb-true (number_in s g) last_number q)))
      (λ q. released_way g l (eqb-false (number_in s g) last_number q)))

  -- FINISH and WAIT, by what each is given
  leave_way : (e : Event) (t v : ℕ) → (s.table.sizes.threads ≤ t → Refuses s e OutOfRange)
      → (t < s.table.sizes.threads → running s t ≡ false → Refuses s e NotRunning)
      → (t < s.table.sizes.threads → running s t ≡ true → Accepts s e (reply_of (turned s t v) Done)) → Way s e (leave_step s t v)
  unfolding leave_step
  leave_way e t v none idle leaves =
      either (Way s e) (leb s.table.sizes.threads t)
      (λ p. refused (none (leb-true s.table.sizes.threads t p)))
      (λ p.
      let l = leb-false s.table.sizes.threads t p in
      either (Way s e) (running s t) (λ q. accepted (leaves l q)) (λ q. refused (idle l q)))

  wake_way : (t : ℕ) → Way s (event.Wake t) (wake_step s t)
  unfolding wake_step
  wake_way t =
      either (Way s (event.Wake t)) (leb s.table.sizes.threads t)
      (λ p. refused (none_to_wake (leb-true s.table.sizes.threads t p)))
      (λ p.
      let l = leb-false s.table.sizes.threads t p in
      either (Way s (event.Wake t)) (eqb (state_in s t) waiting)
      (λ q. accepted (wakes l (eqb-true (state_in s t) waiting q)))
      (λ q. refused (wake_awake l (eqb-false (state_in s t) waiting q))))

  serve_way : (c : ℕ) → Way s (event.Serve c) (serve_step s c)
  unfolding serve_step
  serve_way c =
      either (Way s (event.Serve c)) (leb s.table.sizes.cores c)
      (λ p. refused (none_to_serve (leb-true s.table.sizes.cores c p)))
      (λ p. accepted (serves (leb-false s.table.sizes.cores c p)))

  traffic_way : (c n : ℕ) → Way s (event.Traffic c n) (traffic_step s c n)
  unfolding traffic_step
  traffic_way c n =
      either (Way s (event.Traffic c n)) (leb s.table.sizes.cores c || ltb max_traffic n)
      (λ p.
      refused (no_traffic
      (⊎_elim (λ q. inl (leb-true s.table.sizes.cores c q)) (λ q. inr (ltb-true max_traffic n q))
      (either_of (leb s.table.sizes.cores c) (ltb max_traffic n) p))))
      (λ p.
      let b = neither_of (leb s.table.sizes.cores c) (ltb max_traffic n) p in
      let l = leb-false s.table.sizes.cores c b.0 in
      let m = ltb-false max_traffic n b.1 in
      either (Way s (event.Traffic c n)) (eqb (occupant_in s c) 255)
      (λ q. accepted (counts l m (eqb-true (occupant_in s c) 255 q)))
      (λ q. refused (core_occupied l m (eqb-false (occupant_in s c) 255 q))))

  pub step_way : (e : Event) → Way s e (step_of s e)
  unfolding step_of
  step_way (event.Release g) = release_way g
  step_way (event.Finish t) = leave_way (event.Finish t) t finished none_to_finish finish_idle finishes
  step_way (event.Wait t) = leave_way (event.Wait t) t waiting none_to_wait wait_idle waits
  step_way (event.Wake t) = wake_way t
  step_way (event.Serve c) = serve_way c
  step_way (event.Traffic c n) = traffic_way c n
  step_way event.Tick = accepted ticks

  -- what holds of each way holds of the step
  pub by_way : (e : Event) (P : Reply → Type 0) → ((r : Refusal) → Refuses s e r → P (refused_by s r)) → ((r : Reply) → Accepts s e r → P r)
      → P (step_of s e)
  by_way e P f g = go (step_of s e) (step_way e)
    where
      go : (r : Reply) → Way s e r → P r
      go r (refused {r = x} w) = f x w
      go r (accepted w) = g r w
