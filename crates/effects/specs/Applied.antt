-- An event on any system whatever: refused with 14 exactly when the system "is not well formed", and else the event's own step.
use Rattle.std.specs.Prelude.{true, false, ◌≡◌, refl, ◌⊎◌, ◌↔◌}
use Rattle.std.proofs.Common.{sym, ap, ◌∙◌, inl, inr, ⊎_elim}
use Rattle.wire.specs.declared.answer.Answer.TheVariants.{Refused}
use Rattle.wire.specs.declared.event.Event.{Event}
use Rattle.wire.specs.declared.refusal.Refusal.{Refusal}
use Rattle.wire.specs.declared.refusal.Refusal.TheVariants.{NotWellFormed}
use Rattle.system.specs.declared.System.{System}
use Rattle.system.specs.declared.events.Reply.{Reply}
use Rattle.ranges.specs.laws.Logic.{either}
use Rattle.system.specs.Events.{refused_by, step_of, checked, apply_of}
use Rattle.effects.specs.Ways.{Refuses}
use Rattle.effects.specs.Refusals.{refused_when, when_refused, refused_same}
use Rattle.system.specs.WellFormed.{well_formed}
use Rattle.effects.specs.Facts.{WellFormed}
use Rattle.effects.specs.Facts.{Shaped}
use Rattle.effects.specs.laws.Shaped.{step_shaped}
use Rattle.effects.specs.Keeps.{step_keeps}

-- no event gives 14 of its own
never_14 : {s : System} {e : Event} → Refuses s e NotWellFormed → ⊥
never_14 = elim [ ]

module _ (s : System) (e : Event) where
  pub apply_well : well_formed s ≡ true → apply_of s e ≡ step_of s e
  unfolding checked
  apply_well p = rw p

  pub apply_ill : well_formed s ≡ false → apply_of s e ≡ refused_by s NotWellFormed
  unfolding checked
  apply_ill p = rw p

  -- what holds of both holds of the event
  by_test : (P : Reply → Type 0) → (well_formed s ≡ true → P (step_of s e)) → (well_formed s ≡ false → P (refused_by s NotWellFormed))
      → P (apply_of s e)
  unfolding checked
  by_test P = either P (well_formed s)

  -- 14 "exactly when"
  pub apply_14 : ((apply_of s e).answer ≡ Refused NotWellFormed) ↔ (well_formed s ≡ false)
  apply_14 = (
    by_test (λ (x : Reply). x.answer ≡ Refused NotWellFormed → well_formed s ≡ false)
        (λ p q. absurd (never_14 (refused_when s e NotWellFormed q))) (λ p q. p),
    λ p. ap (λ (x : Reply). x.answer) (apply_ill p),
  )

  -- and every refusal: 14 first, then the event's own
  pub apply_refused : (r : Refusal) → ((apply_of s e).answer ≡ Refused r)
      ↔ (((well_formed s ≡ false) × (r ≡ NotWellFormed)) ⊎ ((well_formed s ≡ true) × Refuses s e r))
  apply_refused r = (
    by_test (λ (x : Reply). x.answer ≡ Refused r → ((well_formed s ≡ false) × (r ≡ NotWellFormed)) ⊎ ((well_formed s ≡ true) × Refuses s e r))
        (λ p q. inr (p, refused_when s e r q)) (λ p q. inl (p, cc)),
    ⊎_elim
        (λ w. ap (λ (x : Reply). x.answer) (apply_ill w.0) ∙ ap Refused (sym w.1))
        (λ w. ap (λ (x : Reply). x.answer) (apply_well w.0 ∙ when_refused s w.1)),
  )

  -- "A refused event .. hands the system back as it came"
  pub apply_same : (r : Refusal) → (apply_of s e).answer ≡ Refused r → (apply_of s e).system ≡ s
  apply_same r = by_test (λ (x : Reply). x.answer ≡ Refused r → x.system ≡ s) (λ p q. refused_same s e r q) (λ p q. refl)

  pub apply_shaped : Shaped s → Shaped (apply_of s e).system
  apply_shaped h = by_test (λ (x : Reply). Shaped x.system) (λ p. step_shaped s h e) (λ p. h)

  pub apply_keeps : Shaped s → WellFormed s → WellFormed (apply_of s e).system
  apply_keeps h w = by_test (λ (x : Reply). WellFormed x.system) (λ p. step_keeps s h w e) (λ p. w)
