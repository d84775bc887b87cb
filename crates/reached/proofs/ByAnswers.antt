-- Laws of `ByAnswers`: by the ANSWER records of a history a release is taken, served or skipped exactly where it is by the history's entries.
use Rattle.std.specs.Prelude.{ℕ, Bool, ◌≡◌, eqb}
use Rattle.std.proofs.Math.Bool.{true, false, cond, and-false, and-true}
use Rattle.std.proofs.Math.Path.{refl}
use Rattle.std.proofs.Common.{sym, subst, arith, ne_eqb}
use Rattle.std.specs.Prelude.{List, [], ◌∷◌, map}
use Rattle.wire.specs.declared.answer.AnswerRecord.{AnswerRecord}
use Rattle.wire.specs.declared.event.Event.{Event}
use Rattle.wire.specs.declared.refusal.Refusal.{Refusal}
use Rattle.wire.specs.laws.Refusal.{some_number}
use Rattle.wire.specs.Refusal.{number_of}
use Rattle.system.specs.declared.System.{System}
use Rattle.system.specs.declared.events.Reply.{Reply}
use Rattle.system.specs.Events.{apply_of, refused_by}
use Rattle.effects.specs.Applied.{apply_well, apply_shaped, apply_keeps}
use Rattle.effects.specs.Facts.{Shaped, WellFormed}
use Rattle.effects.specs.Run.{Entry, entry_with, record_in, history_by}
use Rattle.effects.specs.Ways.{Accepts, serves_release, skips_release, finishes, waits, wakes, serves, counts, ticks}
use Rattle.effects.specs.WaysLaws.{by_way}
use Rattle.effects.specs.WellFormedLaws.{formed_well}
use Rattle.reached.specs.History.{entry_of, history, is_release, took_release, served_release, skipped_release, select, numbers_of}
use Rattle.reached.specs.ByAnswers.{told_taken, told_served, told_skipped, answers_that, numbers_told}

-- ---- one event: the ANSWER to it and its entry tell the same of gang g's releases

pub record SameTold (g : ℕ) (x : Entry) : Type 0 where
  pub taken : told_taken g x.event (record_in x) ≡ took_release g x
  pub served : told_served g x.event (record_in x) ≡ served_release g x
  pub skipped : told_skipped g x.event (record_in x) ≡ skipped_release g x

module _ (s : System) (g : ℕ) where
  -- a refusal's number is not 0
  refused_told : (e : Event) (r : Refusal) → SameTold g (entry_with e (refused_by s r))
  refused_told e r =
      let some : eqb (number_of r) 0 ≡ false = ne_eqb (number_of r) 0 (λ z. omega (arith, some_number r)) in
      let none = and-false (is_release g e) in
      record { taken = rw (some, none); served = rw (some, none); skipped = rw (some, none) }

  accepted_told : {e : Event} {r : Reply} → Accepts s e r → SameTold g (entry_with e r)
  accepted_told (serves_release {g = d} l ne q) = record { taken = rw and-true; served = simp and-true; skipped = rw and-false }
  accepted_told (skips_release {g = d} l ne q) = record { taken = rw and-true; served = rw and-false; skipped = simp and-true }
  accepted_told (finishes l q) = record { taken = refl; served = refl; skipped = refl }
  accepted_told (waits l q) = record { taken = refl; served = refl; skipped = refl }
  accepted_told (wakes l q) = record { taken = refl; served = refl; skipped = refl }
  accepted_told (serves l) = record { taken = refl; served = refl; skipped = refl }
  accepted_told (counts l m q) = record { taken = refl; served = refl; skipped = refl }
  accepted_told ticks = record { taken = refl; served = refl; skipped = refl }

  pub same_told : WellFormed s → (e : Event) → SameTold g (entry_of s e)
  same_told w e =
      subst (λ (r : Reply). SameTold g (entry_with e r)) (sym (apply_well s e (formed_well s w)))
      (by_way s e (λ (r : Reply). SameTold g (entry_with e r)) (λ r q. refused_told e r) (λ r q. accepted_told q))

-- ---- a run

-- p tells of each ANSWER what q tells of its entry
abbrev pub Agree : (Event → AnswerRecord → Bool) → (Entry → Bool) → Type 0
Agree p q = (s : System) → WellFormed s → (e : Event) → p e (record_in (entry_of s e)) ≡ q (entry_of s e)

module _ (p : Event → AnswerRecord → Bool) (q : Entry → Bool) (same : Agree p q) where
  pub answers_selected : (s : System) → Shaped s → WellFormed s → (es : List Event)
      → answers_that p es (map record_in (history s es)) ≡ map record_in (select q (history s es))
  unfolding history_by answers_that select
  answers_selected s h w [] = refl
  answers_selected s h w (e ∷ es) =
      let rest = answers_selected (apply_of s e).system (apply_shaped s e h) (apply_keeps s e h w) es in
      rw (same s w e, rest) (kept (q (entry_of s e)) (entry_of s e) (select q (history (apply_of s e).system es)))
    where
      kept : (x : Bool) (a : Entry) (more : List Entry)
          → cond x (record_in a ∷ map record_in more) (map record_in more) ≡ map record_in (cond x (a ∷ more) more)
      kept true a more = refl
      kept false a more = refl

pub numbers_told_lem : (h : List Entry) → numbers_told (map record_in h) ≡ numbers_of h
unfolding numbers_of
numbers_told_lem [] = refl
numbers_told_lem (x ∷ h) = rw (numbers_told_lem h)
