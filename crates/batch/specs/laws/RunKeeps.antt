-- A run on a well-formed system: every event finds it well formed, so each step is that of `System::apply`.
use Rattle.std.specs.Prelude.{ℕ, ◌-◌, true, ◌≡◌, List, drop}
use Rattle.std.proofs.Common.{sym, subst}
use Rattle.effects.specs.Applied.{apply_well}
use Rattle.system.specs.Events.{step_of, apply_of}
use Rattle.effects.specs.Keeps.{step_well}
use Rattle.effects.specs.Facts.{Shaped}
use Rattle.effects.specs.laws.Shaped.{step_shaped}
use Rattle.system.specs.WellFormed.{well_formed}
use Rattle.system.specs.declared.System.{System}
use Rattle.system.specs.declared.events.Reply.{Reply}
use Rattle.wire.specs.Answer.{answer_size}
use Rattle.batch.specs.Turn.{Run, answered}
use Rattle.batch.specs.Batch.{and_then}
use Rattle.batch.specs.laws.Ran.{Ran, ends, halts, goes}

-- what the system keeps
pub record WellShaped (s : System) : Type 0 where
  pub shaped : Shaped s
  pub well : well_formed s ≡ true

pub ran_sound : {s : System} {ev : List ℕ} {room : ℕ} {r : Run} → Ran step_of s ev room r → WellShaped s → WellShaped r.system
ran_sound (ends z) k = k
ran_sound (halts p w) k = k
ran_sound {s} (goes {e = e} f h q) k =
    ran_sound q (record { shaped = step_shaped s k.shaped e; well = step_well s k.shaped k.well e })

pub ran_apply : {s : System} {ev : List ℕ} {room : ℕ} {r : Run} → Ran step_of s ev room r → WellShaped s → Ran apply_of s ev room r
ran_apply (ends z) k = ends z
ran_apply (halts p w) k = halts p w
ran_apply {s} {ev} {room} (goes {n = n} {e = e} {q = p} f h q) k =
    let same = apply_well s e k.well in
    let i = ran_apply q (record { shaped = step_shaped s k.shaped e; well = step_well s k.shaped k.well e }) in
    subst (λ (x : Reply). Ran apply_of s ev room (and_then (answered x n) p)) same
    (goes f h (subst (λ (x : Reply). Ran apply_of x.system (drop n ev) (room - answer_size) p) (sym same) i))
