-- A run, event after event: every system on the way is well formed, and a run and its history fall into the part before an event and the part
-- from it on.
use Rattle.std.specs.Prelude.{◌≡◌, refl, List, [], ◌∷◌, ◌++◌}
use Rattle.table.specs.declared.Table.{Table}
use Rattle.wire.specs.declared.event.Event.{Event}
use Rattle.system.specs.declared.System.{System}
use Rattle.system.specs.System.{fresh_system}
use Rattle.system.specs.Events.{apply_of}
use Rattle.effects.specs.Facts.{Shaped}
use Rattle.effects.specs.laws.Shaped.{fresh_shaped}
use Rattle.effects.specs.Facts.{WellFormed}
use Rattle.effects.specs.Keeps.{fresh_formed}
use Rattle.effects.specs.Applied.{apply_shaped, apply_keeps}
use Rattle.effects.specs.Run.{system_after, history_by}
use Rattle.reached.specs.Reached.{Accepted, after}
use Rattle.reached.specs.History.{entry_of, history}

-- ---- what every event keeps, a run keeps

pub after_shaped : (s : System) → Shaped s → (es : List Event) → Shaped (after s es)
unfolding system_after
after_shaped s h [] = h
after_shaped s h (e ∷ es) = after_shaped (apply_of s e).system (apply_shaped s e h) es

pub after_formed : (s : System) → Shaped s → WellFormed s → (es : List Event) → WellFormed (after s es)
unfolding system_after
after_formed s h w [] = w
after_formed s h w (e ∷ es) = after_formed (apply_of s e).system (apply_shaped s e h) (apply_keeps s e h w) es

module _ (b : Table) (a : Accepted b) where
  pub start_shaped : Shaped (fresh_system b)
  start_shaped = fresh_shaped b a.shaped

  pub start_formed : WellFormed (fresh_system b)
  start_formed = fresh_formed b a.rules

  pub run_shaped : (es : List Event) → Shaped (after (fresh_system b) es)
  run_shaped = after_shaped (fresh_system b) start_shaped

  pub run_formed : (es : List Event) → WellFormed (after (fresh_system b) es)
  run_formed = after_formed (fresh_system b) start_shaped start_formed

-- ---- first some events, then some more

pub after_append : (s : System) (before es : List Event) → after s (before ++ es) ≡ after (after s before) es
unfolding system_after
after_append s [] es = refl
after_append s (e ∷ before) es = after_append (apply_of s e).system before es

pub history_append : (s : System) (before es : List Event) → history s (before ++ es) ≡ history s before ++ history (after s before) es
unfolding system_after history_by
history_append s [] es = refl
history_append s (e ∷ before) es = rw (history_append (apply_of s e).system before es)

-- event e after some others: its entry stands in the history right after theirs
pub entry_next : (s : System) (before : List Event) (e : Event) (rest : List Event)
    → history s (before ++ (e ∷ rest)) ≡ history s before ++ (entry_of (after s before) e ∷ history (apply_of (after s before) e).system rest)
unfolding history_by
entry_next s before e rest = history_append s before (e ∷ rest)
