-- From a reached state every event leads to a reached state; so what holds of each fresh system, and is kept by every event, holds of every
-- reached state.
use Rattle.std.specs.Prelude.{refl}
use Rattle.std.proofs.Common.{ap, ◌∙◌, subst}
use Rattle.std.specs.Prelude.{List, [], ◌∷◌, ◌++◌}
use Rattle.table.specs.declared.Table.{Table}
use Rattle.wire.specs.declared.event.Event.{Event}
use Rattle.system.specs.declared.System.{System}
use Rattle.system.specs.System.{fresh_system}
use Rattle.system.specs.Events.{apply_of}
use Rattle.effects.specs.Run.{system_after}
use Rattle.reached.specs.Reached.{Accepted, after, Reached}
use Rattle.reached.specs.laws.Runs.{after_append}

pub fresh_reached : (b : Table) → Accepted b → Reached (fresh_system b)
unfolding system_after
fresh_reached b a = record { table = b; accepted = a; events = []; reaches = refl }

-- "reached from an accepted table by any events": by one more, accepted or refused
pub event_reached : {s : System} → Reached s → (e : Event) → Reached (apply_of s e).system
unfolding system_after
event_reached R e = record {
  table = R.table;
  accepted = R.accepted;
  events = R.events ++ (e ∷ []);
  reaches = after_append (fresh_system R.table) R.events (e ∷ []) ∙ ap (λ (x : System). (apply_of x e).system) R.reaches;
}

-- what every event keeps still holds after some events, and of every reached state where it holds of each fresh system
module _ (P : System → Type 0) (keeps : (s : System) → Reached s → (e : Event) → P s → P (apply_of s e).system) where
  pub kept_after : (s : System) (es : List Event) → Reached s → P s → P (after s es)
  unfolding system_after
  kept_after s [] R p = p
  kept_after s (e ∷ es) R p = kept_after (apply_of s e).system es (event_reached R e) (keeps s R e p)

  pub by_events : ((b : Table) → Accepted b → P (fresh_system b)) → {s : System} → Reached s → P s
  by_events fresh R =
      subst P R.reaches (kept_after (fresh_system R.table) R.events (fresh_reached R.table R.accepted) (fresh R.table R.accepted))

-- by any events from a reached state
pub after_reached : {s : System} → Reached s → (es : List Event) → Reached (after s es)
after_reached {s} R es = kept_after Reached (λ r Q e p. event_reached p e) s es R R
