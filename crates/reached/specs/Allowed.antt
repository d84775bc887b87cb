-- Who is stopped by the kept count, and the answer to a TRAFFIC after some events. That the kept count stands for the true sum is in
-- proofs/Allowed.
use Rattle.std.specs.Prelude.{ℕ, true, false, ◌≡◌, List}
use Rattle.std.proofs.Math.Bool.{and-false}
use Rattle.std.proofs.Common.{arith}
use Rattle.std.proofs.lemmas.Bool.{le-leb, eq-eqb, ne_eqb}
use Rattle.state.specs.Allowance.{stopped_at}
use Rattle.table.specs.declared.Table.{Table}
use Rattle.wire.specs.declared.answer.Answer.{Answer}
use Rattle.wire.specs.declared.event.Event.{Event}
use Rattle.wire.specs.declared.event.Event.TheVariants as event
use Rattle.system.specs.declared.System.{System}
use Rattle.system.specs.System.{fresh_system, kept_in, occupant_in}
use Rattle.system.specs.Stop.{budget_in, stopped}
use Rattle.system.specs.Events.{apply_of}
use Rattle.reached.specs.Reached.{after}

-- ---- by the kept count, of any system whatever

module _ (s : System) (c : ℕ) where
  -- "Budget 0 stops it always"
  pub budget_zero_stops : occupant_in s c ≡ 255 → (s.lock.holder ≡ 255 → ⊥) → budget_in s ≡ 0 → stopped s c ≡ true
  unfolding stopped_at
  budget_zero_stops idle held none = rw (
    eq-eqb (occupant_in s c) 255 idle,
    ne_eqb s.lock.holder 255 held,
    le-leb (budget_in s) (kept_in s c) (omega arith),
  )

  -- "A free lock stops nobody"
  pub free_stops_nobody : s.lock.holder ≡ 255 → stopped s c ≡ false
  unfolding stopped_at
  free_stops_nobody free = rw (eq-eqb s.lock.holder 255 free, and-false)

-- the answer to "TRAFFIC" of core c after some events from table b
abbrev pub traffic_after : Table → List Event → ℕ → ℕ → Answer
traffic_after b before c n = (apply_of (after (fresh_system b) before) (event.Traffic c n)).answer
