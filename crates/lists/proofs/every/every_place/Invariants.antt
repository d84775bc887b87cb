-- `every_place` meets its contract: the loop keeps whether every place passed meets the rule.
use Rattle.std.proofs.Common.{ℕ, ◌<◌, Bool, ◌≡◌}
use Rattle.ranges.specs.laws.Pass.{Passed}
use Rattle.lists.proofs.every.every_place.Given as goal

abbrev pub invariant-loop-i : goal.invariant-loop-i
invariant-loop-i g l =
    goal.F-IsAlwaysCallable g l.rule
    × ((p : ℕ → Bool) → ((i : ℕ) (r : Bool) → i < l.n → goal.F-post g l.rule i r → r ≡ p i) → Passed l.n p l.i l.ok)
