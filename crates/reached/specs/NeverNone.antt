-- Document 02, K3: "An eighth answer, 'none of these', is shown never to be given in a reached state." From `Good` alone.
use Rattle.std.specs.Prelude.{ℕ, ◌<◌, Bool, true, false, ◌≡◌, refl}
use Rattle.std.proofs.Common.{sym, ap, ◌∙◌, arith}
use Rattle.std.proofs.Math.Decide.{dec_lt}
use Rattle.coreset.specs.Set.{has}
use Rattle.coreset.specs.laws.Members.{has_empty}
use Rattle.ranges.specs.laws.Logic.{clash, is_false}
use Rattle.lock.specs.Good.{Stands, Good}
use Rattle.lock.specs.World.{World}
use Rattle.table.specs.Numbers.{ready}
use Rattle.state.specs.laws.Threads.{make_running}
use Rattle.system.specs.declared.System.{System}
use Rattle.system.specs.System.{state_in, core_in, gang_in, occupant_in, first_in, ahead_in}
use Rattle.reason.specs.declared.Reason.TheVariants as reason
use Rattle.reason.specs.Reasons.{Past7}
use Rattle.reason.specs.Why.{Explained, why_of, explanation_refusal}
use Rattle.reason.specs.laws.Why.{why_beyond}
use Rattle.reason.specs.laws.FirstHeld.{past_first}
use Rattle.reason.specs.Exactly.{Gives, none_exactly}
use Rattle.reason.specs.Ahead.{past_ready}
use Rattle.reached.specs.Reached.{Reached}
use Rattle.reached.specs.Formed.{reached_formed, reached_well, reached_accepted}
use Rattle.reached.specs.First.{ready_has_first}
use Rattle.reached.specs.WorldOf.{world_of}
use Rattle.reached.specs.GoodReached.{reached_good}

module _ {s : System} (R : Reached s) (t : ℕ) (l : t < s.table.sizes.threads) (p : Past7 s t) where
  abbrev world : World
  world = world_of s (reached_accepted R)

  good : Good world s.lock
  good = reached_good R

  -- neither of the first two reasons holds, so the thread is ready
  its_ready : state_in s t ≡ ready
  its_ready = past_ready s (reached_formed R) t l p.0.0.0.0.0

  -- the sixth does not hold, so it is its core's first ready thread
  its_first : first_in s (core_in s t) ≡ t
  its_first = past_first s t p.0

  -- its core, which does not owe, is locked and runs it, is blocked behind a gang ahead of its own, or has no ready thread
  stands_nowhere : (x y : Bool) → has s.lock.locked (core_in s t) ≡ x → has s.lock.blocked (core_in s t) ≡ y
      → Stands world s.lock.holder (core_in s t) x y (occupant_in s (core_in s t)) → ⊥
  stands_nowhere true y k b st =
      p.0.0.0.0.1
      (make_running s.state s.table.core s.lock.occupant t its_ready (st.2 ∙ its_first), k)
  stands_nowhere false true k b st =
      p.1 s.lock.holder (
        refl,
        λ free. clash b (ap (λ (m : ℕ). has m (core_in s t)) (good.idle free) ∙ has_empty (core_in s t)),
        ap (λ (u : ℕ). ahead_in s s.lock.holder (gang_in s u)) (sym its_first) ∙ st.1,
      )
  stands_nowhere false false k b st = ready_has_first s (reached_accepted R) (core_in s t) t (l, its_ready) refl st.0

  some_reason : ⊥
  some_reason =
      stands_nowhere (has s.lock.locked (core_in s t)) (has s.lock.blocked (core_in s t)) refl refl
      (good.stands (core_in s t) (is_false (has s.lock.owing (core_in s t)) p.0.0.1))

-- of a thread of the table one of the seven holds, and of any other number the question is refused
pub never_none : {s : System} → Reached s → (t : ℕ) → Gives s t reason.NoneOfThese → ⊥
never_none {s} R t g = go (dec_lt t s.table.sizes.threads)
  where
    go : Dec (t < s.table.sizes.threads) → ⊥
    go (yes l) = some_reason R t l ((none_exactly s (reached_well R) t l).0 g)
    go (no n) =
        let e = ap (λ (x : Explained). explanation_refusal x.explanation) (why_beyond s t (reached_well R) (omega arith)) in
        let z : explanation_refusal (why_of s t).explanation ≡ 0 = ap explanation_refusal g in
        omega arith
