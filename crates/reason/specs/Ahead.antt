-- The thread that the sixth reason names is one: of the same core, ready, and before the thread that is asked about, by the order of threads.
use Rattle.std.specs.Prelude.{ℕ, ◌<◌, true, ◌≡◌, refl}
use Rattle.std.proofs.Common.{sym, ◌∙◌, subst, arith}
use Rattle.pick.specs.laws.Pick.{IsFirst}
use Rattle.table.specs.Numbers.{finished, ready, waiting}
use Rattle.table.specs.Order.{standing, before}
use Rattle.table.specs.laws.First.{standing_is, make_standing, first_ready_is}
use Rattle.table.specs.laws.Table.{threads_room}
use Rattle.system.specs.declared.System.{System}
use Rattle.system.specs.System.{state_in, core_in, lineup_in, first_in}
use Rattle.effects.specs.Facts.{WellFormed}
use Rattle.reason.specs.Reasons.{IsBehind, Past2}

-- thread u is ready and pinned to thread t's core, and comes before t
pub record AheadOnCore (s : System) (t u : ℕ) : Type 0 where
  pub inside : u < s.table.sizes.threads
  pub is_ready : state_in s u ≡ ready
  pub same_core : core_in s u ≡ core_in s t
  pub comes_before : before (lineup_in s) u t ≡ true

module _ (s : System) (w : WellFormed s) (t : ℕ) (l : t < s.table.sizes.threads) (p : Past2 s t) where
  -- a thread that is neither finished nor waiting is ready
  pub past_ready : state_in s t ≡ ready
  past_ready =
      let m = w.states.used t l in
      let f : state_in s t ≡ finished → ⊥ = p.0 in
      let n : state_in s t ≡ waiting → ⊥ = p.1 in
      omega arith

  first : IsFirst (standing (lineup_in s) (core_in s t)) (before (lineup_in s)) s.table.sizes.threads (first_in s (core_in s t))
  first = first_ready_is (lineup_in s) (core_in s t) (let m = threads_room s.table w.table in omega arith)

  stands : standing (lineup_in s) (core_in s t) t ≡ true
  stands = make_standing (lineup_in s) (core_in s t) t past_ready refl

  -- so its core has a first ready thread
  has_first : first_in s (core_in s t) ≡ 255 → ⊥
  has_first e = first.none e t l stands

  pub named_ahead : (u : ℕ) → IsBehind s t u → AheadOnCore s t u
  named_ahead u b = subst (AheadOnCore s t) b.0 record {
    inside = first.inside has_first;
    is_ready = (standing_is (lineup_in s) (core_in s t) (first_in s (core_in s t)) (first.stands has_first)).0;
    same_core = (standing_is (lineup_in s) (core_in s t) (first_in s (core_in s t)) (first.stands has_first)).1;
    comes_before = first.least has_first t l stands (λ e. b.1 (sym b.0 ∙ sym e));
  }
