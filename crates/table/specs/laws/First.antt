-- A core's first ready thread: that it is the first in the order of threads, and what it depends on; and `HighestReady` by that order.
use Rattle.std.specs.Prelude.{ℕ, ◌<◌, ◌≤◌, true, ◌&&◌, ◌≡◌, List, get_or, set}
use Rattle.std.proofs.Math.Bool.{and-false}
use Rattle.std.proofs.Common.{sym, ◌∙◌, ⊎_elim, get_or-set_other, arith}
use Rattle.std.proofs.Math.Path.{ap}
use Rattle.std.proofs.Math.Dec.{eqb}
use Rattle.std.proofs.Math.Decide.{ℕ_discrete, dec_lt}
use Rattle.std.proofs.Common.{eq-eqb, ne_eqb, eqb-true}
use Rattle.pick.specs.laws.Pick.{IsFirst, pick_first, pick_cong}
use Rattle.ranges.specs.laws.Logic.{both}
use Rattle.table.specs.Numbers.{ready}
use Rattle.table.specs.Order.{gang_of, core_of, priority_of, stands_at, Lineup, standing, before, first_ready, HighestReady}
use Rattle.table.specs.laws.Order.{before_strict, before_rank, higher_before, lower_number_before}

-- the line-up with other states
abbrev restated : Lineup → List ℕ → Lineup
restated L state = record { threads = L.threads; state = state; core = L.core; gang = L.gang; priority = L.priority }

-- ---- which threads stand at a core

module _ (L : Lineup) (c t : ℕ) where
  pub standing_is : standing L c t ≡ true → (get_or L.state t 0 ≡ ready) × (core_of L.core t ≡ c)
  unfolding stands_at
  standing_is e =
      let b = both (eqb (get_or L.state t 0) ready) (eqb (core_of L.core t) c) e in
      (eqb-true (get_or L.state t 0) ready b.0, eqb-true (core_of L.core t) c b.1)

  pub make_standing : get_or L.state t 0 ≡ ready → core_of L.core t ≡ c → standing L c t ≡ true
  unfolding stands_at
  make_standing p q = rw (eq-eqb (get_or L.state t 0) ready p, eq-eqb (core_of L.core t) c q)

  -- a thread pinned elsewhere does not, whatever its state
  standing_cong : (state : List ℕ) → (core_of L.core t ≡ c → get_or L.state t 0 ≡ get_or state t 0)
      → standing L c t ≡ standing (restated L state) c t
  unfolding stands_at
  standing_cong state h = go (ℕ_discrete (core_of L.core t) c)
    where
      go : Dec (core_of L.core t ≡ c)
          → (eqb (get_or L.state t 0) ready && eqb (core_of L.core t) c) ≡ (eqb (get_or state t 0) ready && eqb (core_of L.core t) c)
      go (yes e) = ap (λ (x : ℕ). eqb x ready && eqb (core_of L.core t) c) (h e)
      go (no e) = rw (ne_eqb (core_of L.core t) c e, and-false (eqb (get_or L.state t 0) ready), and-false (eqb (get_or state t 0) ready))

module _ (L : Lineup) (c : ℕ) where
  pub first_ready_is : L.threads ≤ 255 → IsFirst (standing L c) (before L) L.threads (first_ready L c)
  unfolding first_ready
  first_ready_is small = pick_first (standing L c) (before L) (before_strict L) L.threads small

  -- it depends on the states of the core's own threads alone
  pub first_cong : (state : List ℕ) → ((u : ℕ) → u < L.threads → core_of L.core u ≡ c → get_or L.state u 0 ≡ get_or state u 0)
      → first_ready L c ≡ first_ready (restated L state) c
  unfolding first_ready
  first_cong state h =
      pick_cong (standing L c) (standing (restated L state) c) (before L) L.threads (λ u l. standing_cong L c u state (h u l))

  -- so a thread's state bears on the first ready thread of its own core alone
  pub first_local : (t v : ℕ) → (core_of L.core t ≡ c → ⊥) → first_ready L c ≡ first_ready (restated L (set L.state t v)) c
  first_local t v ne =
      first_cong (set L.state t v)
      (λ u l e. sym (get_or-set_other L.state t u v 0 (λ q. ne (sym (ap (core_of L.core) q) ∙ e))))

-- ---- document 01's words

module _ (L : Lineup) (c : ℕ) where
  abbrev k : ℕ → ℕ
  k t = priority_of L.priority (gang_of L.gang t)

  pub highest_of_first : (r : ℕ) → IsFirst (standing L c) (before L) L.threads r → HighestReady L c r
  highest_of_first r i = record {
    none = λ e u l p q. i.none e u l (make_standing L c u p q);
    inside = i.inside;
    is_ready = λ e. (standing_is L c r (i.stands e)).0;
    pinned = λ e. (standing_is L c r (i.stands e)).1;
    highest = λ e u l p q. high u (i.least e u l (make_standing L c u p q)) (ℕ_discrete u r);
    lowest = λ e u l p q s. low u s (i.least e u l (make_standing L c u p q)) (ℕ_discrete u r);
  }
    where
      high : (u : ℕ) → ((u ≡ r → ⊥) → before L r u ≡ true) → Dec (u ≡ r) → k u ≤ k r
      high u b (yes e) = let f = ap k e in omega arith
      high u b (no e) = ⊎_elim (λ a. omega arith) (λ a. omega arith) (before_rank L r u (b e))

      low : (u : ℕ) → k u ≡ k r → ((u ≡ r → ⊥) → before L r u ≡ true) → Dec (u ≡ r) → r ≤ u
      low u s b (yes e) = omega arith
      low u s b (no e) = ⊎_elim (λ a. omega arith) (λ a. omega arith) (before_rank L r u (b e))

  pub first_of_highest : (r : ℕ) → HighestReady L c r → IsFirst (standing L c) (before L) L.threads r
  first_of_highest r h = record {
    none = λ e u l s. let w = standing_is L c u s in h.none e u l w.0 w.1;
    inside = h.inside;
    stands = λ e. make_standing L c r (h.is_ready e) (h.pinned e);
    least = λ e u l s ne.
        let w = standing_is L c u s in
        least u ne (h.highest e u l w.0 w.1) (h.lowest e u l w.0 w.1) (dec_lt (k u) (k r));
  }
    where
      least : (u : ℕ) → (u ≡ r → ⊥) → k u ≤ k r → (k u ≡ k r → r ≤ u) → Dec (k u < k r) → before L r u ≡ true
      least u ne p q (yes l) = higher_before L r u l
      least u ne p q (no l) =
          let e : k u ≡ k r = omega arith in
          let m : r ≤ u = q e in
          lower_number_before L r u e (omega arith)
