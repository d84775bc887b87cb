-- The laws of `ahead` and `before`. Whatever else is shown of a table uses these alone, so that a changed order changes only what stands here.
use Rattle.std.specs.Prelude.{ℕ, ◌<◌, ◌≤◌, Bool, ◌≡◌, ◌⊎◌, ltb}
use Rattle.std.proofs.Math.Bool.{true, false, cond}
use Rattle.std.proofs.Common.{true≢false, sym, ◌∙◌, ⊎_elim, arith}
use Rattle.std.proofs.Math.Path.{refl}
use Rattle.std.proofs.Math.Logic.{inl, inr}
use Rattle.std.proofs.Math.Decide.{dec_lt}
use Rattle.std.proofs.Common.{lt-ltb, le-ltb, ltb-true, ltb-false}
use Rattle.pick.specs.laws.Pick.{Strict}
use Rattle.table.specs.Order.{gang_of, priority_of, ahead_by, before_by, Lineup, ahead, before}

-- ---- the order of gangs

module _ (L : Lineup) where
  -- gang g's priority
  abbrev rank : ℕ → ℕ
  rank g = priority_of L.priority g

  ahead_higher : (g h : ℕ) → ahead L g h ≡ true → rank h < rank g
  unfolding ahead_by
  ahead_higher g h e = ltb-true (rank h) (rank g) e

  higher_ahead : (g h : ℕ) → rank h < rank g → ahead L g h ≡ true
  unfolding ahead_by
  higher_ahead g h l = lt-ltb (rank h) (rank g) l

  not_ahead : (g h : ℕ) → ahead L g h ≡ false → rank g ≤ rank h
  unfolding ahead_by
  not_ahead g h e = ltb-false (rank h) (rank g) e

  not_higher : (g h : ℕ) → rank g ≤ rank h → ahead L g h ≡ false
  unfolding ahead_by
  not_higher g h l = le-ltb (rank h) (rank g) l

  pub ahead_irrefl : (g : ℕ) → ahead L g g ≡ false
  ahead_irrefl g = not_higher g g (omega arith)

  pub ahead_trans : (g h k : ℕ) → ahead L g h ≡ true → ahead L h k ≡ true → ahead L g k ≡ true
  ahead_trans g h k p q =
      let a = ahead_higher g h p in
      let b = ahead_higher h k q in
      higher_ahead g k (omega arith)

  ahead_asym : (g h : ℕ) → ahead L g h ≡ true → ahead L h g ≡ false
  ahead_asym g h p = let a = ahead_higher g h p in not_higher h g (omega arith)

  -- total on gangs of different priorities
  pub ahead_total : (g h : ℕ) → (rank g ≡ rank h → ⊥) → ahead L g h ≡ false → ahead L h g ≡ true
  ahead_total g h ne e = let a = not_ahead g h e in higher_ahead h g (omega arith)

  -- where g is ahead of h, any third gang is behind g or ahead of h
  ahead_third : (g h k : ℕ) → ahead L g h ≡ true → (ahead L g k ≡ true) ⊎ (ahead L k h ≡ true)
  ahead_third g h k p = go (dec_lt (rank k) (rank g))
    where
      a : rank h < rank g
      a = ahead_higher g h p

      go : Dec (rank k < rank g) → (ahead L g k ≡ true) ⊎ (ahead L k h ≡ true)
      go (yes l) = inl (higher_ahead g k l)
      go (no l) = let b = a in inr (higher_ahead k h (omega arith))

-- ---- the order of threads, from the laws of the order of gangs

module _ (L : Lineup) where
  -- thread t's gang is ahead of thread u's
  abbrev above : ℕ → ℕ → Bool
  above t u = ahead L (gang_of L.gang t) (gang_of L.gang u)

  -- neither's is, and t is the lower number
  abbrev Level : ℕ → ℕ → Type 0
  Level t u = (above t u ≡ false) × (above u t ≡ false) × (t < u)

  before_ahead : (t u : ℕ) → above t u ≡ true → before L t u ≡ true
  unfolding before_by
  before_ahead t u p = rw p

  before_level : (t u : ℕ) → above t u ≡ false → above u t ≡ false → t < u → before L t u ≡ true
  unfolding before_by
  before_level t u p q l = rw (p, q, lt-ltb t u l)

  before_cases : (t u : ℕ) → before L t u ≡ true → (above t u ≡ true) ⊎ Level t u
  unfolding before_by
  before_cases t u = go (above t u) (above u t) refl refl
    where
      go : (x y : Bool) → above t u ≡ x → above u t ≡ y → cond x true (cond y false (ltb t u)) ≡ true → (above t u ≡ true) ⊎ Level t u
      go true y p q e = inl p
      go false true p q e = absurd (true≢false (sym e))
      go false false p q e = inr (p, q, ltb-true t u e)

  not_before_cases : (t u : ℕ) → before L t u ≡ false
      → (above u t ≡ true) ⊎ ((above t u ≡ false) × (above u t ≡ false) × (u ≤ t))
  unfolding before_by
  not_before_cases t u = go (above t u) (above u t) refl refl
    where
      go : (x y : Bool) → above t u ≡ x → above u t ≡ y → cond x true (cond y false (ltb t u)) ≡ false
          → (above u t ≡ true) ⊎ ((above t u ≡ false) × (above u t ≡ false) × (u ≤ t))
      go true y p q e = absurd (true≢false e)
      go false true p q e = inl q
      go false false p q e = inr (p, q, ltb-false t u e)

  -- a third thread's gang is behind t's or ahead of u's
  third : (t u v : ℕ) → above t u ≡ true → (above t v ≡ true) ⊎ (above v u ≡ true)
  third t u v p = ahead_third L (gang_of L.gang t) (gang_of L.gang u) (gang_of L.gang v) p

  level_trans : (t u v : ℕ) → above t u ≡ false → above u v ≡ false → above t v ≡ false
  level_trans t u v p q = go (above t v) refl
    where
      go : (x : Bool) → above t v ≡ x → x ≡ false
      go true e = absurd (⊎_elim (λ a. true≢false (sym a ∙ p)) (λ a. true≢false (sym a ∙ q)) (third t v u e))
      go false e = refl

  before_irrefl : (t : ℕ) → before L t t ≡ false
  unfolding before_by
  before_irrefl t = rw (ahead_irrefl L (gang_of L.gang t), le-ltb t t (omega arith))

  before_trans : (t u v : ℕ) → before L t u ≡ true → before L u v ≡ true → before L t v ≡ true
  before_trans t u v p q =
      ⊎_elim
      (λ a. before_ahead t v (⊎_elim (λ b. further a b) (λ b. past a b) (before_cases u v q)))
      (λ a. ⊎_elim (λ b. before_ahead t v (onto a b)) (λ b. level a b) (before_cases u v q))
      (before_cases t u p)
    where
      further : above t u ≡ true → above u v ≡ true → above t v ≡ true
      further a b = ahead_trans L (gang_of L.gang t) (gang_of L.gang u) (gang_of L.gang v) a b

      past : above t u ≡ true → Level u v → above t v ≡ true
      past a b = ⊎_elim (λ w. w) (λ w. absurd (true≢false (sym w ∙ b.1))) (third t u v a)

      onto : Level t u → above u v ≡ true → above t v ≡ true
      onto a b = ⊎_elim (λ w. absurd (true≢false (sym w ∙ a.1))) (λ w. w) (third u v t b)

      level : Level t u → Level u v → before L t v ≡ true
      level a b =
          let l : t < u = a.2 in
          let m : u < v = b.2 in
          before_level t v (level_trans t u v a.0 b.0) (level_trans v u t b.1 a.1) (omega arith)

  before_total : (t u : ℕ) → (t ≡ u → ⊥) → before L t u ≡ false → before L u t ≡ true
  before_total t u ne p =
      ⊎_elim
      (λ a. before_ahead u t a)
      (λ a. let l : u ≤ t = a.2 in before_level u t a.1 a.0 (omega arith))
      (not_before_cases t u p)

  -- of any two threads, exactly one comes before the other
  pub before_strict : Strict (before L)
  before_strict = record { irrefl = before_irrefl; trans = before_trans; total = before_total }

  -- no thread comes before one whose gang is ahead of its own
  pub before_not_behind : (t u : ℕ) → before L t u ≡ true → ahead L (gang_of L.gang u) (gang_of L.gang t) ≡ false
  before_not_behind t u p = ⊎_elim (λ a. ahead_asym L (gang_of L.gang t) (gang_of L.gang u) a) (λ a. a.1) (before_cases t u p)

  -- ---- and in document 01's words

  -- the priority of thread t's gang
  abbrev rank_of : ℕ → ℕ
  rank_of t = priority_of L.priority (gang_of L.gang t)

  pub before_rank : (t u : ℕ) → before L t u ≡ true → (rank_of u < rank_of t) ⊎ ((rank_of u ≡ rank_of t) × (t < u))
  before_rank t u p =
      ⊎_elim
      (λ a. inl (ahead_higher L (gang_of L.gang t) (gang_of L.gang u) a))
      (λ a.
      let l : rank_of t ≤ rank_of u = not_ahead L (gang_of L.gang t) (gang_of L.gang u) a.0 in
      let m : rank_of u ≤ rank_of t = not_ahead L (gang_of L.gang u) (gang_of L.gang t) a.1 in
      let n : t < u = a.2 in
      inr (omega arith, n))
      (before_cases t u p)

  pub higher_before : (t u : ℕ) → rank_of u < rank_of t → before L t u ≡ true
  higher_before t u l = before_ahead t u (higher_ahead L (gang_of L.gang t) (gang_of L.gang u) l)

  pub lower_number_before : (t u : ℕ) → rank_of u ≡ rank_of t → t < u → before L t u ≡ true
  lower_number_before t u e l =
      before_level t u
      (not_higher L (gang_of L.gang t) (gang_of L.gang u) (omega arith))
      (not_higher L (gang_of L.gang u) (gang_of L.gang t) (omega arith)) l
