-- What each part of the test of a table says, as facts, and back.
use Rattle.std.specs.Prelude.{ℕ, ◌<◌, ◌≤◌, Bool, true, false, cond, ◌&&◌, ◌≡◌, refl, List, eqb, ltb}
use Rattle.std.proofs.Math.Bool.{not}
use Rattle.std.proofs.Common.{sym, arith}
use Rattle.std.proofs.Math.Path.{ap}
use Rattle.std.proofs.Math.Dec.{leb}
use Rattle.std.proofs.Math.Decide.{dec_lt}
use Rattle.std.proofs.Common.{eq-eqb, ne_eqb, eqb-true, lt-ltb, ltb-true, le-leb, leb-true}
use Rattle.std.proofs.lemmas.Bool.{eqb-false, not-true}
use Rattle.ranges.specs.laws.Logic.{both}
use Rattle.ranges.specs.laws.Places.{places_used, places_unused, make_places}
use Rattle.ranges.specs.laws.Range.{every_true, make_every}
use Rattle.table.specs.declared.Sizes.{Sizes}
use Rattle.table.specs.Numbers.{max_cores, max_gangs, max_threads, top_priority, max_budget}
use Rattle.table.specs.Order.{gang_of, core_of, priority_of}
use Rattle.table.specs.Occurs.{occurs, Place}
use Rattle.table.specs.laws.Occurs.{occurs_found, make_occurs, not_occurs, make_not_occurs}
use Rattle.table.specs.Rules.{budget_of, within, sizes_ok, gang_ok, gangs_ok, thread_ok, threads_ok, distinct, manned}
use Rattle.table.specs.TableOk.{RightSizes, empty, filled}

-- ---- sizes

pub sizes_cores : {n : Sizes} → RightSizes n → n.cores ≤ max_cores
sizes_cores (empty p q r) = omega arith
sizes_cores (filled p q r s u) = q

pub sizes_gangs : {n : Sizes} → RightSizes n → n.gangs ≤ max_gangs
sizes_gangs (empty p q r) = omega arith
sizes_gangs (filled p q r s u) = s

pub sizes_threads : {n : Sizes} → RightSizes n → n.threads ≤ max_threads
sizes_threads (empty p q r) = omega arith
sizes_threads (filled p q r s u) = u

pub sizes_ok_lem : (n : Sizes) → sizes_ok n ≡ true → RightSizes n
unfolding sizes_ok within
sizes_ok_lem n = go (eqb n.cores 0) refl
  where
    go : (x : Bool) → eqb n.cores 0 ≡ x
        → cond x (eqb n.gangs 0 && eqb n.threads 0)
        (leb n.cores max_cores && (leb 1 n.gangs && leb n.gangs max_gangs) && leb n.threads max_threads) ≡ true
        → RightSizes n
    go true p e =
        let b = both (eqb n.gangs 0) (eqb n.threads 0) e in
        empty (eqb-true n.cores 0 p) (eqb-true n.gangs 0 b.0) (eqb-true n.threads 0 b.1)
    go false p e =
        let z : n.cores ≡ 0 → ⊥ = eqb-false n.cores 0 p in
        let b = both (leb n.cores max_cores && (leb 1 n.gangs && leb n.gangs max_gangs)) (leb n.threads max_threads) e in
        let d = both (leb n.cores max_cores) (leb 1 n.gangs && leb n.gangs max_gangs) b.0 in
        let f = both (leb 1 n.gangs) (leb n.gangs max_gangs) d.1 in
        filled (omega arith) (leb-true n.cores max_cores d.0) (leb-true 1 n.gangs f.0) (leb-true n.gangs max_gangs f.1)
        (leb-true n.threads max_threads b.1)

pub ok_sizes : (n : Sizes) → RightSizes n → sizes_ok n ≡ true
unfolding sizes_ok within
ok_sizes n (empty p q r) = rw (eq-eqb n.cores 0 p, eq-eqb n.gangs 0 q, eq-eqb n.threads 0 r)
ok_sizes n (filled p q r s u) =
    let z : n.cores ≡ 0 → ⊥ = omega arith in
    rw (ne_eqb n.cores 0 z, le-leb n.cores max_cores q, le-leb 1 n.gangs r, le-leb n.gangs max_gangs s, le-leb n.threads max_threads u)

-- two numbers that are zero
zeros : (x y : ℕ) → (eqb x 0 && eqb y 0) ≡ true → (x ≡ 0) × (y ≡ 0)
zeros x y e = let d = both (eqb x 0) (eqb y 0) e in (eqb-true x 0 d.0, eqb-true y 0 d.1)

make_zeros : (x y : ℕ) → x ≡ 0 → y ≡ 0 → (eqb x 0 && eqb y 0) ≡ true
make_zeros x y p q = rw (p, q)

-- ---- the gangs' places

module _ (priority budget : List ℕ) (gangs : ℕ) where
  abbrev p : ℕ → ℕ
  p g = priority_of priority g

  abbrev b : ℕ → ℕ
  b g = budget_of budget g

  abbrev RightGang : ℕ → Type 0
  RightGang g = (1 ≤ p g) × (p g ≤ top_priority) × (b g ≤ max_budget)

  pub gangs_used : gangs_ok priority budget gangs ≡ true → (g : ℕ) → g < gangs → g < max_gangs → RightGang g
  unfolding gangs_ok gang_ok within
  gangs_used e g l k =
      let d = both (leb 1 (p g) && leb (p g) top_priority) (leb (b g) max_budget) (places_used max_gangs gangs _ _ e g l k) in
      let f = both (leb 1 (p g)) (leb (p g) top_priority) d.0 in
      (leb-true 1 (p g) f.0, leb-true (p g) top_priority f.1, leb-true (b g) max_budget d.1)

  pub gangs_unused : gangs_ok priority budget gangs ≡ true → (g : ℕ) → gangs ≤ g → g < max_gangs → (p g ≡ 0) × (b g ≡ 0)
  unfolding gangs_ok gang_ok
  gangs_unused e g l k = zeros (p g) (b g) (places_unused max_gangs gangs _ _ e g l k)

  pub make_gangs : ((g : ℕ) → g < gangs → RightGang g) → ((g : ℕ) → gangs ≤ g → g < max_gangs → (p g ≡ 0) × (b g ≡ 0))
      → gangs_ok priority budget gangs ≡ true
  unfolding gangs_ok gang_ok within
  make_gangs used unused =
      make_places max_gangs gangs _ _
      (λ g l. let u = used g l in rw (le-leb 1 (p g) u.0, le-leb (p g) top_priority u.1, le-leb (b g) max_budget u.2))
      (λ g l k. let u = unused g l k in make_zeros (p g) (b g) u.0 u.1)

-- ---- the threads' places

module _ (gang core : List ℕ) (n : Sizes) where
  abbrev RightThread : ℕ → Type 0
  RightThread t = (gang_of gang t < n.gangs) × (core_of core t < n.cores)

  pub threads_used : threads_ok gang core n ≡ true → (t : ℕ) → t < n.threads → t < max_threads → RightThread t
  unfolding threads_ok thread_ok
  threads_used e t l k =
      let d = both (ltb (gang_of gang t) n.gangs) (ltb (core_of core t) n.cores) (places_used max_threads n.threads _ _ e t l k) in
      (ltb-true (gang_of gang t) n.gangs d.0, ltb-true (core_of core t) n.cores d.1)

  pub threads_unused : threads_ok gang core n ≡ true → (t : ℕ) → n.threads ≤ t → t < max_threads → (gang_of gang t ≡ 0) × (core_of core t ≡ 0)
  unfolding threads_ok thread_ok
  threads_unused e t l k = zeros (gang_of gang t) (core_of core t) (places_unused max_threads n.threads _ _ e t l k)

  pub make_threads : ((t : ℕ) → t < n.threads → RightThread t)
      → ((t : ℕ) → n.threads ≤ t → t < max_threads → (gang_of gang t ≡ 0) × (core_of core t ≡ 0))
      → threads_ok gang core n ≡ true
  unfolding threads_ok thread_ok
  make_threads used unused =
      make_places max_threads n.threads _ _
      (λ t l. let u = used t l in rw (lt-ltb (gang_of gang t) n.gangs u.0, lt-ltb (core_of core t) n.cores u.1))
      (λ t l k. let u = unused t l k in make_zeros (gang_of gang t) (core_of core t) u.0 u.1)

-- ---- no two priorities equal

module _ (priority : List ℕ) (n : ℕ) where
  pub distinct_ok : distinct priority n ≡ true → (g h : ℕ) → g < n → h < n → priority_of priority g ≡ priority_of priority h → g ≡ h
  unfolding distinct
  distinct_ok e g h p q s = go (dec_lt g h) (dec_lt h g)
    where
      above : (i j : ℕ) → i < j → j < n → priority_of priority i ≡ priority_of priority j → ⊥
      above i j l m =
          not_occurs priority j (priority_of priority j) (not-true _ (every_true n (λ k. not (occurs priority k (priority_of priority k))) e j m)) i l

      go : Dec (g < h) → Dec (h < g) → g ≡ h
      go (yes l) m = absurd (above g h l q s)
      go (no l) (yes m) = absurd (above h g m p (sym s))
      go (no l) (no m) = omega arith

  pub ok_distinct : ((g h : ℕ) → g < n → h < n → priority_of priority g ≡ priority_of priority h → g ≡ h) → distinct priority n ≡ true
  unfolding distinct
  ok_distinct h =
      make_every n (λ k. not (occurs priority k (priority_of priority k)))
      (λ g l. ap not (make_not_occurs priority g (priority_of priority g) (λ i q e. let w : i ≡ g = h i g (omega arith) l e in omega arith)))

-- ---- every gang has a thread

module _ (gang : List ℕ) (gangs threads : ℕ) where
  pub manned_ok : manned gang gangs threads ≡ true → (g : ℕ) → g < gangs → Place gang threads g
  unfolding manned
  manned_ok e g l = occurs_found gang threads g (every_true gangs (occurs gang threads) e g l)

  pub ok_manned : ((g : ℕ) → g < gangs → Place gang threads g) → manned gang gangs threads ≡ true
  unfolding manned
  ok_manned h = make_every gangs (occurs gang threads) (λ g l. let w = h g l in make_occurs gang threads g w.at w.below w.stands)
