-- What a RELEASE makes of the threads, exactly: "all become ready"; when all of a gang's threads are finished, and when a thread is running.
use Rattle.std.specs.Prelude.{ℕ, zero, suc, ◌<◌, ◌≤◌}
use Rattle.std.specs.Prelude.{true, false, cond, ◌≡◌, ◌⊎◌, set}
use Rattle.std.proofs.Math.Path.{refl}
use Rattle.std.proofs.Common.{sym, ap, ◌∙◌, inl, inr, get_or-set_same, arith}
use Rattle.std.specs.Prelude.{List}
use Rattle.std.proofs.Math.Dec.{eqb}
use Rattle.std.proofs.Math.ListN.{length, get_or, length-set, get_or-eq_default}
use Rattle.std.proofs.Math.Seq.{get_or-set_other}
use Rattle.std.proofs.Math.Decide.{ℕ_discrete, dec_lt}
use Rattle.std.proofs.Common.{eq-eqb, eqb-true}
use Rattle.std.proofs.lemmas.Bool.{eqb-false, not-true}
use Rattle.table.specs.Numbers.{finished, ready}
use Rattle.table.specs.Order.{gang_of, core_of}
use Rattle.ranges.specs.laws.Logic.{both, either, is_false, implied, make_implies, unimplied}
use Rattle.ranges.specs.laws.Range.{every_true, make_every, every_fails}
use Rattle.state.specs.HasThread.{HasUnfinished}
use Rattle.state.specs.Threads.{is_running, finished_in, all_finished, readied}

-- ---- "all become ready": gang g's threads, of the first n

module _ (gang : List ℕ) (g : ℕ) where
  pub readied_length : (n : ℕ) (state : List ℕ) → length (readied gang g n state) ≡ length state
  unfolding readied
  readied_length zero state = refl
  readied_length (suc n) state =
      let h = readied_length n state in
      either (λ (r : List ℕ). length r ≡ length state) (eqb (gang_of gang n) g) (λ q. length-set (readied gang g n state) n ready ∙ h) (λ q. h)

  -- a thread of another gang
  pub readied_other : (n : ℕ) (state : List ℕ) (t : ℕ) → (gang_of gang t ≡ g → ⊥) → get_or (readied gang g n state) t 0 ≡ get_or state t 0
  unfolding readied
  readied_other zero state t ne = refl
  readied_other (suc n) state t ne =
      let h = readied_other n state t ne in
      either (λ (r : List ℕ). get_or r t 0 ≡ get_or state t 0) (eqb (gang_of gang n) g)
      (λ q. get_or-set_other (readied gang g n state) n t ready 0 (λ w. ne (ap (gang_of gang) w ∙ eqb-true (gang_of gang n) g q)) ∙ h)
      (λ q. h)

  -- a place past the first n
  pub readied_past : (n : ℕ) (state : List ℕ) (t : ℕ) → n ≤ t → get_or (readied gang g n state) t 0 ≡ get_or state t 0
  unfolding readied
  readied_past zero state t l = refl
  readied_past (suc n) state t l =
      let h = readied_past n state t (omega arith) in
      either (λ (r : List ℕ). get_or r t 0 ≡ get_or state t 0) (eqb (gang_of gang n) g)
      (λ q. get_or-set_other (readied gang g n state) n t ready 0 (λ w. omega arith) ∙ h)
      (λ q. h)

  -- a thread of gang g's
  readied_same : (n : ℕ) (state : List ℕ) (t : ℕ) → t < n → t < length state → gang_of gang t ≡ g → get_or (readied gang g n state) t 0 ≡ ready
  unfolding readied
  readied_same zero state t l i e = absurd (omega arith)
  readied_same (suc n) state t l i e = go (ℕ_discrete t n) (λ k. readied_same n state t k i e)
    where
      r : List ℕ
      r = readied gang g n state

      go : Dec (t ≡ n) → (t < n → get_or r t 0 ≡ ready) → get_or (cond (eqb (gang_of gang n) g) (set r n ready) r) t 0 ≡ ready
      go (yes w) h =
          rw (eq-eqb (gang_of gang n) g (ap (gang_of gang) (sym w) ∙ e), w)
          (get_or-set_same r n ready 0 (let k = readied_length n state in omega arith))
      go (no ne) h =
          let k : get_or r t 0 ≡ ready = h (omega arith) in
          either (λ (x : List ℕ). get_or x t 0 ≡ ready) (eqb (gang_of gang n) g) (λ q. get_or-set_other r n t ready 0 ne ∙ k) (λ q. k)

  -- so each state is ready, or what it was
  pub readied_or : (n : ℕ) (state : List ℕ) (t : ℕ)
      → (get_or (readied gang g n state) t 0 ≡ ready) ⊎ (get_or (readied gang g n state) t 0 ≡ get_or state t 0)
  readied_or n state t = go (dec_lt t n) (dec_lt t (length state)) (ℕ_discrete (gang_of gang t) g)
    where
      r : List ℕ
      r = readied gang g n state

      go : Dec (t < n) → Dec (t < length state) → Dec (gang_of gang t ≡ g) → (get_or r t 0 ≡ ready) ⊎ (get_or r t 0 ≡ get_or state t 0)
      go l i (no ne) = inr (readied_other n state t ne)
      go (no l) i (yes e) = inr (readied_past n state t (omega arith))
      go (yes l) (yes i) (yes e) = inl (readied_same n state t l i e)
      go (yes l) (no i) (yes e) =
          let k : length r ≡ length state = readied_length n state in
          inr (get_or-eq_default r 0 (omega arith) ∙ sym (get_or-eq_default state 0 (omega arith)))

-- ---- "all its threads are finished": gang g's, of the first n

module _ (state gang : List ℕ) (g n : ℕ) where
  pub all_finished_lem : all_finished state gang g n ≡ true → (t : ℕ) → t < n → gang_of gang t ≡ g → get_or state t 0 ≡ finished
  unfolding all_finished finished_in
  all_finished_lem e t l q =
      eqb-true (get_or state t 0) finished
      (implied (eqb (gang_of gang t) g) (eqb (get_or state t 0) finished) (every_true n (finished_in state gang g) e t l)
      (eq-eqb (gang_of gang t) g q))

  pub make_finished : ((t : ℕ) → t < n → gang_of gang t ≡ g → get_or state t 0 ≡ finished) → all_finished state gang g n ≡ true
  unfolding all_finished finished_in
  make_finished h =
      make_every n (finished_in state gang g)
      (λ t l.
      make_implies (eqb (gang_of gang t) g) (eqb (get_or state t 0) finished)
      (λ q. eq-eqb (get_or state t 0) finished (h t l (eqb-true (gang_of gang t) g q))))

  -- one that is not, and then not all are
  pub some_unfinished : all_finished state gang g n ≡ false → HasUnfinished state gang g n
  unfolding all_finished finished_in
  some_unfinished e =
      let k = every_fails n (finished_in state gang g) e in
      let x = eqb (gang_of gang k.at) g in
      let y = eqb (get_or state k.at 0) finished in
      let f = not-true (finished_in state gang g k.at) k.holds in
      record {
        thread = k.at;
        below = k.below;
        its_gang = eqb-true (gang_of gang k.at) g (unimplied x y f).0;
        unfinished = eqb-false (get_or state k.at 0) finished (unimplied x y f).1;
      }

  pub make_unfinished : HasUnfinished state gang g n → all_finished state gang g n ≡ false
  make_unfinished u = is_false (all_finished state gang g n) (λ e. u.unfinished (all_finished_lem e u.thread u.below u.its_gang))

-- ---- "A thread is running when it is its core's occupant and is ready"

module _ (state core occupant : List ℕ) (t : ℕ) where
  pub running_is : is_running state core occupant t ≡ true → (get_or state t 0 ≡ ready) × (get_or occupant (core_of core t) 255 ≡ t)
  unfolding is_running
  running_is e =
      let b = both (eqb (get_or state t 0) ready) (eqb (get_or occupant (core_of core t) 255) t) e in
      (eqb-true (get_or state t 0) ready b.0, eqb-true (get_or occupant (core_of core t) 255) t b.1)

  pub make_running : get_or state t 0 ≡ ready → get_or occupant (core_of core t) 255 ≡ t → is_running state core occupant t ≡ true
  unfolding is_running
  make_running p q = rw (eq-eqb (get_or state t 0) ready p, eq-eqb (get_or occupant (core_of core t) 255) t q)
