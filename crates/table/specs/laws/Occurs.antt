-- What `occurs` says of each place, one place more; and the marks that two passes keep of what they have met.
use Rattle.std.specs.Prelude.{ℕ, ◌+◌, ◌<◌, true, false, ◌||◌, ◌≡◌, List, length, get_or, set, replicate}
use Rattle.std.proofs.Math.Bool.{or-true, or-false}
use Rattle.std.proofs.Common.{sym, ap, ◌∙◌, length-set, get_or-set_same, get_or-set_other, arith}
use Rattle.std.proofs.Math.Dec.{eqb}
use Rattle.std.proofs.lemmas.List.{length-replicate, get_or-replicate}
use Rattle.std.proofs.Math.Decide.{ℕ_discrete}
use Rattle.std.proofs.Common.{eq-eqb, ne_eqb, eqb-true}
use Rattle.std.proofs.lemmas.Bool.{eqb-false}
use Rattle.ranges.specs.laws.Range.{some_found, make_some, no_some, make_none, some_more}
use Rattle.table.specs.Occurs.{occurs, Place, Marked}

module _ (xs : List ℕ) (n v : ℕ) where
  pub occurs_found : occurs xs n v ≡ true → Place xs n v
  unfolding occurs
  occurs_found e =
      let f = some_found n (λ i. eqb (get_or xs i 0) v) e in
      record { at = f.at; below = f.below; stands = eqb-true (get_or xs f.at 0) v f.holds }

  pub make_occurs : (i : ℕ) → i < n → get_or xs i 0 ≡ v → occurs xs n v ≡ true
  unfolding occurs
  make_occurs i l e = make_some n (λ i. eqb (get_or xs i 0) v) i l (eq-eqb (get_or xs i 0) v e)

  pub not_occurs : occurs xs n v ≡ false → (i : ℕ) → i < n → get_or xs i 0 ≡ v → ⊥
  unfolding occurs
  not_occurs e i l = eqb-false (get_or xs i 0) v (no_some n (λ i. eqb (get_or xs i 0) v) e i l)

  pub make_not_occurs : ((i : ℕ) → i < n → get_or xs i 0 ≡ v → ⊥) → occurs xs n v ≡ false
  unfolding occurs
  make_not_occurs h = make_none n (λ i. eqb (get_or xs i 0) v) (λ i l. ne_eqb (get_or xs i 0) v (h i l))

  -- one place more
  occurs_more : occurs xs (n + 1) v ≡ (occurs xs n v || eqb (get_or xs n 0) v)
  unfolding occurs
  occurs_more = some_more n (λ i. eqb (get_or xs i 0) v)

  -- where v stands
  occurs_last : get_or xs n 0 ≡ v → occurs xs (n + 1) v ≡ true
  occurs_last e = rw (occurs_more, eq-eqb (get_or xs n 0) v e) (or-true (occurs xs n v))

  -- and where it does not
  pub occurs_other : (get_or xs n 0 ≡ v → ⊥) → occurs xs (n + 1) v ≡ occurs xs n v
  occurs_other ne = rw (occurs_more, ne_eqb (get_or xs n 0) v ne) (or-false (occurs xs n v))

pub occurs_none : (xs : List ℕ) (v : ℕ) → occurs xs 0 v ≡ false
occurs_none xs v = make_not_occurs xs 0 v (λ i l. absurd (omega arith))

-- ---- the marks

pub marked_none : (xs : List ℕ) → Marked xs 0 (replicate 256 0)
marked_none xs = record {
  room = length-replicate {A = ℕ} 256 0;
  marks = λ v l. ap (λ (x : ℕ). eqb x 1) (get_or-replicate {A = ℕ} 256 v 0 0 l) ∙ sym (occurs_none xs v);
}

-- p is what stands at place n
module _ (xs : List ℕ) (n : ℕ) (seen : List ℕ) (p : ℕ) (e : p ≡ get_or xs n 0) (byte : p < 256) (m : Marked xs n seen) where
  pub marked_met : eqb (get_or seen p 0) 1 ≡ occurs xs n (get_or xs n 0)
  marked_met = m.marks p byte ∙ ap (occurs xs n) e

  pub marked_more : Marked xs (n + 1) (set seen p 1)
  marked_more = record {
    room = length-set seen p 1 ∙ m.room;
    marks = λ v l. go v (m.marks v l) (ℕ_discrete p v);
  }
    where
      inside : p < length seen
      inside = let r = m.room in omega arith

      go : (v : ℕ) → eqb (get_or seen v 0) 1 ≡ occurs xs n v → Dec (p ≡ v) → eqb (get_or (set seen p 1) v 0) 1 ≡ occurs xs (n + 1) v
      go v q (yes s) =
          ap (λ (i : ℕ). eqb (get_or (set seen p 1) i 0) 1) (sym s)
          ∙ eq-eqb (get_or (set seen p 1) p 0) 1 (get_or-set_same seen p 1 0 inside)
          ∙ sym (occurs_last xs n v (sym e ∙ s))
      go v q (no s) =
          ap (λ (x : ℕ). eqb x 1) (get_or-set_other seen p v 1 0 (λ w. s (sym w))) ∙ q ∙ sym (occurs_other xs n v (λ w. s (e ∙ w)))
