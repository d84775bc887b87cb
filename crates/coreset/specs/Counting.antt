-- How many cores are in a set, and which is the lowest, for any number of cores.
use Rattle.std.specs.Prelude.{ℕ, ◌+◌, ◌/◌, ◌%◌, ◌^◌, ◌<◌, ◌≡◌, refl, true, false, T, eqb}
use Rattle.std.proofs.Common.{sym, ap, ◌∙◌, subst, arith, eq-eqb}
use lib.Count.{ones}
use Rattle.coreset.specs.Set.{has, with_bit, with_core, without_core, count, lowest}
use Rattle.coreset.specs.laws.Bits.{put_bit}
use Rattle.coreset.specs.laws.Members.{bit_of, no_bit_of, has_empty, lt_pow}
use Rattle.coreset.specs.laws.Counting.{count_put, lowest_some, trailing_found}

-- ---- the count

pub count_empty : count 0 ≡ 0
unfolding count ones lib.Count.ones_in
count_empty = refl

-- a core that comes in counts one more
pub count_with : (m c : ℕ) → has m c ≡ false → count (with_core m c) ≡ count m + 1
unfolding with_core
count_with m c h =
    let e : count m ≡ count (m / 2 ^ c / 2) + 0 + count (m % 2 ^ c) =
    ap count (sym (put_bit m c) ∙ ap (with_bit m c) (no_bit_of m c h)) ∙ count_put m c 0 (omega arith) in
    omega (arith, count_put m c 1 (omega arith))

-- a core that goes counts one less
pub count_without : (m c : ℕ) → has m c ≡ true → count (without_core m c) + 1 ≡ count m
unfolding without_core
count_without m c h =
    let e : count m ≡ count (m / 2 ^ c / 2) + 1 + count (m % 2 ^ c) =
    ap count (sym (put_bit m c) ∙ ap (with_bit m c) (bit_of m c h)) ∙ count_put m c 1 (omega arith) in
    omega (arith, count_put m c 0 (omega arith))

-- ---- the lowest

-- the lowest core of a set that is not empty is in it, and no core below it is
pub record IsLowest (m r : ℕ) : Type 0 where
  pub inside : has m r ≡ true
  pub least : (d : ℕ) → d < r → has m d ≡ false

pub lowest_found_lem : (k m : ℕ) → m < 2 ^ k → (m ≡ 0 → ⊥) → IsLowest m (lowest k m)
unfolding has
lowest_found_lem k m h n =
    let f = trailing_found k m h n in
    rw (lowest_some k m n) (record { inside = eq-eqb _ 1 f.0; least = λ d q. ap (λ (x : ℕ). eqb x 1) (f.1 d q) })

-- a set that is not empty has a member
pub some_core : (m : ℕ) → (m ≡ 0 → ⊥) → (d : ℕ) × (has m d ≡ true)
some_core m n = (lowest m m, (lowest_found_lem m m (lt_pow m) n).inside)

-- a set with a member is not empty
pub some_member : (m c : ℕ) → has m c ≡ true → m ≡ 0 → ⊥
some_member m c h e = subst T (sym h ∙ ap (λ (x : ℕ). has x c) e ∙ has_empty c) tt
