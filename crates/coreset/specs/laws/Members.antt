-- The laws of core sets, for any number of cores: membership after set and clear, bounds, union, and that a set is what its members are.
use Rattle.std.specs.Prelude.{ℕ, zero, suc, ◌+◌, ◌*◌, ◌/◌, ◌%◌, ◌^◌, ◌≤◌, ◌<◌, min, max, ◌≡◌, refl, Bool, true, false, ◌||◌, ◌&&◌, T, eqb}
use Rattle.std.proofs.Common.{sym, ap, ◌∙◌, subst, lt_of_lt_of_le, pow-suc, zero-mul, div-lt_iff_lt-mul, arith, pow_mono, pow_pos, shr-shr, eq-eqb}
use Rattle.std.proofs.Common.{ne_eqb, eqb-true, lt-ltb, le-ltb}
use Rattle.std.proofs.Math.Bool.{or-true, or-false}
use Rattle.std.proofs.Math.Nat.{zero-div, zero-mod}
use Rattle.std.proofs.Math.Decide.{ℕ_discrete, dec_lt}
use Rattle.std.specs.Int.Bits.{bit_or, bit_and}
use Rattle.std.proofs.lemmas.Bool.{eqb-false}
use Rattle.coreset.specs.Set.{bit, has, with_bit, with_core, without_core, within_width}
use Rattle.coreset.specs.laws.Bits.{bit_lt, bit_put_same, bit_put_other, put_bit, put_lt, bit_beyond, bits_ext, bit_or_lem, bit_and_lem}

-- ---- the laws of membership

pub has_with_same : (m c : ℕ) → has (with_core m c) c ≡ true
unfolding has with_core
has_with_same m c = eq-eqb (bit (with_bit m c 1) c) 1 (bit_put_same m c (omega arith))

pub has_with_other : (m c d : ℕ) → (d ≡ c → ⊥) → has (with_core m c) d ≡ has m d
unfolding has with_core
has_with_other m c d ne = ap (λ (x : ℕ). eqb x 1) (bit_put_other m c d (omega arith) ne)

pub has_without_same : (m c : ℕ) → has (without_core m c) c ≡ false
unfolding has without_core
has_without_same m c = rw (bit_put_same m c {v = 0} (omega arith))

pub has_without_other : (m c d : ℕ) → (d ≡ c → ⊥) → has (without_core m c) d ≡ has m d
unfolding has without_core
has_without_other m c d ne = ap (λ (x : ℕ). eqb x 1) (bit_put_other m c d (omega arith) ne)

pub has_empty : (c : ℕ) → has 0 c ≡ false
unfolding has bit
has_empty c = rw (zero-div)

pub without_empty : (c : ℕ) → without_core 0 c ≡ 0
unfolding without_core with_bit
without_empty c = simp (zero-div, zero-mod, zero-mul) (omega arith)

-- ---- a core that is not there, and a core past the width

pub bit_of : (m c : ℕ) → has m c ≡ true → bit m c ≡ 1
unfolding has
bit_of m c h = eqb-true (bit m c) 1 h

pub no_bit_of : (m c : ℕ) → has m c ≡ false → bit m c ≡ 0
unfolding has
no_bit_of m c h = let l = bit_lt m c in let n = eqb-false (bit m c) 1 h in omega arith

-- to take away what is not there changes nothing
pub without_absent : (m c : ℕ) → has m c ≡ false → without_core m c ≡ m
unfolding without_core
without_absent m c h = ap (with_bit m c) (sym (no_bit_of m c h)) ∙ put_bit m c

pub has_beyond : (k m c : ℕ) → m < 2 ^ k → k ≤ c → has m c ≡ false
unfolding has
has_beyond k m c h l = rw (bit_beyond k m c h l)

-- a member of a set of k cores is one of them
pub has_below : (k m c : ℕ) → m < 2 ^ k → has m c ≡ true → c < k
has_below k m c h p = go (dec_lt c k)
  where
    go : Dec (c < k) → c < k
    go (yes l) = l
    go (no l) = absurd (subst T (sym p ∙ has_beyond k m c h (omega arith)) tt)

pub within_below : (k m c : ℕ) → c < k → within_width k m c ≡ with_core m c
unfolding within_width
within_below k m c h = rw (lt-ltb c k h)

pub within_beyond : (k m c : ℕ) → k ≤ c → within_width k m c ≡ m
unfolding within_width
within_beyond k m c h = rw (le-ltb c k h)

-- core c comes in where k cores have room for it, and no other core does
pub within_other : (k m c d : ℕ) → (d ≡ c → ⊥) → has (within_width k m c) d ≡ has m d
within_other k m c d ne = go (dec_lt c k)
  where
    go : Dec (c < k) → has (within_width k m c) d ≡ has m d
    go (yes i) = rw (within_below k m c i) (has_with_other m c d ne)
    go (no i) = rw (within_beyond k m c (omega arith))

pub has_within : (k m c d : ℕ) → d < k → has (within_width k m c) d ≡ (has m d || eqb c d)
has_within k m c d l = go (ℕ_discrete d c)
  where
    go : Dec (d ≡ c) → has (within_width k m c) d ≡ (has m d || eqb c d)
    go (yes e) = rw (within_below k m c (omega arith), e, eq-eqb c c refl, or-true (has m c)) (has_with_same m c)
    go (no ne) = rw (ne_eqb c d (λ w. ne (sym w)), or-false (has m d)) (within_other k m c d ne)

pub within_past : (k m c d : ℕ) → k ≤ d → has (within_width k m c) d ≡ has m d
within_past k m c d l = go (ℕ_discrete d c)
  where
    go : Dec (d ≡ c) → has (within_width k m c) d ≡ has m d
    go (yes e) = rw (within_beyond k m c (omega arith))
    go (no ne) = within_other k m c d ne

-- what is not in the set with c, which has room there, is not c and was not in it
pub within_absent : (k m c d : ℕ) → c < k → has (within_width k m c) d ≡ false → (d ≡ c → ⊥) × (has m d ≡ false)
within_absent k m c d h o = (nd, sym (has_with_other m c d nd) ∙ out)
  where
    out : has (with_core m c) d ≡ false
    out = rw (within_below k m c h) at o

    nd : d ≡ c → ⊥
    nd e = subst T (sym (has_with_same m c) ∙ ap (has (with_core m c)) (sym e) ∙ out) tt

-- with a core below n the members stay below n
pub within_members : (k n m c : ℕ) → c < n → ((d : ℕ) → has m d ≡ true → d < n) → (d : ℕ) → has (within_width k m c) d ≡ true → d < n
within_members k n m c l h d p = go (ℕ_discrete d c)
  where
    go : Dec (d ≡ c) → d < n
    go (yes e) = omega arith
    go (no ne) = h d (sym (within_other k m c d ne) ∙ p)

-- ---- bounds: k cores stay k cores

pub with_lt : (k m c : ℕ) → c < k → m < 2 ^ k → with_core m c < 2 ^ k
unfolding with_core
with_lt k m c ck mk = put_lt k m c ck (omega arith) mk

pub without_lt : (k m c : ℕ) → c < k → m < 2 ^ k → without_core m c < 2 ^ k
unfolding without_core
without_lt k m c ck mk = put_lt k m c ck (omega arith) mk

pub within_lt : (k m c : ℕ) → m < 2 ^ k → within_width k m c < 2 ^ k
within_lt k m c h = go (dec_lt c k)
  where
    go : Dec (c < k) → within_width k m c < 2 ^ k
    go (yes i) = rw (within_below k m c i) (with_lt k m c i h)
    go (no i) = rw (within_beyond k m c (omega arith)) h

-- ---- extensionality

same_bit : (x y : ℕ) → x < 2 → y < 2 → eqb x 1 ≡ eqb y 1 → x ≡ y
same_bit zero zero p q e = refl
same_bit zero (suc zero) p q e = absurd (subst T (sym e) tt)
same_bit (suc zero) zero p q e = absurd (subst T e tt)
same_bit (suc zero) (suc zero) p q e = refl
same_bit zero (suc (suc y)) p q e = absurd (omega arith)
same_bit (suc zero) (suc (suc y)) p q e = absurd (omega arith)
same_bit (suc (suc x)) y p q e = absurd (omega arith)

pub set_ext : (k a b : ℕ) → a < 2 ^ k → b < 2 ^ k → ((d : ℕ) → d < k → has a d ≡ has b d) → a ≡ b
unfolding has
set_ext k a b p q h = bits_ext k a b p q (λ d l. same_bit (bit a d) (bit b d) (bit_lt a d) (bit_lt b d) (h d l))

-- ---- unions and intersections

bits2 : {A : Type 0} (x : ℕ) → x < 2 → (x ≡ 0 → A) → (x ≡ 1 → A) → A
bits2 zero h f g = f refl
bits2 (suc zero) h f g = g refl
bits2 (suc (suc x)) h f g = absurd (omega arith)

or_test : (x y : ℕ) → x < 2 → y < 2 → eqb (max x y) 1 ≡ (eqb x 1 || eqb y 1)
or_test x y p q = bits2 x p (λ e. bits2 y q (λ f. rw (e, f)) (λ f. rw (e, f))) (λ e. bits2 y q (λ f. rw (e, f)) (λ f. rw (e, f)))

and_test : (x y : ℕ) → x < 2 → y < 2 → eqb (min x y) 1 ≡ (eqb x 1 && eqb y 1)
and_test x y p q = bits2 x p (λ e. bits2 y q (λ f. rw (e, f)) (λ f. rw (e, f))) (λ e. bits2 y q (λ f. rw (e, f)) (λ f. rw (e, f)))

pub has_or : (a b d : ℕ) → has (bit_or a b) d ≡ (has a d || has b d)
unfolding has
has_or a b d = ap (λ (x : ℕ). eqb x 1) (bit_or_lem a b d) ∙ or_test (bit a d) (bit b d) (bit_lt a d) (bit_lt b d)

pub has_and : (a b d : ℕ) → has (bit_and a b) d ≡ (has a d && has b d)
unfolding has
has_and a b d = ap (λ (x : ℕ). eqb x 1) (bit_and_lem a b d) ∙ and_test (bit a d) (bit b d) (bit_lt a d) (bit_lt b d)

-- ---- extensionality with no width

pub lt_pow : (m : ℕ) → m < 2 ^ m
lt_pow zero = omega arith
lt_pow (suc m) = let e : 2 ^ suc m ≡ 2 ^ m * 2 = pow-suc 2 m in let h : m < 2 ^ m = lt_pow m in omega arith

pub ext : (a b : ℕ) → ((d : ℕ) → has a d ≡ has b d) → a ≡ b
ext a b h =
    set_ext (a + b) a b (lt_of_lt_of_le (lt_pow a) (pow_mono (omega arith))) (lt_of_lt_of_le (lt_pow b) (pow_mono (omega arith))) (λ d l. h d)

pub empty_ext : (m : ℕ) → ((d : ℕ) → has m d ≡ false) → m ≡ 0
empty_ext m h = ext m 0 (λ d. h d ∙ sym (has_empty d))

-- a set whose members are all below k is a set of k cores: nothing stands above them
pub all_below : (k m : ℕ) → ((d : ℕ) → has m d ≡ true → d < k) → m < 2 ^ k
unfolding has bit
all_below k m h =
    let e : m / 2 ^ k ≡ 0 = empty_ext (m / 2 ^ k) (λ d. ap (λ (x : ℕ). eqb (x % 2) 1) (shr-shr m k d) ∙ go d (has m (k + d)) refl) in
    let l : m < 1 * 2 ^ k = (div-lt_iff_lt-mul (pow_pos k)).0 (omega arith) in
    omega arith
  where
    go : (d : ℕ) (x : Bool) → has m (k + d) ≡ x → x ≡ false
    go d true e = let l = h (k + d) e in absurd (omega arith)
    go d false e = refl

neither : (x y : Bool) → (x || y) ≡ false → (x ≡ false) × (y ≡ false)
neither true y e = absurd (subst T e tt)
neither false y e = (refl, e)

and_false : (x y : Bool) → (x && y) ≡ false → x ≡ true → y ≡ false
and_false true y e p = e
and_false false y e p = absurd (subst T (sym p) tt)

-- what is in neither, and what is not in both
pub or_none : (a b d : ℕ) → has (bit_or a b) d ≡ false → (has a d ≡ false) × (has b d ≡ false)
or_none a b d e = neither (has a d) (has b d) (sym (has_or a b d) ∙ e)

or_both_false : (x y : Bool) → x ≡ false → y ≡ false → (x || y) ≡ false
or_both_false x y p q = rw (p, q)

pub or_neither : (a b d : ℕ) → has a d ≡ false → has b d ≡ false → has (bit_or a b) d ≡ false
or_neither a b d p q = has_or a b d ∙ or_both_false (has a d) (has b d) p q

-- two sets with no core in common
pub apart : (a b : ℕ) → bit_and a b ≡ 0 → (d : ℕ) → has a d ≡ true → has b d ≡ false
apart a b e d p = and_false (has a d) (has b d) (sym (has_and a b d) ∙ ap (λ (m : ℕ). has m d) e ∙ has_empty d) p

and_out : (x y : Bool) → (x ≡ true → y ≡ false) → (x && y) ≡ false
and_out true y h = h refl
and_out false y h = refl

pub make_apart : (a b : ℕ) → ((d : ℕ) → has a d ≡ true → has b d ≡ false) → bit_and a b ≡ 0
make_apart a b h = empty_ext (bit_and a b) (λ d. has_and a b d ∙ and_out (has a d) (has b d) (h d))

or_second : (x y : Bool) → (x || y) ≡ true → x ≡ false → y ≡ true
or_second true y e p = absurd (subst T p tt)
or_second false y e p = e

pub or_other : (a b d : ℕ) → has (bit_or a b) d ≡ true → has a d ≡ false → has b d ≡ true
or_other a b d e p = or_second (has a d) (has b d) (sym (has_or a b d) ∙ e) p

-- what is in the one or the other, and what is in either
pub or_either : {A : Type 0} (a b d : ℕ) → has (bit_or a b) d ≡ true → (has a d ≡ true → A) → (has b d ≡ true → A) → A
or_either {A} a b d h f g = go (has a d) refl
  where
    go : (x : Bool) → has a d ≡ x → A
    go true e = f e
    go false e = g (or_other a b d h e)

pub or_left : (a b d : ℕ) → has a d ≡ true → has (bit_or a b) d ≡ true
or_left a b d h = has_or a b d ∙ ap (λ (x : Bool). x || has b d) h

pub or_right : (a b d : ℕ) → has b d ≡ true → has (bit_or a b) d ≡ true
or_right a b d h = has_or a b d ∙ ap (λ (x : Bool). has a d || x) h ∙ or-true (has a d)
