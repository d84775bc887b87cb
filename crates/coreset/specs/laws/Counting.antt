-- What the count of a mask's ones and its trailing zeros come to, bit by bit: laws behind `Counting`.
use Rattle.std.specs.Prelude.{ℕ, zero, suc, ◌+◌, ◌*◌, ◌/◌, ◌%◌, ◌^◌, ◌<◌, ◌≡◌, refl}
use Rattle.std.proofs.Common.{sym, ap, ◌∙◌, arith, mod-lt, pow_pos, ne_eqb}
use lib.Count.{ones, ones_cat, count_trailing_zeros, under}
use Rattle.std.proofs.Math.Arith.{lt-one}
use Rattle.coreset.specs.Set.{bit, with_bit, count, lowest}
use Rattle.coreset.specs.laws.Bits.{bit_half, bit_zero, half_lt}

-- ---- the count

ones_bit : (v : ℕ) → v < 2 → ones v ≡ v
unfolding ones lib.Count.ones_in
ones_bit zero h = refl
ones_bit (suc zero) h = refl
ones_bit (suc (suc v)) h = absurd (omega arith)

-- the cores above c, c itself, and those below it
pub count_put : (m c v : ℕ) → v < 2 → count (with_bit m c v) ≡ count (m / 2 ^ c / 2) + v + count (m % 2 ^ c)
unfolding count with_bit
count_put m c v h =
    ones_cat c (m / 2 ^ c / 2 * 2 + v) (m % 2 ^ c) (mod-lt m (pow_pos c))
    ∙ ap (λ (x : ℕ). x + ones (m % 2 ^ c)) (ones_cat 1 (m / 2 ^ c / 2) v h ∙ ap (λ (x : ℕ). ones (m / 2 ^ c / 2) + x) (ones_bit v h))

-- ---- the lowest

pub lowest_none : (k : ℕ) → lowest k 0 ≡ 255
unfolding lowest
lowest_none k = refl

pub lowest_some : (k m : ℕ) → (m ≡ 0 → ⊥) → lowest k m ≡ count_trailing_zeros k m
unfolding lowest
lowest_some k m n = rw (ne_eqb m 0 n)

-- the lowest member of a set of k cores, and none of it below
abbrev pub LowestFound : ℕ → ℕ → Type 0
LowestFound m r = (bit m r ≡ 1) × ((d : ℕ) → d < r → bit m d ≡ 0)

half_none : (m : ℕ) → m % 2 ≡ 0 → (m ≡ 0 → ⊥) → m / 2 ≡ 0 → ⊥
half_none m e n h = n (omega arith)

pub trailing_found : (k m : ℕ) → m < 2 ^ k → (m ≡ 0 → ⊥) → LowestFound m (count_trailing_zeros k m)
unfolding count_trailing_zeros
trailing_found zero m h n = absurd (n (lt-one h))
trailing_found (suc k) m h n = go (m % 2) refl (mod-lt m (pow_pos 1)) (λ e. trailing_found k (m / 2) (half_lt k m h) (half_none m e n))
  where
    lower : LowestFound (m / 2) (count_trailing_zeros k (m / 2)) → m % 2 ≡ 0 → (d : ℕ) → d < suc (count_trailing_zeros k (m / 2)) → bit m d ≡ 0
    lower f e zero q = bit_zero m ∙ e
    lower f e (suc d) q = sym (bit_half m d) ∙ f.1 d (omega arith)

    go : (v : ℕ) → m % 2 ≡ v → v < 2 → (m % 2 ≡ 0 → LowestFound (m / 2) (count_trailing_zeros k (m / 2)))
        → LowestFound m (under v (count_trailing_zeros k (m / 2)))
    go zero e l f = (sym (bit_half m (count_trailing_zeros k (m / 2))) ∙ (f e).0, lower (f e) e)
    go (suc zero) e l f = (bit_zero m ∙ e, λ d q. absurd (omega arith))
    go (suc (suc v)) e l f = absurd (omega arith)
