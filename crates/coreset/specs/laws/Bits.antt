-- The bits of a number: what `with_bit` does to each, what the code's masks come to, and that numbers with the same bits are equal. For any width.
use Rattle.std.specs.Prelude.{ℕ, zero, suc, ◌+◌, ◌-◌, ◌*◌, ◌/◌, ◌%◌, ◌^◌, ◌≤◌, ◌<◌, min, max, ◌≡◌}
use Rattle.std.proofs.Common.{sym, ap, ap₂, ◌∙◌, subst, lt_of_lt_of_le, mul_assoc, mod-eq_of_lt, mod-lt, div-add-mod', div-one, pow-suc, mul_comm}
use Rattle.std.proofs.Common.{add-one, one-add, arith, pow-add, pow_mono, pow_pos, shr-shr, shr_lt}
use Rattle.std.proofs.Math.Nat.{mod-mod}
use Rattle.std.proofs.Math.Decide.{dec_lt}
use Rattle.std.proofs.Math.Arith.{digits_mod, digits_div, digits_lt, lt-one}
use Rattle.std.proofs.Math.Pow.{pow-lt, ones_split, ones_lt, split, high, low, field, mod-mod-pow}
use Rattle.std.proofs.lemmas.Nat.{or_shr, and_shr, or_block, and_block, and_mask}
use Rattle.std.specs.Int.Bits.{bit_or, bit_and, or_step, and_step, or_zero_r}
use Rattle.coreset.specs.Set.{bit, with_bit}

pub bit_lt : (m c : ℕ) → bit m c < 2
unfolding bit
bit_lt m c = mod-lt (m / 2 ^ c) (pow_pos 1)

-- ---- put, by the part above its place and the part below

put_high : (m c v : ℕ) → with_bit m c v / 2 ^ c ≡ m / 2 ^ c / 2 * 2 + v
unfolding with_bit
put_high m c v = high _ c (mod-lt m (pow_pos c))

put_low : (m c v : ℕ) → with_bit m c v % 2 ^ c ≡ m % 2 ^ c
unfolding with_bit
put_low m c v = low _ c (mod-lt m (pow_pos c))

-- a bit above c is a bit of what stands above c
above : (m c j : ℕ) → bit m (c + suc j) ≡ m / 2 ^ c / 2 / 2 ^ j % 2
unfolding bit
above m c j =
    ap (λ (x : ℕ). x % 2) (sym (shr-shr m c (suc j)) ∙ ap (λ (x : ℕ). m / 2 ^ c / 2 ^ x) (sym (one-add j)) ∙ sym (shr-shr (m / 2 ^ c) 1 j))

-- a bit below c is a bit of what stands below c
below : (m d j : ℕ) → bit m d ≡ bit (m % 2 ^ (suc j + d)) d
unfolding bit
below m d j =
    sym (ap (λ (x : ℕ). x % 2) (field m (suc j) d) ∙ ap (λ (x : ℕ). m / 2 ^ d % 2 ^ x % 2) (sym (add-one j)) ∙ mod-mod-pow (m / 2 ^ d) j 1)

pub bit_put_same : (m c : ℕ) {v : ℕ} → v < 2 → bit (with_bit m c v) c ≡ v
unfolding bit
bit_put_same m c h = ap (λ (x : ℕ). x % 2) (put_high m c _) ∙ digits_mod (m / 2 ^ c / 2) h

put_above : (m c j : ℕ) {v : ℕ} → v < 2 → bit (with_bit m c v) (c + suc j) ≡ bit m (c + suc j)
put_above m c j {v} h =
    above (with_bit m c v) c j
    ∙ ap (λ (x : ℕ). x / 2 / 2 ^ j % 2) (put_high m c _)
    ∙ ap (λ (x : ℕ). x / 2 ^ j % 2) (digits_div (m / 2 ^ c / 2) h)
    ∙ sym (above m c j)

put_below : (m d j v : ℕ) → bit (with_bit m (suc j + d) v) d ≡ bit m d
put_below m d j v = below (with_bit m (suc j + d) v) d j ∙ ap (λ (x : ℕ). bit x d) (put_low m (suc j + d) v) ∙ sym (below m d j)

pub bit_put_other : (m c d : ℕ) {v : ℕ} → v < 2 → (d ≡ c → ⊥) → bit (with_bit m c v) d ≡ bit m d
bit_put_other m c d {v} h ne = go (dec_lt d c) (dec_lt c d)
  where
    go : Dec (d < c) → Dec (c < d) → bit (with_bit m c v) d ≡ bit m d
    go (yes l) q =
        let e : suc (c - suc d) + d ≡ c = omega arith in
        subst (λ (x : ℕ). bit (with_bit m x v) d ≡ bit m d) e (put_below m d (c - suc d) v)
    go (no l) (yes q) =
        let e : c + suc (d - suc c) ≡ d = omega arith in
        subst (λ (x : ℕ). bit (with_bit m c v) x ≡ bit m x) e (put_above m c (d - suc c) h)
    go (no l) (no q) = absurd (ne (omega arith))

-- a number with its own bit put is itself
pub put_bit : (m c : ℕ) → with_bit m c (bit m c) ≡ m
unfolding with_bit bit
put_bit m c = ap (λ (x : ℕ). x * 2 ^ c + m % 2 ^ c) (div-add-mod' (m / 2 ^ c) 2) ∙ split m c

-- no bit above the width
pub bit_beyond : (k m c : ℕ) → m < 2 ^ k → k ≤ c → bit m c ≡ 0
unfolding bit
bit_beyond k m c h l =
    ap (λ (x : ℕ). x % 2) (lt-one (shr_lt 0 c (lt_of_lt_of_le h (pow_mono (omega arith)))))

-- ---- k bits stay k bits

pub put_lt : (k m c : ℕ) {v : ℕ} → c < k → v < 2 → m < 2 ^ k → with_bit m c v < 2 ^ k
unfolding with_bit
put_lt k m c {v} ck v2 mk =
    let e : k - suc c + 1 + c ≡ k = omega arith in
    let h : m < 2 ^ (k - suc c + 1 + c) = subst (λ (x : ℕ). m < 2 ^ x) (sym e) mk in
    let q : m / 2 ^ c / 2 < 2 ^ (k - suc c) = shr_lt (k - suc c) 1 (shr_lt (k - suc c + 1) c h) in
    subst (λ (x : ℕ). with_bit m c v < 2 ^ x) e
    (subst (λ (x : ℕ). with_bit m c v < x) (sym (pow-add 2 (k - suc c + 1) c))
    (digits_lt (subst (λ (x : ℕ). m / 2 ^ c / 2 * 2 + v < x) (sym (pow-add 2 (k - suc c) 1)) (digits_lt q v2)) (mod-lt m (pow_pos c))))

-- ---- numbers with the same bits

pub bit_half : (m d : ℕ) → bit (m / 2) d ≡ bit m (suc d)
unfolding bit
bit_half m d = ap (λ (x : ℕ). x % 2) (shr-shr m 1 d ∙ ap (λ (x : ℕ). m / 2 ^ x) (one-add d))

pub half_lt : (k x : ℕ) → x < 2 ^ suc k → x / 2 < 2 ^ k
half_lt k x l = shr_lt k 1 (subst (λ (y : ℕ). x < 2 ^ y) (sym (add-one k)) l)

pub bit_zero : (m : ℕ) → bit m 0 ≡ m % 2
unfolding bit
bit_zero m = ap (λ (x : ℕ). x % 2) (div-one m)

pub bits_ext : (k a b : ℕ) → a < 2 ^ k → b < 2 ^ k → ((d : ℕ) → d < k → bit a d ≡ bit b d) → a ≡ b
bits_ext zero a b p q h = lt-one p ∙ sym (lt-one q)
bits_ext (suc k) a b p q h =
    sym (div-add-mod' a 2)
    ∙ ap₂ (λ (x y : ℕ). x * 2 + y)
    (bits_ext k (a / 2) (b / 2) (half_lt k a p) (half_lt k b q) (λ d l. bit_half a d ∙ h (suc d) (omega arith) ∙ sym (bit_half b d)))
    (sym (bit_zero a) ∙ h 0 (omega arith) ∙ bit_zero b)
    ∙ div-add-mod' b 2

-- ---- the masks of the code: `m | (1 << c)`, and `m & !(1 << c)` at any width

one_bit : (c : ℕ) → 2 ^ c ≡ 1 * 2 ^ c + 0
one_bit c = omega arith

or_one : (a : ℕ) → bit_or a 1 ≡ a / 2 * 2 + 1
or_one a = or_step a 1 ∙ ap₂ (λ (x y : ℕ). x * 2 + y) (or_zero_r (a / 2)) (max_eq_right (a % 2) (omega arith))
  where
    max_eq_right : (x : ℕ) → x < 2 → max x 1 ≡ 1
    max_eq_right x h = omega arith

pub or_put : (m c : ℕ) → bit_or m (2 ^ c) ≡ with_bit m c 1
unfolding with_bit
or_put m c =
    ap₂ bit_or (sym (split m c)) (one_bit c)
    ∙ or_block c (m / 2 ^ c) 1 (m % 2 ^ c) 0 (mod-lt m (pow_pos c)) (pow_pos c)
    ∙ ap₂ (λ (x y : ℕ). x * 2 ^ c + y) (or_one (m / 2 ^ c)) (or_zero_r (m % 2 ^ c))

-- all ones but bit c, in j + 1 + c bits: ones above, 0, ones below
hole_at : (j c : ℕ) → (2 ^ (j + suc c) - 1) - 2 ^ c ≡ (2 ^ j - 1) * 2 * 2 ^ c + (2 ^ c - 1)
hole_at j c =
    let p : 0 < 2 ^ c = pow_pos c in
    let s : 2 ^ suc c ≡ 2 ^ c * 2 = pow-suc 2 c in
    let e : (2 ^ j - 1) * 2 ^ suc c ≡ (2 ^ j - 1) * 2 * 2 ^ c =
    ap (λ (x : ℕ). (2 ^ j - 1) * x) (s ∙ mul_comm (2 ^ c) 2) ∙ sym (mul_assoc (2 ^ j - 1) 2 (2 ^ c)) in
    omega (arith, ones_split j (suc c))

and_even : (a b : ℕ) → bit_and a (b * 2) ≡ bit_and (a / 2) b * 2 + 0
and_even a b = and_step a (b * 2) ∙ ap₂ (λ (x y : ℕ). bit_and (a / 2) x * 2 + y) (digits_div' b) (omega arith)
  where
    digits_div' : (x : ℕ) → x * 2 / 2 ≡ x
    digits_div' x = omega arith

pub and_put : (j m c : ℕ) → m < 2 ^ (j + suc c) → bit_and m ((2 ^ (j + suc c) - 1) - 2 ^ c) ≡ with_bit m c 0
unfolding with_bit
and_put j m c h =
    ap₂ bit_and (sym (split m c)) (hole_at j c)
    ∙ and_block c (m / 2 ^ c) ((2 ^ j - 1) * 2) (m % 2 ^ c) (2 ^ c - 1) (mod-lt m (pow_pos c)) (ones_lt c)
    ∙ ap₂ (λ (x y : ℕ). x * 2 ^ c + y)
    (and_even (m / 2 ^ c) (2 ^ j - 1) ∙ ap (λ (x : ℕ). x * 2 + 0) (and_mask (m / 2 ^ c / 2) j ∙ mod-eq_of_lt q))
    (and_mask (m % 2 ^ c) c ∙ mod-mod m (2 ^ c))
  where
    q : m / 2 ^ c / 2 < 2 ^ j
    q = shr_lt j 1 (shr_lt (j + 1) c (subst (λ (x : ℕ). m < 2 ^ x) (omega arith) h))

pub and_put_at : (k m c : ℕ) → c < k → m < 2 ^ k → bit_and m ((2 ^ k - 1) - 2 ^ c) ≡ with_bit m c 0
and_put_at k m c h l =
    let e : k - suc c + suc c ≡ k = omega arith in
    subst (λ (x : ℕ). m < 2 ^ x → bit_and m ((2 ^ x - 1) - 2 ^ c) ≡ with_bit m c 0) e (and_put (k - suc c) m c) l

pub shifted_one : (k c : ℕ) → c < k → 1 * 2 ^ c % 2 ^ k ≡ 2 ^ c
shifted_one k c h = let e : 1 * 2 ^ c ≡ 2 ^ c = omega arith in ap (λ (x : ℕ). x % 2 ^ k) e ∙ mod-eq_of_lt (pow-lt h)

-- ---- union and intersection, bit by bit

pub bit_or_lem : (a b d : ℕ) → bit (bit_or a b) d ≡ max (bit a d) (bit b d)
unfolding bit
bit_or_lem a b d =
    ap (λ (x : ℕ). x % 2) (or_shr a b d ∙ or_step (a / 2 ^ d) (b / 2 ^ d))
    ∙ digits_mod (bit_or (a / 2 ^ d / 2) (b / 2 ^ d / 2)) (omega arith)

pub bit_and_lem : (a b d : ℕ) → bit (bit_and a b) d ≡ min (bit a d) (bit b d)
unfolding bit
bit_and_lem a b d =
    ap (λ (x : ℕ). x % 2) (and_shr a b d ∙ and_step (a / 2 ^ d) (b / 2 ^ d))
    ∙ digits_mod (bit_and (a / 2 ^ d / 2) (b / 2 ^ d / 2)) (omega arith)
