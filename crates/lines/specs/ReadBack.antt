-- A number's text is right: its digits, read back, say the number.
use Rattle.std.specs.Prelude.{ℕ, zero, suc, ◌+◌, ◌-◌, ◌*◌, ◌/◌, ◌%◌, ◌^◌, ◌≤◌, ◌<◌, ◌≡◌, refl, List, [], ◌∷◌, ◌++◌, Bool, true, false, ◌&&◌, cond}
use Rattle.std.specs.Prelude.{ltb}
use Rattle.std.proofs.lemmas.Bool.{false≢true}
use Rattle.std.proofs.Common.{arith, mod-lt, div-add-mod', div-lt_iff_lt-mul, pow-suc, lt-ltb, le-ltb, ltb-true, ltb-false}
use Rattle.std.proofs.Math.Nat.{pow-zero}
use Rattle.lines.specs.Chars.{digits, letters, ten, sixteen, places8, places16, places32, hex_places}
use Rattle.lines.specs.Number.{glyph_of, numeral}

-- the digit of a character
abbrev pub digit_of : ℕ → ℕ
digit_of c = cond (ltb c (letters + ten)) (c - digits) (c - letters)

-- the number that characters say, read on from what was read so far
unfoldable pub read_back_from : ℕ → ℕ → List ℕ → ℕ
read_back_from base before [] = before
read_back_from base before (c ∷ cs) = read_back_from base (before * base + digit_of c) cs

abbrev pub read_back : ℕ → List ℕ → ℕ
read_back base cs = read_back_from base 0 cs

-- one character more is one digit more
read_more : (base before : ℕ) (cs : List ℕ) (c : ℕ) → read_back_from base before (cs ++ (c ∷ [])) ≡ read_back_from base before cs * base + digit_of c
unfolding read_back_from
read_more base before [] c = refl
read_more base before (d ∷ cs) c = read_more base (before * base + digit_of d) cs c

-- a digit's character says the digit, by its test against ten
digit_tested : (d : ℕ) (t : Bool) → ltb d ten ≡ t → d < sixteen → digit_of (glyph_of d) ≡ d
digit_tested d true e h = rw (e, lt-ltb (digits + d) (letters + ten) (omega (arith, ltb-true d ten e))) (omega arith)
digit_tested d false e h = rw (e, le-ltb (letters + d) (letters + ten) (omega (arith, ltb-false d ten e))) (omega arith)

digit_back : (d : ℕ) → d < sixteen → digit_of (glyph_of d) ≡ d
digit_back d h = digit_tested d (ltb d ten) refl h

-- what the test for one digit says
one_below : (short : Bool) (n base : ℕ) → (short && ltb n base) ≡ true → n < base
one_below true n base e = ltb-true n base e
one_below false n base e = absurd (false≢true e)

-- one place more, where the quotient reads back from the places so far
back_more : (base : ℕ) (short : Bool) (places n : ℕ) (t : Bool) → (short && ltb n base) ≡ t → 2 ≤ base → base ≤ sixteen
    → read_back base (numeral base short places (n / base)) ≡ n / base → read_back base (numeral base short (suc places) n) ≡ n
unfolding numeral read_back_from
back_more base short places n true e lo hi back =
    rw (e, digit_back n (omega (arith, one_below short n base e))) (omega arith)
back_more base short places n false e lo hi back =
    let d : n % base < sixteen = omega (arith, mod-lt n {m = base} (omega arith)) in
    rw (e, read_more base 0 (numeral base short places (n / base)) (glyph_of (n % base)), back, digit_back (n % base) d)
    (div-add-mod' n base)

-- in any base, a number that fits its places reads back
pub numeral_back : (base : ℕ) (short : Bool) (places n : ℕ) → 2 ≤ base → base ≤ sixteen → n < base ^ places
    → read_back base (numeral base short places n) ≡ n
unfolding numeral read_back_from
numeral_back base short zero n lo hi h = omega (arith, rw pow-zero at h)
numeral_back base short (suc places) n lo hi h =
    let p : 0 < base = omega arith in
    let q : n / base < base ^ places = (div-lt_iff_lt-mul {k = base} p).1 (rw pow-suc at h) in
    back_more base short places n (short && ltb n base) refl lo hi (numeral_back base short places (n / base) lo hi q)

-- the places of a line's fields hold every number of their width
pub places_enough : (2 ^ 8 ≤ ten ^ places8) × (2 ^ 16 ≤ ten ^ places16) × (2 ^ 32 ≤ ten ^ places32) × (2 ^ 32 ≤ sixteen ^ hex_places)
places_enough = (omega arith, omega arith, omega arith, omega arith)
