-- Every line fits the bytes that a line is lent: of 80 an event's takes at most 58, a message 79, a thread's all.
use Rattle.std.specs.Prelude.{ℕ, zero, suc, ◌+◌, ◌/◌, ◌%◌, ◌≤◌, ◌≡◌, refl, List, [], ◌∷◌, ◌++◌, Bool, true, false, ◌&&◌, cond, eqb, ltb, length, take}
use Rattle.std.proofs.Common.{arith, length-append, length-take}
use Rattle.lines.specs.Chars.{ten, places8, places16, places32, sixteen, hex_places, no_holder, room, most_words, dash}
use Rattle.lines.specs.Number.{glyph_of, numeral}
use Rattle.lines.specs.Put.{place}
use Rattle.lines.specs.laws.Put.{length_place}
use Rattle.lines.specs.Listing.{field_of, some_or, line_of}
use Rattle.lines.specs.ThreadLine.{thread_line_of}
use Rattle.lines.specs.Message.{words_line_of, refusal_line_of}
use Rattle.lines.specs.Shown.{Shown}
use Rattle.lines.specs.declared.Line.{Line}

-- ---- parts of a line

-- a number takes no more digits than it has places
numeral_size : (base : ℕ) (short : Bool) (places n : ℕ) → length (numeral base short places n) ≤ places
unfolding numeral
numeral_size base short zero n = omega arith
numeral_size base short (suc places) n = go (short && ltb n base) (numeral_size base short places (n / base))
  where
    go : (t : Bool) → length (numeral base short places (n / base)) ≤ places
        → length (cond t (glyph_of n ∷ []) (numeral base short places (n / base) ++ (glyph_of (n % base) ∷ []))) ≤ suc places
    go true rest = omega arith
    go false rest = simp length-append (omega arith)

field_size : (base : ℕ) (short : Bool) (places n : ℕ) → length (field_of base short places n) ≤ places + 1
unfolding field_of
field_size base short places n = simp length-append (omega (arith, numeral_size base short places n))

some_size : (other : List ℕ) (n : ℕ) → length other ≤ places8 → length (some_or other n) ≤ places8
unfolding some_or
some_size other n h = go (eqb n no_holder)
  where
    go : (t : Bool) → length (cond t other (numeral ten true places8 n)) ≤ places8
    go true = h
    go false = numeral_size ten true places8 n

words_size : (words : List ℕ) → length (take most_words words) ≤ most_words
words_size words = simp length-take (omega arith)

-- ---- the lines

pub event_fits : (l : Line) → length (line_of l) ≤ room
unfolding line_of
event_fits l =
    let position = field_size ten true places32 l.position in
    let kind = field_size ten true places16 l.kind in
    let refusal = field_size ten true places8 l.refusal in
    let value = field_size ten true places8 l.value in
    let number = field_size ten true places32 l.number in
    let owing = field_size sixteen false hex_places l.owing in
    let locked = field_size sixteen false hex_places l.locked in
    let holder = some_size (dash ∷ []) l.holder (omega arith) in
    simp length-append (omega arith)

pub thread_line_fits : (position thread : ℕ) (words : List ℕ) (which : ℕ) → length (thread_line_of position thread words which) ≤ room
unfolding thread_line_of
thread_line_fits position thread words which =
    let at = field_size ten true places32 position in
    let of = field_size ten true places8 thread in
    let said = words_size words in
    let named = some_size [] which (omega arith) in
    simp length-append (omega arith)

pub words_fit : (words : List ℕ) → length (words_line_of words) ≤ room
unfolding words_line_of
words_fit words = simp length-append (omega (arith, words_size words))

pub refusal_fits : (words : List ℕ) (number place : ℕ) → length (refusal_line_of words number place) ≤ room
unfolding refusal_line_of
refusal_fits words number place =
    let said = words_size words in
    let refused = numeral_size ten true places8 number in
    let at = numeral_size ten true places32 place in
    simp length-append (omega arith)

-- so each of them, put at the start of the bytes that a line is lent, is shown
pub fitting_shown : (bs before : List ℕ) → length bs ≤ room → length before ≡ room → Shown bs before (place before 0 bs) (length bs)
fitting_shown bs before fits lent =
    let same = length_place before 0 bs (omega arith) in
    record {
      count = refl;
      text = refl;
      fits = omega arith;
      part = simp length-take (omega arith);
    }
