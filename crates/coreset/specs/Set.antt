-- Document 01, "In a core set, bit c is core c". A core set is a number; nothing here but `within_width` and `lowest` speaks of a width.
use Rattle.std.specs.Prelude.{ℕ, ◌+◌, ◌*◌, ◌/◌, ◌%◌, ◌^◌, Bool, cond, eqb, ltb}
use Rattle.std.specs.Int.Count.{ones, count_trailing_zeros}

-- bit c of m, 0 or 1
unfoldable pub bit : ℕ → ℕ → ℕ
bit m c = m / 2 ^ c % 2

-- whether core c is in m
unfoldable pub has : ℕ → ℕ → Bool
has m c = eqb (bit m c) 1

-- m with v, 0 or 1, as its bit c: the bits above c, then v, then the bits below c
unfoldable pub with_bit : ℕ → ℕ → ℕ → ℕ
with_bit m c v = (m / 2 ^ c / 2 * 2 + v) * 2 ^ c + m % 2 ^ c

-- m with core c
unfoldable pub with_core : ℕ → ℕ → ℕ
with_core m c = with_bit m c 1

-- m without core c
unfoldable pub without_core : ℕ → ℕ → ℕ
without_core m c = with_bit m c 0

-- m with core c where k cores have room for it, and m as it is where not
unfoldable pub within_width : ℕ → ℕ → ℕ → ℕ
within_width k m c = cond (ltb c k) (with_core m c) m

-- how many cores are in m
unfoldable pub count : ℕ → ℕ
count m = ones m

-- the lowest of the k cores that is in m, or 255 where m is empty
unfoldable pub lowest : ℕ → ℕ → ℕ
lowest k m = cond (eqb m 0) 255 (count_trailing_zeros k m)
