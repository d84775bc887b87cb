-- A test of every place of which the first n are used: what it says of the used places and of the unused ones, and back.
use Rattle.std.specs.Prelude.{ℕ, ◌≤◌, ◌<◌, Bool, true, cond, ◌≡◌, ltb}
use Rattle.std.proofs.Math.Decide.{dec_lt}
use Rattle.std.proofs.Common.{arith, lt-ltb, le-ltb}
use Rattle.ranges.specs.Range.{every}
use Rattle.ranges.specs.laws.Range.{every_true, make_every}

-- the test of place i: that of a used place below n, that of an unused one from there on
abbrev pub placed : ℕ → (ℕ → Bool) → (ℕ → Bool) → ℕ → Bool
placed n used unused i = cond (ltb i n) (used i) (unused i)

module _ (size n : ℕ) (used unused : ℕ → Bool) where
  pub places_used : every size (placed n used unused) ≡ true → (i : ℕ) → i < n → i < size → used i ≡ true
  places_used e i l k = rw (lt-ltb i n l) at (every_true size (placed n used unused) e i k)

  pub places_unused : every size (placed n used unused) ≡ true → (i : ℕ) → n ≤ i → i < size → unused i ≡ true
  places_unused e i l k = rw (le-ltb i n l) at (every_true size (placed n used unused) e i k)

  pub make_places : ((i : ℕ) → i < n → used i ≡ true) → ((i : ℕ) → n ≤ i → i < size → unused i ≡ true) → every size (placed n used unused) ≡ true
  make_places p q = make_every size (placed n used unused) (λ i k. go i k (dec_lt i n))
    where
      go : (i : ℕ) → i < size → Dec (i < n) → placed n used unused i ≡ true
      go i k (yes l) = rw (lt-ltb i n l) (p i l)
      go i k (no l) = rw (le-ltb i n (omega arith)) (q i (omega arith) k)

-- the facts that the two tests stand for, where past the last place those of an unused one hold
module _ (size n : ℕ) (used unused : ℕ → Bool) (U Z : ℕ → Type 0)
    (past : (i : ℕ) → size ≤ i → Z i) (e : every size (placed n used unused) ≡ true) where
  pub every_unused : ((i : ℕ) → unused i ≡ true → Z i) → (i : ℕ) → n ≤ i → Z i
  every_unused z i l = go (dec_lt i size)
    where
      go : Dec (i < size) → Z i
      go (yes k) = z i (places_unused size n used unused e i l k)
      go (no k) = past i (omega arith)

  -- an unused place would do as a used one
  pub every_used : ((i : ℕ) → used i ≡ true → U i) → ((i : ℕ) → Z i → U i) → (i : ℕ) → i < n → U i
  every_used u z i l = go (dec_lt i size)
    where
      go : Dec (i < size) → U i
      go (yes k) = u i (places_used size n used unused e i l k)
      go (no k) = z i (past i (omega arith))
