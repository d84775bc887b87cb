-- Laws of `Column`.
use Rattle.std.specs.Prelude.{ℕ, ◌+◌, ◌<◌, ◌≡◌, List, length, get_or, set, replicate}
use Rattle.std.proofs.Common.{◌∙◌, length-set, get_or-set_same, get_or-set_other, arith}
use Rattle.std.proofs.lemmas.List.{length-replicate, get_or-replicate}
use Rattle.std.proofs.Math.Decide.{ℕ_discrete}
use Rattle.reading.specs.Column.{Column}

-- none is used
pub column_empty : (P : ℕ → Type 0) (room : ℕ) → Column P room 0 (replicate room 0)
column_empty P room = record {
  places = length-replicate {A = ℕ} room 0;
  used = λ i l. absurd (omega arith);
  unused = λ i l m. get_or-replicate {A = ℕ} room i 0 0 m;
}

-- one more is used
pub column_more : (P : ℕ → Type 0) (room n : ℕ) (xs : List ℕ) (v : ℕ) → n < room → P v → Column P room n xs → Column P room (n + 1) (set xs n v)
column_more P room n xs v l p c = record {
  places = length-set xs n v ∙ c.places;
  used = λ i m. go i m (ℕ_discrete i n);
  unused = λ i k m. get_or-set_other xs n i v 0 (λ e. omega arith) ∙ c.unused i (omega arith) m;
}
  where
    inside : n < length xs
    inside = let r = c.places in omega arith

    go : (i : ℕ) → i < n + 1 → Dec (i ≡ n) → P (get_or (set xs n v) i 0)
    go i m (yes e) = rw (e, get_or-set_same xs n v 0 inside) p
    go i m (no e) = rw (get_or-set_other xs n i v 0 e) (c.used i (omega arith))

-- a rule that the numbers in use obey too
pub column_weaker : (P Q : ℕ → Type 0) (room n : ℕ) (xs : List ℕ) → ((x : ℕ) → P x → Q x) → Column P room n xs → Column Q room n xs
column_weaker P Q room n xs f c = record { places = c.places; used = λ i l. f (get_or xs i 0) (c.used i l); unused = c.unused }
