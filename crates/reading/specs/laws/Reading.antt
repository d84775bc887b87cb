-- What reading on comes to: at the end, at a refused record and at an accepted one.
use Rattle.std.specs.Prelude.{ℕ, zero, suc, ◌+◌, ◌<◌, ◌≡◌, refl, List, length, drop}
use Rattle.std.proofs.Common.{sym, ap, arith, eq-eqb, ne_eqb}
use Rattle.table.specs.declared.Table.{Table}
use Rattle.wire.specs.declared.refusal.Refusal.{Refusal}
use Rattle.reading.specs.Verdict.{Verdict, Accepted, Refused}
use Rattle.reading.specs.Ending.{ending}
use Rattle.reading.specs.Turn.{table_turn}
use Rattle.reading.specs.Reading.{told, table_ends, read_from}

-- the verdict at the table's end
pub ended_by : (b : Table) (at : ℕ) (v : Verdict) → ending b ≡ v → told v b at ≡ table_ends b at
ended_by b at v e = sym (ap (λ (w : Verdict). told w b at) e)

module _ (d : ℕ) (b : Table) (at : ℕ) (s : List ℕ) where
  -- no byte is left
  pub read_end : (n : ℕ) → length s ≡ 0 → read_from n d b at s ≡ table_ends b at
  unfolding read_from
  read_end zero e = refl
  read_end (suc n) e = rw (eq-eqb (length s) 0 e)

  module _ (n : ℕ) (some : 0 < length s) where
    there : length s ≡ 0 → ⊥
    there e = omega arith

    pub read_stop : (refusal : Refusal) → (table_turn d b s).taken.verdict ≡ Refused refusal
        → read_from (suc n) d b at s ≡ told (Refused refusal) b at
    unfolding read_from
    read_stop refusal v = rw (ne_eqb (length s) 0 there, v)

    pub read_go : (table_turn d b s).taken.verdict ≡ Accepted
        → read_from (suc n) d b at s ≡ read_from n d (table_turn d b s).taken.table (at + (table_turn d b s).size) (drop (table_turn d b s).size s)
    unfolding read_from
    read_go v = rw (ne_eqb (length s) 0 there, v)
