-- What reading a table keeps from record to record: reading on from where it stands gives the whole reading.
use Rattle.std.specs.Prelude.{ℕ, zero, suc, ◌+◌, ◌-◌, ◌≤◌, ◌<◌, ◌≡◌, refl, List, length, drop}
use Rattle.std.proofs.Common.{sym, ap, ◌∙◌, arith, length-drop, drop-drop}
use Rattle.table.specs.declared.Table.{Table}
use Rattle.table.specs.Rules.{empty_table}
use Rattle.wire.specs.Question.{WholeRecord}
use Rattle.wire.specs.Table.{next_table_record}
use Rattle.wire.specs.declared.refusal.Refusal.{Refusal}
use Rattle.wire.specs.declared.table_record.TableRecord.{TableRecord}
use Rattle.wire.specs.NextTableRecord as found
use Rattle.reading.specs.Verdict.{Verdict, Accepted, Refused}
use Rattle.reading.specs.Taken.{Taken, record_refused, record_taken}
use Rattle.reading.specs.Turn.{TableTurn, table_turn_with, table_turn}
use Rattle.reading.specs.laws.TableTurn.{turn_whole}
use Rattle.reading.specs.Reading.{told, table_ends, read_from, reading_of}
use Rattle.reading.specs.laws.Reading.{read_end, read_stop, read_go}

-- b is the table that the bytes before the place at give, and there are turns enough for those after it
pub record Sofar (d : ℕ) (s : List ℕ) (b : Table) (at : ℕ) : Type 0 where
  pub turns : ℕ
  pub inside : at ≤ length s
  pub enough : length s - at ≤ turns
  pub rest : reading_of d s ≡ read_from turns d b at (drop at s)

-- at first
pub start : (d : ℕ) (s : List ℕ) → Sofar d s empty_table 0
start d s = record {
  turns = length s;
  inside = omega arith;
  enough = omega arith;
  rest = refl;
}

-- at the end
pub ends : (d : ℕ) (s : List ℕ) (b : Table) (at : ℕ) → Sofar d s b at → length s ≤ at → table_ends b at ≡ reading_of d s
ends d s b at f l = sym (f.rest ∙ read_end d b at (drop at s) f.turns (simp length-drop (omega arith)))

-- ---- the turn that what the record question finds makes up

abbrev pub turn : ℕ → Taken → TableTurn
turn n t = record { taken = t; size = n }

module _ (d : ℕ) (b : Table) (s : List ℕ) where
  pub read : (one : TableRecord) (n : ℕ) (t : Taken) → next_table_record s ≡ found.Record one n → t ≡ record_taken d b one
      → turn n t ≡ table_turn d b s
  unfolding table_turn
  read one n t f e = ap (turn n) e ∙ sym (ap (table_turn_with d b) f)

  pub unread : (refusal : Refusal) → next_table_record s ≡ found.Refused refusal → turn 0 (record_refused b refusal) ≡ table_turn d b s
  unfolding table_turn
  unread refusal f = sym (ap (table_turn_with d b) f)

-- a turn on the part from the place on
module _ (d : ℕ) (s : List ℕ) (b : Table) (at : ℕ) (f : Sofar d s b at) (l : at < length s) (t : TableTurn)
    (whole : t ≡ table_turn d b (drop at s)) where
  some : 0 < length (drop at s)
  some = simp length-drop (omega arith)

  its : {v : Verdict} → t.taken.verdict ≡ v → (table_turn d b (drop at s)).taken.verdict ≡ v
  its v = sym (ap (λ (x : TableTurn). x.taken.verdict) whole) ∙ v

  pub stops : (refusal : Refusal) → t.taken.verdict ≡ Refused refusal → told (Refused refusal) b at ≡ reading_of d s
  stops refusal v = by f.turns refl
    where
      by : (n : ℕ) → f.turns ≡ n → told (Refused refusal) b at ≡ reading_of d s
      by zero z = absurd (omega (arith, f.enough))
      by (suc n) z = sym (f.rest ∙ rw z (read_stop d b at (drop at s) n some refusal (its v)))

  pub takes : t.taken.verdict ≡ Accepted → WholeRecord (drop at s) 0 t.size
  takes v = rw whole (turn_whole d b (drop at s) (its v))

  pub goes : t.taken.verdict ≡ Accepted → Sofar d s t.taken.table (at + t.size)
  goes v = by f.turns refl
    where
      by : (n : ℕ) → f.turns ≡ n → Sofar d s t.taken.table (at + t.size)
      by zero z = absurd (omega (arith, f.enough))
      by (suc n) z = record {
        turns = n;
        inside = omega (arith, (takes v).inside, length-drop at s);
        enough = omega (arith, f.enough, (takes v).header);
        rest = f.rest ∙ rw (z, read_go d b at (drop at s) n some (its v), drop-drop, ← whole);
      }
