-- A turn of the loop, and the end, by what the reader of a record, the rules on it and the rules at the end give there.
use Rattle.std.proofs.Common.{ℕ, ◌-◌, ◌+◌, ◌<◌, ◌≤◌, List, length, take, drop, ◌≡◌, refl, sym, ap, ◌∙◌, arith, length-drop, take_all, Result, Ok, Err}
use Rattle.std.specs.Result.{MatchResult, IsErrAnd}
use Rattle.table.specs.declared.Table.{Table}
use Rattle.wire.specs.NextTableRecord.{NextTableRecord}
use Rattle.wire.specs.Question.{WholeRecord}
use Rattle.wire.specs.Table.{next_table_record}
use Rattle.wire.specs.declared.of_record.Next.{Next}
use Rattle.wire.specs.declared.refusal.Refusal.{Refusal}
use Rattle.wire.specs.declared.table_record.TableRecord.{TableRecord}
use Rattle.reading.specs.declared.TableRefused.{TableRefused}
use Rattle.reading.specs.Ending.{ending}
use Rattle.reading.specs.Reading.{told, reading_told, read_of, reading_of}
use Rattle.reading.specs.Taken.{taken_of, record_refused, record_taken}
use Rattle.reading.specs.Turn.{TableTurn, table_turn}
use Rattle.reading.specs.Verdict.{Verdict, Accepted}
use Rattle.reading.specs.laws.Reading.{ended_by}
use Rattle.reading.proofs.Mapped.{was_err, was_ok}
use Rattle.reading.specs.laws.Sofar.{Sofar, ends, turn, read, unread, stops, takes, goes}

-- a refusal at a place, as the reader gives it
abbrev pub refused_at : Refusal → ℕ → TableRefused
refused_at refusal at = record { refusal = refusal; place = at }

-- the part of the bytes that a turn is handed is all that is left
pub whole_rest : (d : ℕ) (s : List ℕ) (b : Table) (at : ℕ) {t : TableTurn} → t ≡ table_turn d b (take (length s - at) (drop at s))
    → t ≡ table_turn d b (drop at s)
whole_rest d s b at e = e ∙ ap (table_turn d b) (take_all (length s - at) (drop at s) (simp length-drop (omega arith)))

module _ {d : ℕ} {s : List ℕ} {b : Table} {at : ℕ} (f : Sofar d s b at) where
  module _ (l : at < length s) {r : NextTableRecord} (found : r ≡ next_table_record (take (length s - at) (drop at s))) where
    -- no record stands there
    pub unread_told : {x : TableRefused} {refusal : Refusal} → r ≡ Err refusal → x ≡ refused_at refusal at → reading_told s (Err x) ≡ reading_of d s
    unread_told {refusal = refusal} w e =
        rw e (stops d s b at f l (turn 0 (record_refused b refusal)) (whole_rest d s b at (unread d b _ refusal (rw w at (sym found)))) refusal refl)

    -- n stands there, and the rules give v and leave the table so
    module _ {n : Next TableRecord} (its : r ≡ Ok n) {more : Table} {v : Verdict} (taken : taken_of more v ≡ record_taken d b n.found) where
      turned : turn n.next (taken_of more v) ≡ table_turn d b (drop at s)
      turned = whole_rest d s b at (read d b _ n.found n.next (taken_of more v) (rw its at (sym found)) taken)

      pub refused_told : {x : TableRefused} {refusal : Refusal} → v ≡ Err refusal → x ≡ refused_at refusal at
          → reading_told s (Err x) ≡ reading_of d s
      refused_told {refusal = refusal} w e = rw e (stops d s b at f l (turn n.next (taken_of more v)) turned refusal w)

      module _ (fits : v ≡ Accepted) where
        pub inside : WholeRecord (drop at s) 0 n.next
        inside = takes d s b at f l (turn n.next (taken_of more v)) turned fits

        pub next : Sofar d s more (at + n.next)
        next = goes d s b at f l (turn n.next (taken_of more v)) turned fits

  -- the end, where v is the verdict on it
  module _ (l : length s ≤ at) {v : Verdict} (end : v ≡ ending b) where
    ended : told v b (length s) ≡ reading_of d s
    ended =
        let whole : at ≡ length s = omega (arith, f.inside) in
        ap (told v b) (sym whole) ∙ ended_by b at v (sym end) ∙ ends d s b at f l

    pub ended_told : {x : TableRefused} {refusal : Refusal} → v ≡ Err refusal → x ≡ refused_at refusal (length s)
        → reading_told s (Err x) ≡ reading_of d s
    ended_told w e = rw e (rw w at ended)

    pub whole_told : v ≡ Accepted → reading_told s (Ok b) ≡ reading_of d s
    whole_told w = rw w at ended

  -- the end, where m is what `map_err` makes of the verdict on it
  pub finished : length s ≤ at → {v : Verdict} → v ≡ ending b → (m : Result Unit TableRefused) (Q : Refusal → TableRefused → Type 0)
      → MatchResult v (λ x. m ≡ Ok x) (λ e. IsErrAnd m (Q e)) → ((e : Refusal) (x : TableRefused) → Q e x → x ≡ refused_at e (length s))
      → reading_told s (read_of b m) ≡ reading_of d s
  finished l end (Ok x) Q h made = whole_told l end (was_ok _ _ Q x h refl)
  finished l end (Err x) Q h made = let w = was_err _ _ Q x h refl in ended_told l end w.was (made _ _ w.made)
