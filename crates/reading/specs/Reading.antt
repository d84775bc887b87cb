-- Document 01: what reading a table's bytes comes to.
use Rattle.std.specs.Prelude.{ℕ, zero, suc, ◌+◌, List, cond, eqb, length, drop, Result, Ok, Err}
use Rattle.table.specs.declared.Table.{Table}
use Rattle.table.specs.Rules.{empty_table}
use Rattle.wire.specs.Refusal.{number_of}
use Rattle.reading.specs.Verdict.{Verdict, Accepted, Refused}
use Rattle.reading.specs.declared.TableRefused.{TableRefused}
use Rattle.reading.specs.Ending.{ending}
use Rattle.reading.specs.Turn.{table_turn}

-- What reading comes to. Accepted: the table, 0 and the length of the bytes.
-- Refused: the empty table, the refusal's number and the place of the refused record or, for 8, the length of the bytes.
pub record Reading : Type 0 where
  pub table : Table
  pub number : ℕ
  pub place : ℕ

-- "length 3 has no budget and means 1,000,000"
abbrev pub default_budget : ℕ
default_budget = 1000000

-- "A refused table gives the number, the record's place (for 8, the table's length) and the empty system"
abbrev pub told : Verdict → Table → ℕ → Reading
told Accepted b at = record { table = b; number = 0; place = at }
told (Refused refusal) b at = record { table = empty_table; number = number_of refusal; place = at }

-- what the reader gives of these bytes, told so
abbrev pub reading_told : List ℕ → Result Table TableRefused → Reading
reading_told s (Ok b) = told Accepted b (length s)
reading_told s (Err e) = told (Refused e.refusal) empty_table e.place

-- what a reader gives that reads into a table: b is the table then
abbrev pub read_of : Table → Result Unit TableRefused → Result Table TableRefused
read_of b (Ok done) = Ok b
read_of b (Err e) = Err e

-- the reading where a verdict is refused, and where it is accepted
abbrev pub on_verdict : Verdict → Reading → Reading → Reading
on_verdict (Refused refusal) stop go = stop
on_verdict Accepted stop go = go

-- "with none left a table or batch ends"
abbrev pub table_ends : Table → ℕ → Reading
table_ends b at = told (ending b) b at

-- Reading on at a place, with the bytes left there, in at most n turns
unfoldable pub read_from : ℕ → ℕ → Table → ℕ → List ℕ → Reading
read_from zero d b at s = table_ends b at
read_from (suc n) d b at s =
    cond (eqb (length s) 0) (table_ends b at)
    (on_verdict (table_turn d b s).taken.verdict (told (table_turn d b s).taken.verdict b at)
    (read_from n d (table_turn d b s).taken.table (at + (table_turn d b s).size) (drop (table_turn d b s).size s)))

-- the whole: no table has more records than bytes
abbrev pub reading_of : ℕ → List ℕ → Reading
reading_of d s = read_from (length s) d empty_table 0 s
