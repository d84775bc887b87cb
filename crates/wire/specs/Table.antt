-- Document 01, "Records": a table's records as values.
use Rattle.std.specs.Prelude.{ℕ, List, cond, length, get_or, eqb, leb, ◌≡◌, refl}
use Rattle.wire.specs.declared.table_record.TableRecord.{TableRecord}
use Rattle.wire.specs.declared.table_record.TableRecord.TheVariants.{Cores, Gang, ShortGang, Thread}
use Rattle.wire.specs.NextTableRecord.{NextTableRecord}
use Rattle.wire.specs.NextTableRecord as found
use Rattle.wire.specs.declared.kinds.Stream.TheVariants as stream
use Rattle.wire.specs.Kinds.{kind_cores, kind_gang}
use Rattle.wire.specs.Number.{le32}
use Rattle.wire.specs.Record.{read_first, read_as}

-- the table record of a kind and its payload: "length 3 has no budget"
unfoldable pub table_record_of : ℕ → List ℕ → TableRecord
table_record_of k p =
    cond (eqb k kind_cores) (Cores (get_or p 0 0))
    (cond (eqb k kind_gang) (cond (leb (length p) 1) (ShortGang (get_or p 0 0)) (Gang (get_or p 0 0) (le32 p 1)))
    (Thread (get_or p 0 0) (get_or p 1 0)))

-- the table record at the start of some bytes
abbrev pub table_record_found : ℕ → List ℕ → ℕ → NextTableRecord
table_record_found kind payload next = found.Record (table_record_of kind payload) next

unfoldable pub next_table_record : List ℕ → NextTableRecord
next_table_record s = read_first table_record_found found.Refused stream.Table s

-- it is the reader of its stream by what a kind and a payload mean
pub table_record_reads : (s : List ℕ) → read_as table_record_of stream.Table s ≡ next_table_record s
unfolding next_table_record
table_record_reads s = refl
