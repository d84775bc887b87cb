-- A promise on `table_seen t` allows one value of the sizes and of each list that is lent: those of `Table::lent`.
use Rattle.std.specs.Prelude.{◌≡◌}
use Rattle.std.proofs.Common.{sym, ap, ◌∙◌}
use Rattle.table.specs.declared.Table.{Table}
use Rattle.table.specs.declared.TableRef.{TableRef}
use Rattle.table.specs.Seen.{table_seen}

pub one_table_seen : (d : Table) (t u : TableRef) → table_seen t ≡ d → table_seen u ≡ d
    → (t.sizes ≡ u.sizes)
    × (t.priority.now ≡ u.priority.now)
    × (t.budget.now ≡ u.budget.now)
    × (t.gang.now ≡ u.gang.now)
    × (t.core.now ≡ u.core.now)
one_table_seen d t u e f = (
  ap (λ (x : Table). x.sizes) same,
  ap (λ (x : Table). x.priority) same,
  ap (λ (x : Table). x.budget) same,
  ap (λ (x : Table). x.gang) same,
  ap (λ (x : Table). x.core) same,
)
  where
    same : table_seen t ≡ table_seen u
    same = e ∙ sym f
