-- A table that is lent part by part, read as the table that its parts make up.
use Rattle.table.specs.declared.Table.{Table}
use Rattle.table.specs.declared.TableRef.{TableRef}
use Rattle.table.specs.Rules.{table_of}

abbrev pub table_seen : TableRef → Table
table_seen t = table_of t.sizes t.priority.now t.budget.now t.gang.now t.core.now
