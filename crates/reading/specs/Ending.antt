-- Document 01, refusal 8: "table ends without CORES, without a gang, or with a gang that has no thread".
use Rattle.std.specs.Prelude.{cond, eqb}
use Rattle.table.specs.declared.Table.{Table}
use Rattle.table.specs.Rules.{manned_hold}
use Rattle.wire.specs.declared.refusal.Refusal.TheVariants.{Unfinished}
use Rattle.reading.specs.Verdict.{Verdict, Accepted, Refused}

unfoldable pub ending : Table → Verdict
ending b =
    cond (eqb b.sizes.cores 0) (Refused Unfinished)
    (cond (eqb b.sizes.gangs 0) (Refused Unfinished) (cond (manned_hold b) Accepted (Refused Unfinished)))
