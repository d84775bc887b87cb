-- Laws of `Ending`.
use Rattle.std.specs.Prelude.{◌≡◌, true, false}
use Rattle.std.proofs.Common.{eq-eqb, ne_eqb}
use Rattle.table.specs.declared.Table.{Table}
use Rattle.table.specs.Rules.{manned_hold}
use Rattle.wire.specs.declared.refusal.Refusal.TheVariants.{Unfinished}
use Rattle.reading.specs.Verdict.{Accepted, Refused}
use Rattle.reading.specs.Ending.{ending}

module _ (b : Table) where
  pub ends_no_cores : b.sizes.cores ≡ 0 → ending b ≡ Refused Unfinished
  unfolding ending
  ends_no_cores h = rw (eq-eqb b.sizes.cores 0 h)

  module _ (cores : b.sizes.cores ≡ 0 → ⊥) where
    pub ends_no_gang : b.sizes.gangs ≡ 0 → ending b ≡ Refused Unfinished
    unfolding ending
    ends_no_gang h = rw (ne_eqb b.sizes.cores 0 cores, eq-eqb b.sizes.gangs 0 h)

    module _ (gangs : b.sizes.gangs ≡ 0 → ⊥) where
      pub ends_unmanned : manned_hold b ≡ false → ending b ≡ Refused Unfinished
      unfolding ending
      ends_unmanned h = rw (ne_eqb b.sizes.cores 0 cores, ne_eqb b.sizes.gangs 0 gangs, h)

      pub ends_whole : manned_hold b ≡ true → ending b ≡ Accepted
      unfolding ending
      ends_whole h = rw (ne_eqb b.sizes.cores 0 cores, ne_eqb b.sizes.gangs 0 gangs, h)
