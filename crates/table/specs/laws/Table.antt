-- What callers lean on of a well-formed table: there is room for what it holds, and its gangs are in one order.
use Rattle.std.specs.Prelude.{ℕ, ◌<◌, ◌≤◌, true, false, ◌≡◌, List}
use Rattle.table.specs.declared.Table.{Table}
use Rattle.table.specs.Numbers.{max_cores, max_gangs, max_threads}
use Rattle.table.specs.Order.{lineup_of, ahead}
use Rattle.table.specs.laws.Order.{ahead_total}
use Rattle.table.specs.laws.Parts.{sizes_cores, sizes_gangs, sizes_threads}
use Rattle.table.specs.TableOk.{TableOk}

module _ (b : Table) (o : TableOk b) where
  pub cores_room : b.sizes.cores ≤ max_cores
  cores_room = sizes_cores o.sizes

  pub gangs_room : b.sizes.gangs ≤ max_gangs
  gangs_room = sizes_gangs o.sizes

  pub threads_room : b.sizes.threads ≤ max_threads
  threads_room = sizes_threads o.sizes

  -- of two gangs of the table, one is ahead of the other
  pub gangs_total : (state : List ℕ) (g h : ℕ) → g < b.sizes.gangs → h < b.sizes.gangs → (g ≡ h → ⊥)
      → ahead (lineup_of b state) g h ≡ false → ahead (lineup_of b state) h g ≡ true
  gangs_total state g h p q ne = ahead_total (lineup_of b state) g h (λ e. ne (o.distinct g h p q e))
