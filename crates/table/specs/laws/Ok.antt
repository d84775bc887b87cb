-- The test of a table and what it means: `table_ok` is true exactly of a table that is `TableOk`.
use Rattle.std.specs.Prelude.{ℕ, ◌<◌, Bool, true, ◌&&◌, ◌≡◌}
use Rattle.std.proofs.Common.{arith}
use Rattle.ranges.specs.laws.Logic.{both}
use Rattle.table.specs.declared.Table.{Table}
use Rattle.table.specs.Numbers.{max_gangs, max_threads}
use Rattle.table.specs.Rules.{sizes_hold, gangs_hold, threads_hold, distinct_hold, manned_hold, table_ok}
use Rattle.table.specs.TableOk.{RightSizes, TableOk}
use Rattle.table.specs.laws.Parts.{sizes_gangs, sizes_threads, sizes_ok_lem, ok_sizes, distinct_ok, ok_distinct, manned_ok, ok_manned}
use Rattle.table.specs.laws.Parts.{gangs_used, gangs_unused, make_gangs, threads_used, threads_unused, make_threads}

five : (p q r s t : Bool) → (p && q && r && s && t) ≡ true → (p ≡ true) × (q ≡ true) × (r ≡ true) × (s ≡ true) × (t ≡ true)
five p q r s t e =
    let a = both (p && q && r && s) t e in
    let b = both (p && q && r) s a.0 in
    let c = both (p && q) r b.0 in
    let d = both p q c.0 in
    (d.0, d.1, c.1, b.1, a.1)

pub table_ok_lem : (b : Table) → table_ok b ≡ true → TableOk b
unfolding table_ok
table_ok_lem b e = record {
  sizes = sized;
  priority_low = λ g l. (gangs_used b.priority b.budget b.sizes.gangs parts.1 g l (gang_place_lem g l)).0;
  priority_high = λ g l. (gangs_used b.priority b.budget b.sizes.gangs parts.1 g l (gang_place_lem g l)).1;
  budget_high = λ g l. (gangs_used b.priority b.budget b.sizes.gangs parts.1 g l (gang_place_lem g l)).2;
  priority_zero = λ g l m. (gangs_unused b.priority b.budget b.sizes.gangs parts.1 g l m).0;
  budget_zero = λ g l m. (gangs_unused b.priority b.budget b.sizes.gangs parts.1 g l m).1;
  gang_there = λ t l. (threads_used b.gang b.core b.sizes parts.2 t l (thread_place_lem t l)).0;
  core_there = λ t l. (threads_used b.gang b.core b.sizes parts.2 t l (thread_place_lem t l)).1;
  gang_zero = λ t l m. (threads_unused b.gang b.core b.sizes parts.2 t l m).0;
  core_zero = λ t l m. (threads_unused b.gang b.core b.sizes parts.2 t l m).1;
  distinct = distinct_ok b.priority b.sizes.gangs parts.3;
  manned = manned_ok b.gang b.sizes.gangs b.sizes.threads parts.4;
}
  where
    parts : (sizes_hold b ≡ true) × (gangs_hold b ≡ true) × (threads_hold b ≡ true) × (distinct_hold b ≡ true) × (manned_hold b ≡ true)
    parts = five (sizes_hold b) (gangs_hold b) (threads_hold b) (distinct_hold b) (manned_hold b) e

    sized : RightSizes b.sizes
    sized = sizes_ok_lem b.sizes parts.0

    gang_place_lem : (g : ℕ) → g < b.sizes.gangs → g < max_gangs
    gang_place_lem g l = let r = sizes_gangs sized in omega arith

    thread_place_lem : (t : ℕ) → t < b.sizes.threads → t < max_threads
    thread_place_lem t l = let r = sizes_threads sized in omega arith

pub ok_table : (b : Table) → TableOk b → table_ok b ≡ true
unfolding table_ok
ok_table b o =
    rw (
      ok_sizes b.sizes o.sizes,
      make_gangs b.priority b.budget b.sizes.gangs (λ g l. (o.priority_low g l, o.priority_high g l, o.budget_high g l))
          (λ g l m. (o.priority_zero g l m, o.budget_zero g l m)),
      make_threads b.gang b.core b.sizes (λ t l. (o.gang_there t l, o.core_there t l)) (λ t l m. (o.gang_zero t l m, o.core_zero t l m)),
      ok_distinct b.priority b.sizes.gangs o.distinct,
      ok_manned b.gang b.sizes.gangs b.sizes.threads o.manned,
    )
