-- Each record keeps a table under construction: an accepted one by the tests that it passed, a refused one as it came.
use Rattle.std.specs.Prelude.{ℕ, ◌+◌, ◌<◌, ◌≤◌, Bool, true, false, cond, ◌≡◌, refl, eqb, leb, length, set}
use Rattle.std.proofs.Common.{sym, ◌∙◌, arith, get_or-set_same, get_or-set_other, eqb-true, leb-false}
use Rattle.std.proofs.Math.Decide.{ℕ_discrete}
use Rattle.table.specs.declared.Table.{Table}
use Rattle.table.specs.Numbers.{max_cores, max_gangs, max_threads}
use Rattle.table.specs.Order.{priority_of}
use Rattle.table.specs.Occurs.{occurs}
use Rattle.table.specs.laws.Occurs.{not_occurs}
use Rattle.wire.specs.declared.refusal.Refusal.TheVariants.{NotCoresFirst, TooMany, OutOfRange, PriorityTaken}
use Rattle.wire.specs.declared.table_record.TableRecord.{TableRecord}
use Rattle.wire.specs.declared.table_record.TableRecord.TheVariants as put
use Rattle.reading.specs.laws.Column.{column_more, column_weaker}
use Rattle.reading.specs.laws.Fits.{in_range, gang_fits_lem, thread_fits_lem}
use Rattle.reading.specs.Building.{Priority, Budget, Below, Building}
use Rattle.reading.specs.Taken.{record_refused, record_accepted, with_cores, with_gang, with_thread, count_fits, gang_fits, thread_fits, cores_taken}
use Rattle.reading.specs.Taken.{gang_taken, thread_taken, record_taken}

-- ---- the table with one record more

module _ (b : Table) (k : Building b) where
  -- before CORES no thread has a core
  with_cores_lem : (n : ℕ) → b.sizes.cores ≡ 0 → n ≤ max_cores → Building (with_cores b n)
  with_cores_lem n none l = record {
    cores_room = l;
    gangs_room = k.gangs_room;
    threads_room = k.threads_room;
    priorities = k.priorities;
    budgets = k.budgets;
    gang_column = k.gang_column;
    core_column = column_weaker (Below b.sizes.cores) (Below n) max_threads b.sizes.threads b.core (λ x q. omega arith) k.core_column;
    distinct = k.distinct;
  }

  module _ (p m : ℕ) (room : b.sizes.gangs < max_gangs) (free : occurs b.priority b.sizes.gangs p ≡ false) where
    new_distinct : (g h : ℕ) → g < b.sizes.gangs + 1 → h < b.sizes.gangs + 1
        → priority_of (set b.priority b.sizes.gangs p) g ≡ priority_of (set b.priority b.sizes.gangs p) h → g ≡ h
    new_distinct g h lg lh e = go (ℕ_discrete g b.sizes.gangs) (ℕ_discrete h b.sizes.gangs)
      where
        inside : b.sizes.gangs < length b.priority
        inside = let r = k.priorities.places in omega arith

        new : {i : ℕ} → i ≡ b.sizes.gangs → priority_of (set b.priority b.sizes.gangs p) i ≡ p
        new i = rw i (get_or-set_same b.priority b.sizes.gangs p 0 inside)

        old : (i : ℕ) → (i ≡ b.sizes.gangs → ⊥) → priority_of (set b.priority b.sizes.gangs p) i ≡ priority_of b.priority i
        old i ne = get_or-set_other b.priority b.sizes.gangs i p 0 ne

        alone : (i : ℕ) → i < b.sizes.gangs → priority_of b.priority i ≡ p → ⊥
        alone = not_occurs b.priority b.sizes.gangs p free

        go : Dec (g ≡ b.sizes.gangs) → Dec (h ≡ b.sizes.gangs) → g ≡ h
        go (yes x) (yes y) = x ∙ sym y
        go (yes x) (no y) = absurd (alone h (omega arith) (sym (old h y) ∙ sym e ∙ new x))
        go (no x) (yes y) = absurd (alone g (omega arith) (sym (old g x) ∙ e ∙ new y))
        go (no x) (no y) = k.distinct g h (omega arith) (omega arith) (sym (old g x) ∙ e ∙ old h y)

    with_gang_lem : gang_fits p m ≡ true → Building (with_gang b p m)
    with_gang_lem f = record {
      cores_room = k.cores_room;
      gangs_room = omega arith;
      threads_room = k.threads_room;
      priorities = column_more Priority max_gangs b.sizes.gangs b.priority p room (gang_fits_lem p m f).0 k.priorities;
      budgets = column_more Budget max_gangs b.sizes.gangs b.budget m room (gang_fits_lem p m f).1 k.budgets;
      gang_column =
          column_weaker (Below b.sizes.gangs) (Below (b.sizes.gangs + 1)) max_threads b.sizes.threads b.gang (λ x q. omega arith)
          k.gang_column;
      core_column = k.core_column;
      distinct = new_distinct;
    }

  with_thread_lem : (g c : ℕ) → b.sizes.threads < max_threads → thread_fits g b.sizes.gangs c b.sizes.cores ≡ true → Building (with_thread b g c)
  with_thread_lem g c room f =
      let w = thread_fits_lem g b.sizes.gangs c b.sizes.cores f in
      record {
        cores_room = k.cores_room;
        gangs_room = k.gangs_room;
        threads_room = omega arith;
        priorities = k.priorities;
        budgets = k.budgets;
        gang_column = column_more (Below b.sizes.gangs) max_threads b.sizes.threads b.gang g room w.0 k.gang_column;
        core_column = column_more (Below b.sizes.cores) max_threads b.sizes.threads b.core c room w.1 k.core_column;
        distinct = k.distinct;
      }

-- ---- by the tests of each kind of record

module _ (b : Table) (k : Building b) where
  cores_kept : (n : ℕ) → Building (cores_taken b n).table
  unfolding cores_taken
  cores_kept n = go (eqb b.sizes.cores 0) refl (count_fits n) refl
    where
      go : (x : Bool) → eqb b.sizes.cores 0 ≡ x → (y : Bool) → count_fits n ≡ y
          → Building (cond x (cond y (record_accepted (with_cores b n)) (record_refused b OutOfRange)) (record_refused b NotCoresFirst)).table
      go false ex y ey = k
      go true ex false ey = k
      go true ex true ey = with_cores_lem b k n (eqb-true b.sizes.cores 0 ex) (in_range n max_cores ey).1

  gang_kept : (p m : ℕ) → Building (gang_taken b p m).table
  unfolding gang_taken
  gang_kept p m =
      go (eqb b.sizes.cores 0) (leb max_gangs b.sizes.gangs) refl (gang_fits p m) refl (occurs b.priority b.sizes.gangs p) refl
    where
      go : (x y : Bool) → leb max_gangs b.sizes.gangs ≡ y → (z : Bool) → gang_fits p m ≡ z
          → (t : Bool) → occurs b.priority b.sizes.gangs p ≡ t
          → Building (cond x (record_refused b NotCoresFirst) (cond y (record_refused b TooMany)
          (cond z (cond t (record_refused b PriorityTaken) (record_accepted (with_gang b p m))) (record_refused b OutOfRange)))).table
      go true y ey z ez t et = k
      go false true ey z ez t et = k
      go false false ey false ez t et = k
      go false false ey true ez true et = k
      go false false ey true ez false et = with_gang_lem b k p m (leb-false max_gangs b.sizes.gangs ey) et ez

  thread_kept : (g c : ℕ) → Building (thread_taken b g c).table
  unfolding thread_taken
  thread_kept g c = go (eqb b.sizes.cores 0) (leb max_threads b.sizes.threads) refl (thread_fits g b.sizes.gangs c b.sizes.cores) refl
    where
      go : (x y : Bool) → leb max_threads b.sizes.threads ≡ y → (z : Bool) → thread_fits g b.sizes.gangs c b.sizes.cores ≡ z
          → Building (cond x (record_refused b NotCoresFirst) (cond y (record_refused b TooMany)
          (cond z (record_accepted (with_thread b g c)) (record_refused b OutOfRange)))).table
      go true y ey z ez = k
      go false true ey z ez = k
      go false false ey false ez = k
      go false false ey true ez = with_thread_lem b k g c (leb-false max_threads b.sizes.threads ey) ez

  pub taken_kept : (d : ℕ) (one : TableRecord) → Building (record_taken d b one).table
  taken_kept d (put.Cores n) = cores_kept n
  taken_kept d (put.Gang p m) = gang_kept p m
  taken_kept d (put.ShortGang p) = gang_kept p d
  taken_kept d (put.Thread g c) = thread_kept g c
