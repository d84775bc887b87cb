-- What may be relied on of every reading: an accepted table is well formed, a refused one empty, and the number and the place are document 01's.
use Rattle.std.specs.Prelude.{ℕ, zero, suc, ◌+◌, ◌≤◌, ◌≡◌, refl, Bool, true, false, List, eqb, length, drop, Ok}
use Rattle.std.proofs.Common.{arith, length-drop, eqb-true}
use Rattle.std.proofs.lemmas.Bool.{eqb-false}
use Rattle.table.specs.declared.Table.{Table}
use Rattle.table.specs.Rules.{empty_table, manned_hold, table_ok}
use Rattle.wire.specs.Question.{WholeRecord}
use Rattle.wire.specs.Refusal.{number_of}
use Rattle.wire.specs.laws.Refusal.{some_number}
use Rattle.wire.specs.declared.refusal.Refusal.{Refusal}
use Rattle.wire.specs.declared.refusal.Refusal.TheVariants.{Unfinished}
use Rattle.wire.specs.NextTableRecord.{NextTableRecord}
use Rattle.wire.specs.NextTableRecord as found
use Rattle.wire.specs.Table.{next_table_record}
use Rattle.reading.specs.Verdict.{Verdict, Accepted, Refused}
use Rattle.reading.specs.Ending.{ending}
use Rattle.reading.specs.laws.Ending.{ends_no_cores, ends_no_gang, ends_unmanned, ends_whole}
use Rattle.reading.specs.Turn.{table_turn_with, table_turn}
use Rattle.reading.specs.laws.TableTurn.{turn_whole}
use Rattle.reading.specs.Reading.{Reading, told, table_ends, read_from, reading_of}
use Rattle.reading.specs.laws.Reading.{read_end, read_stop, read_go}
use Rattle.reading.specs.Building.{Building}
use Rattle.reading.specs.laws.Building.{building_empty, building_done}
use Rattle.reading.specs.laws.BuildingKept.{taken_kept}
use Rattle.reading.specs.laws.Known.{turn_known}

-- a reading of `size` bytes
pub record Sound (size : ℕ) (r : Reading) : Type 0 where
  -- accepted
  pub well_formed_lem : r.number ≡ 0 → table_ok r.table ≡ true
  pub built : r.number ≡ 0 → Building r.table
  pub filled : r.number ≡ 0 → 1 ≤ r.table.sizes.cores
  pub whole : r.number ≡ 0 → r.place ≡ size
  -- refused: "the number, the record's place (for 8, the table's length) and the empty system"
  pub empty : (r.number ≡ 0 → ⊥) → r.table ≡ empty_table
  pub known : r.number ≤ 8
  pub inside : r.place ≤ size
  pub at_end : r.number ≡ 8 → r.place ≡ size

-- a refused record
sound_refused : (b : Table) (size at : ℕ) (refusal : Refusal) → number_of refusal ≤ 7 → at ≤ size → Sound size (told (Refused refusal) b at)
sound_refused b size at refusal l m =
    let n = some_number refusal in
    record {
      well_formed_lem = λ e. absurd (omega arith);
      built = λ e. absurd (omega arith);
      filled = λ e. absurd (omega arith);
      whole = λ e. absurd (omega arith);
      empty = λ e. refl;
      known = omega arith;
      inside = m;
      at_end = λ e. absurd (omega arith);
    }

-- the table's end
module _ (b : Table) (size : ℕ) where
  unfinished : ending b ≡ Refused Unfinished → Sound size (table_ends b size)
  unfinished e =
      rw e
      (record {
        well_formed_lem = λ n. absurd (omega arith);
        built = λ n. absurd (omega arith);
        filled = λ n. absurd (omega arith);
        whole = λ n. refl;
        empty = λ n. refl;
        known = omega arith;
        inside = omega arith;
        at_end = λ n. refl;
      })

  sound_accepted : Building b → 1 ≤ b.sizes.cores → table_ok b ≡ true → ending b ≡ Accepted → Sound size (table_ends b size)
  sound_accepted k l ok e =
      rw e
      (record {
        well_formed_lem = λ n. ok;
        built = λ n. k;
        filled = λ n. l;
        whole = λ n. refl;
        empty = λ n. absurd (n refl);
        known = omega arith;
        inside = omega arith;
        at_end = λ n. refl;
      })

  at_its_end : Building b → Sound size (table_ends b size)
  at_its_end k = go (eqb b.sizes.cores 0) refl (eqb b.sizes.gangs 0) refl (manned_hold b) refl
    where
      go : (x : Bool) → eqb b.sizes.cores 0 ≡ x → (y : Bool) → eqb b.sizes.gangs 0 ≡ y → (z : Bool) → manned_hold b ≡ z
          → Sound size (table_ends b size)
      go true ex y ey z ez = unfinished (ends_no_cores b (eqb-true b.sizes.cores 0 ex))
      go false ex true ey z ez = unfinished (ends_no_gang b (eqb-false b.sizes.cores 0 ex) (eqb-true b.sizes.gangs 0 ey))
      go false ex false ey false ez = unfinished (ends_unmanned b (eqb-false b.sizes.cores 0 ex) (eqb-false b.sizes.gangs 0 ey) ez)
      go false ex false ey true ez =
          let c : b.sizes.cores ≡ 0 → ⊥ = eqb-false b.sizes.cores 0 ex in
          let g : b.sizes.gangs ≡ 0 → ⊥ = eqb-false b.sizes.gangs 0 ey in
          sound_accepted k (omega arith) (building_done b k (omega arith) (omega arith) ez) (ends_whole b c g ez)

-- a turn keeps a table under construction
turn_kept : (d : ℕ) (b : Table) (s : List ℕ) → Building b → Building (table_turn d b s).taken.table
unfolding table_turn
turn_kept d b s k = go (next_table_record s)
  where
    go : (f : NextTableRecord) → Building (table_turn_with d b f).taken.table
    go (Ok one) = taken_kept b k d one.found
    go (found.Refused refusal) = k

-- reading on at a place, in n turns
abbrev SoundIn : ℕ → ℕ → ℕ → Type 0
SoundIn n d size = (b : Table) (at : ℕ) (s : List ℕ) → Building b → size ≡ at + length s → length s ≤ n → Sound size (read_from n d b at s)

none_left : (n d size : ℕ) (b : Table) (at : ℕ) (s : List ℕ) → Building b → size ≡ at + length s → length s ≡ 0 → Sound size (read_from n d b at s)
none_left n d size b at s k e z =
    let w : at ≡ size = omega arith in
    rw (read_end d b at s n z, w) (at_its_end b size k)

one_more : (n d size : ℕ) → SoundIn n d size → SoundIn (suc n) d size
one_more n d size rest b at s k e l = go (eqb (length s) 0) refl (table_turn d b s).taken.verdict refl
  where
    go : (x : Bool) → eqb (length s) 0 ≡ x → (v : Verdict) → (table_turn d b s).taken.verdict ≡ v → Sound size (read_from (suc n) d b at s)
    go true ex v ev = none_left (suc n) d size b at s k e (eqb-true (length s) 0 ex)
    go false ex (Refused refusal) ev =
        let z : length s ≡ 0 → ⊥ = eqb-false (length s) 0 ex in
        let m : number_of refusal ≤ 7 = rw ev at (turn_known d b s) in
        rw (read_stop d b at s n (omega arith) refusal ev) (sound_refused b size at refusal m (omega arith))
    go false ex Accepted ev =
        let z : length s ≡ 0 → ⊥ = eqb-false (length s) 0 ex in
        let w : WholeRecord s 0 (table_turn d b s).size = turn_whole d b s ev in
        rw (read_go d b at s n (omega arith) ev)
        (rest (table_turn d b s).taken.table (at + (table_turn d b s).size) (drop (table_turn d b s).size s) (turn_kept d b s k)
        (simp length-drop (omega arith))
        (simp length-drop (omega arith)))

sound_in : (n d size : ℕ) → SoundIn n d size
sound_in zero d size = λ b at s k e l. none_left zero d size b at s k e (omega arith)
sound_in (suc n) d size = one_more n d size (sound_in n d size)

module _ (d : ℕ) (s : List ℕ) where
  pub sound : Sound (length s) (reading_of d s)
  sound = sound_in (length s) d (length s) empty_table 0 s building_empty (omega arith) (omega arith)

  -- an accepted table is well formed, whatever a short GANG means
  pub accepted_ok : (reading_of d s).number ≡ 0 → table_ok (reading_of d s).table ≡ true
  accepted_ok = sound.well_formed_lem

  -- "the empty system, with no cores, gangs or threads"
  pub refused_empty : ((reading_of d s).number ≡ 0 → ⊥) → (reading_of d s).table ≡ empty_table
  refused_empty = sound.empty

  -- 0, or one of 1 to 8
  pub number_known : (reading_of d s).number ≤ 8
  number_known = sound.known
