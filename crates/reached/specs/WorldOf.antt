-- What serving goes by in a system: the order of its gangs, each thread's gang and each core's first ready thread. By the laws of the order alone.
use Rattle.std.specs.Prelude.{ℕ, ◌<◌, List, ◌≡◌}
use Rattle.std.proofs.Math.Decide.{dec_lt}
use Rattle.std.proofs.Common.{arith}
use Rattle.std.proofs.Math.ListN.{get_or-eq_default}
use Rattle.lock.specs.World.{Order, World}
use Rattle.table.specs.declared.Table.{Table}
use Rattle.table.specs.Numbers.{max_threads}
use Rattle.table.specs.Order.{gang_of, lineup_of, ahead}
use Rattle.table.specs.laws.Order.{ahead_irrefl, ahead_trans}
use Rattle.table.specs.laws.Table.{gangs_total}
use Rattle.system.specs.declared.System.{System}
use Rattle.system.specs.System.{gang_in, first_in, ahead_in}
use Rattle.reached.specs.Reached.{Accepted}
use Rattle.reached.specs.Formed.{accepted_table_ok, accepted_gangs}

-- of two gangs of an accepted table exactly one is ahead of the other, whatever the threads' states
pub gangs_order : (b : Table) (state : List ℕ) → Accepted b → Order b.sizes.gangs (ahead (lineup_of b state))
gangs_order b state a = record {
  irrefl = ahead_irrefl (lineup_of b state);
  trans = ahead_trans (lineup_of b state);
  total = gangs_total b (accepted_table_ok b a) state;
}

module _ (b : Table) (a : Accepted b) where
  -- every number is of a gang: one that is no thread's, an unused place or one past the end, is of gang 0
  pub gang_real : (t : ℕ) → gang_of b.gang t < b.sizes.gangs
  gang_real t = go (dec_lt t b.sizes.threads) (dec_lt t max_threads)
    where
      some_gang : gang_of b.gang t ≡ 0 → gang_of b.gang t < b.sizes.gangs
      some_gang e = let l = (accepted_gangs b a).0 in omega arith

      go : Dec (t < b.sizes.threads) → Dec (t < max_threads) → gang_of b.gang t < b.sizes.gangs
      go (yes l) m = (accepted_table_ok b a).gang_there t l
      go (no l) (yes m) = some_gang ((accepted_table_ok b a).gang_zero t (omega arith) m)
      go (no l) (no m) = some_gang (get_or-eq_default b.gang 0 (let e = a.shaped.gang_size in omega arith))

  -- and none of them has the number of none
  pub gang_not_none : (t : ℕ) → gang_of b.gang t ≡ 255 → ⊥
  gang_not_none t e = let l = gang_real t in let m = (accepted_gangs b a).1 in omega arith

abbrev pub world_of : (s : System) → Accepted s.table → World
world_of s a = record {
  higher = ahead_in s;
  gang = gang_in s;
  first = first_in s;
  gangs = s.table.sizes.gangs;
  strict = gangs_order s.table s.state a;
  real = gang_real s.table a;
  a_gang = gang_not_none s.table a;
}
