-- The test `well_formed` decides the facts `WellFormed`, of a system with as many places as its types say.
use Rattle.std.specs.Prelude.{true, ◌&&◌, ◌≡◌}
use Rattle.ledger.specs.laws.LedgerOk.{ledger_ok_lem, ok_ledger}
use Rattle.ledger.specs.WellFormed.{ledger_ok}
use Rattle.lock.proofs.LockOk.{lock_ok_lem, ok_lock}
use Rattle.lock.specs.LockRules.{lock_ok}
use Rattle.ranges.specs.laws.Logic.{both}
use Rattle.state.specs.Rules.{states_ok, counts_ok}
use Rattle.state.specs.laws.Rules.{states_ok_lem, ok_states, counts_ok_lem, ok_counts}
use Rattle.table.specs.Rules.{table_ok}
use Rattle.table.specs.laws.Ok.{table_ok_lem, ok_table}
use Rattle.system.specs.declared.System.{System}
use Rattle.system.specs.WellFormed.{pins_of, well_formed}
use Rattle.effects.specs.Facts.{Shaped, WellFormed}

-- ---- from the test to the facts

module _ (s : System) (h : Shaped s) (e : well_formed s ≡ true) where
  parts : (table_ok s.table ≡ true) × (states_ok s.table.sizes.threads s.state ≡ true) × (counts_ok s.table.sizes.cores s.kept ≡ true)
      × (ledger_ok s.table.sizes.gangs s.ledger ≡ true) × (lock_ok (pins_of s) s.lock ≡ true)
  unfolding well_formed
  parts =
      let t = table_ok s.table in
      let k = states_ok s.table.sizes.threads s.state in
      let n = counts_ok s.table.sizes.cores s.kept in
      let g = ledger_ok s.table.sizes.gangs s.ledger in
      let a = both (t && k && n && g) (lock_ok (pins_of s) s.lock) e in
      let b = both (t && k && n) g a.0 in
      let c = both (t && k) n b.0 in
      let d = both t k c.0 in
      (d.0, d.1, c.1, b.1, a.1)

  pub well_formed_lem : WellFormed s
  well_formed_lem = record {
    table = table_ok_lem s.table parts.0;
    states = states_ok_lem s.table.sizes.threads s.state h.state_size parts.1;
    counts = counts_ok_lem s.table.sizes.cores s.kept h.kept_size parts.2;
    releases = ledger_ok_lem s.table.sizes.gangs s.ledger h.ledger_sized parts.3;
    lock = lock_ok_lem (pins_of s) s.lock h.masks h.occupant_size parts.4;
  }

-- ---- and back

pub formed_well : (s : System) → WellFormed s → well_formed s ≡ true
unfolding well_formed
formed_well s w = rw (
  ok_table s.table w.table,
  ok_states s.table.sizes.threads s.state w.states,
  ok_counts s.table.sizes.cores s.kept w.counts,
  ok_ledger s.table.sizes.gangs s.ledger w.releases,
  ok_lock (pins_of s) s.lock w.lock,
)
