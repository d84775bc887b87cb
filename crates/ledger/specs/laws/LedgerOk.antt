-- The test of a ledger and what it means: `ledger_ok` is true exactly of a ledger that is `LedgerOk`.
use Rattle.std.specs.Prelude.{ℕ, ◌+◌, ◌≤◌, ◌≡◌, true}
use Rattle.std.proofs.Common.{arith, le-leb, eq-eqb, leb-true, eqb-true}
use Rattle.std.proofs.Math.ListN.{get_or-eq_default}
use Rattle.ranges.specs.laws.Logic.{both}
use Rattle.ranges.specs.laws.Places.{every_used, every_unused, make_places}
use Rattle.ledger.specs.declared.Ledger.{Ledger}
use Rattle.ledger.specs.Sized.{Sized}
use Rattle.ledger.specs.Releases.{number_at, served_at, skipped_at, job_at}
use Rattle.ledger.specs.WellFormed.{counts_agree, all_zero, place_ok, ledger_place, ledger_ok, Agrees, Unused, LedgerOk}

-- ---- one place, by its two tests

agree : (l : Ledger) (g : ℕ) → counts_agree (number_at l g) (served_at l g) (skipped_at l g) (job_at l g) ≡ true → Agrees l g
unfolding counts_agree
agree l g e =
    let b = both _ _ e in
    record { job_within = leb-true _ _ b.0; adds_up = eqb-true _ _ b.1 }

zero : (l : Ledger) (g : ℕ) → all_zero (number_at l g) (served_at l g) (skipped_at l g) (job_at l g) ≡ true → Unused l g
unfolding all_zero
zero l g e =
    let b = both _ _ e in
    let d = both _ _ b.0 in
    let f = both _ _ d.0 in
    record {
      no_number = eqb-true _ _ f.0;
      no_served = eqb-true _ _ f.1;
      no_skipped = eqb-true _ _ d.1;
      no_job = eqb-true _ _ b.1;
    }

-- past the 32 places every number is 0
beyond : (l : Ledger) → Sized l → (g : ℕ) → 32 ≤ g → Unused l g
beyond l s g h = record {
  no_number = get_or-eq_default l.number 0 (let e = s.number_size in omega arith);
  no_served = get_or-eq_default l.served 0 (let e = s.served_size in omega arith);
  no_skipped = get_or-eq_default l.skipped 0 (let e = s.skipped_size in omega arith);
  no_job = get_or-eq_default l.job 0 (let e = s.job_size in omega arith);
}

-- numbers that are all 0 agree
pub zeros_agree : (l : Ledger) (g : ℕ) → Unused l g → Agrees l g
zeros_agree l g u =
    record { job_within = rw (u.no_job, u.no_number) (omega arith); adds_up = rw (u.no_served, u.no_skipped, u.no_number) }

-- ---- the whole ledger

pub ledger_ok_lem : (gangs : ℕ) (l : Ledger) → Sized l → ledger_ok gangs l ≡ true → LedgerOk gangs l
unfolding ledger_ok ledger_place place_ok
ledger_ok_lem gangs l s e = record {
  agrees = every_used 32 gangs _ _ (Agrees l) (Unused l) (beyond l s) e (agree l) (zeros_agree l);
  unused = every_unused 32 gangs _ _ (Agrees l) (Unused l) (beyond l s) e (zero l);
}

pub ok_ledger : (gangs : ℕ) (l : Ledger) → LedgerOk gangs l → ledger_ok gangs l ≡ true
unfolding ledger_ok ledger_place place_ok counts_agree all_zero
ok_ledger gangs l k =
    make_places 32 gangs _ _
    (λ g h.
    let a = k.agrees g h in
    rw (le-leb (job_at l g) (number_at l g) a.job_within, eq-eqb (served_at l g + skipped_at l g) (number_at l g) a.adds_up))
    (λ g h q.
    let u = k.unused g h in
    rw (u.no_number, u.no_served, u.no_skipped, u.no_job))
