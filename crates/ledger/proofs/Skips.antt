-- A skipped release keeps a ledger well formed: the number and the skipped count go up together.
use Rattle.std.specs.Prelude.{ℕ, ◌+◌, ◌≤◌, ◌<◌, ◌≡◌}
use Rattle.std.proofs.Common.{arith}
use Rattle.ledger.specs.declared.Ledger.{Ledger}
use Rattle.ledger.specs.Releases.{last_number, number_at, served_at, skipped_at, job_at, skipped_of}
use Rattle.ledger.specs.WellFormed.{Agrees, LedgerOk}
use Rattle.ledger.specs.Sized.{Sized}
use Rattle.ledger.specs.laws.Ledger.{WasSkipped, skipped_other, skipped_here}
use Rattle.ledger.specs.laws.LedgerKept.{skipped_below, kept}

-- the job is an older release's, and one more was skipped
skipped_agrees : (l m : Ledger) (g : ℕ) → Agrees l g → WasSkipped l m g → Agrees m g
skipped_agrees l m g a w =
    let n : number_at m g ≡ number_at l g + 1 = w.next_number in
    let v : served_at m g ≡ served_at l g = w.served_stays in
    let k : skipped_at m g ≡ skipped_at l g + 1 = w.one_skipped in
    let j : job_at m g ≡ job_at l g = w.job_stays in
    record { job_within = omega (arith, a.job_within); adds_up = omega (arith, a.adds_up) }

module _ (gangs : ℕ) (l : Ledger) (g : ℕ) (s : Sized l) (k : LedgerOk gangs l) (h : g < gangs) (w : gangs ≤ 32)
    (n : number_at l g < last_number) where
  pub skip_raises : WasSkipped l (skipped_of l g) g
  skip_raises = skipped_here l g s (omega arith) n (skipped_below gangs l g k h n)

  pub skipped_ok : LedgerOk gangs (skipped_of l g)
  skipped_ok = kept gangs l (skipped_of l g) g k h (skipped_other l g) (skipped_agrees l (skipped_of l g) g (k.agrees g h) skip_raises)
