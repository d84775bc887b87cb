-- What a served and a skipped release change, and what they leave alone.
use Rattle.std.specs.Prelude.{ℕ, ◌≡◌, length}
use Rattle.ledger.specs.declared.Ledger.{Ledger}
use Rattle.ledger.specs.Releases.{number_at, served_at, skipped_at, job_at}

-- ---- a ledger has 32 places in each of its lists, and keeps them

pub record Sized (l : Ledger) : Type 0 where
  pub number_size : length l.number ≡ 32
  pub served_size : length l.served ≡ 32
  pub skipped_size : length l.skipped ≡ 32
  pub job_size : length l.job ≡ 32

-- ---- every other gang's numbers stay

-- the two ledgers have the same numbers for gang d
pub record SameAt (l m : Ledger) (d : ℕ) : Type 0 where
  pub same_number : number_at m d ≡ number_at l d
  pub same_served : served_at m d ≡ served_at l d
  pub same_skipped : skipped_at m d ≡ skipped_at l d
  pub same_job : job_at m d ≡ job_at l d
