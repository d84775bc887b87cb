-- Document 01, "RELEASE: the gang's number goes up by one": each gang's numbers, and what a served and a skipped release make of them.
use Rattle.std.specs.Prelude.{ℕ, ◌+◌, cond, List, ltb, get_or, set, replicate}
use Rattle.ledger.specs.declared.Ledger.{Ledger}

-- "Release numbers 1 to 4,294,967,295"
abbrev pub last_number : ℕ
last_number = 4294967295

-- ---- a gang's numbers

-- the number of its last release, 0 before the first
abbrev pub number_at : Ledger → ℕ → ℕ
number_at l g = get_or l.number g 0

-- how many releases were served
abbrev pub served_at : Ledger → ℕ → ℕ
served_at l g = get_or l.served g 0

-- how many releases were skipped
abbrev pub skipped_at : Ledger → ℕ → ℕ
skipped_at l g = get_or l.skipped g 0

-- "its current job's number (0 before the first)"
abbrev pub job_at : Ledger → ℕ → ℕ
job_at l g = get_or l.job g 0

-- ---- releases

-- "goes up by one", and never past the last number
unfoldable pub raised : ℕ → ℕ
raised n = cond (ltb n last_number) (n + 1) n

-- gang g's count goes up by one; a place that is not there changes nothing
abbrev pub raised_at : List ℕ → ℕ → List ℕ
raised_at counts g = set counts g (raised (get_or counts g 0))

-- before any release
abbrev pub empty_ledger : Ledger
empty_ledger = record {
  number = replicate 32 0;
  served = replicate 32 0;
  skipped = replicate 32 0;
  job = replicate 32 0;
}

-- "the release is served": the number goes up by one, "and the gang's current job takes that number"
abbrev pub served_of : Ledger → ℕ → Ledger
served_of l g = record {
  number = raised_at l.number g;
  served = raised_at l.served g;
  skipped = l.skipped;
  job = set l.job g (raised (number_at l g));
}

-- "Otherwise it is skipped and nothing else changes": the number goes up by one all the same
abbrev pub skipped_of : Ledger → ℕ → Ledger
skipped_of l g = record {
  number = raised_at l.number g;
  served = l.served;
  skipped = raised_at l.skipped g;
  job = l.job;
}
