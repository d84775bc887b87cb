-- Document 01, "Well formed": "job number at most the release number and served plus skipped equal to it; unused places zero".
use Rattle.std.specs.Prelude.{ℕ, ◌+◌, ◌≤◌, ◌<◌, ◌≡◌, Bool, cond, ◌&&◌, List, eqb, leb, ltb}
use Rattle.ranges.specs.Range.{every}
use Rattle.ledger.specs.declared.Ledger.{Ledger}
use Rattle.ledger.specs.Releases.{number_at, served_at, skipped_at, job_at}

-- the ledger of these parts
abbrev pub ledger_of : (number served skipped job : List ℕ) → Ledger
ledger_of number served skipped job = record { number = number; served = served; skipped = skipped; job = job }

-- "job number at most the release number and served plus skipped equal to it"
unfoldable pub counts_agree : ℕ → ℕ → ℕ → ℕ → Bool
counts_agree number served skipped job = leb job number && eqb (served + skipped) number

-- "unused places zero"
unfoldable pub all_zero : ℕ → ℕ → ℕ → ℕ → Bool
all_zero number served skipped job = eqb number 0 && eqb served 0 && eqb skipped 0 && eqb job 0

-- a place that a gang uses, or an unused one
unfoldable pub place_ok : Bool → ℕ → ℕ → ℕ → ℕ → Bool
place_ok used number served skipped job = cond used (counts_agree number served skipped job) (all_zero number served skipped job)

-- place g, where there are so many gangs
unfoldable pub ledger_place : ℕ → Ledger → ℕ → Bool
ledger_place gangs l g = place_ok (ltb g gangs) (number_at l g) (served_at l g) (skipped_at l g) (job_at l g)

-- the whole ledger is well formed for a table of so many gangs
unfoldable pub ledger_ok : ℕ → Ledger → Bool
ledger_ok gangs l = every 32 (ledger_place gangs l)

-- ---- the same as propositions

-- a gang's place: "job number at most the release number and served plus skipped equal to it"
pub record Agrees (l : Ledger) (g : ℕ) : Type 0 where
  pub job_within : job_at l g ≤ number_at l g
  pub adds_up : served_at l g + skipped_at l g ≡ number_at l g

-- any other place: "unused places zero"
pub record Unused (l : Ledger) (g : ℕ) : Type 0 where
  pub no_number : number_at l g ≡ 0
  pub no_served : served_at l g ≡ 0
  pub no_skipped : skipped_at l g ≡ 0
  pub no_job : job_at l g ≡ 0

-- a well-formed ledger for a table of so many gangs
pub record LedgerOk (gangs : ℕ) (l : Ledger) : Type 0 where
  pub agrees : (g : ℕ) → g < gangs → Agrees l g
  pub unused : (g : ℕ) → gangs ≤ g → Unused l g
