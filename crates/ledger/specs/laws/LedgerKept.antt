-- Every release keeps a ledger well formed: the number and one of the two counts go up together.
use Rattle.std.specs.Prelude.{ℕ, ◌+◌, ◌≤◌, ◌<◌, ◌≡◌}
use Rattle.std.proofs.Common.{◌∙◌, arith}
use Rattle.lists.specs.laws.Lists.{same_throughout}
use Rattle.ranges.specs.laws.Logic.{at_or_away}
use Rattle.ledger.specs.declared.Ledger.{Ledger}
use Rattle.ledger.specs.Releases.{last_number, number_at, served_at, skipped_at, job_at, empty_ledger, served_of}
use Rattle.ledger.specs.WellFormed.{Agrees, Unused, LedgerOk}
use Rattle.ledger.specs.laws.LedgerOk.{zeros_agree}
use Rattle.ledger.specs.Sized.{Sized, SameAt}
use Rattle.ledger.specs.laws.Ledger.{WasServed, served_other, served_here}

-- ---- before any release

zeros : (g : ℕ) → Unused empty_ledger g
zeros g =
    let z = same_throughout 32 g 0 in
    record { no_number = z; no_served = z; no_skipped = z; no_job = z }

pub empty_ledger_ok : (gangs : ℕ) → LedgerOk gangs empty_ledger
empty_ledger_ok gangs = record { agrees = λ g h. zeros_agree empty_ledger g (zeros g); unused = λ g h. zeros g }

-- ---- a count is at most the number, so it has room for one more where the number has

module _ (gangs : ℕ) (l : Ledger) (g : ℕ) (k : LedgerOk gangs l) (h : g < gangs) (n : number_at l g < last_number) where
  served_below : served_at l g < last_number
  served_below = let e = (k.agrees g h).adds_up in omega arith

  pub skipped_below : skipped_at l g < last_number
  skipped_below = let e = (k.agrees g h).adds_up in omega arith

-- ---- a release of gang g

module _ (gangs : ℕ) (l m : Ledger) (g : ℕ) (k : LedgerOk gangs l) (h : g < gangs) where
  -- the other places are as they were, so gang g's own decides
  pub kept : ((d : ℕ) → (d ≡ g → ⊥) → SameAt l m d) → Agrees m g → LedgerOk gangs m
  kept same here = record { agrees = at_or_away (λ d. d < gangs → Agrees m d) g (λ q. here) agrees; unused = λ d q. unused d q (λ e. omega arith) }
    where
      agrees : (d : ℕ) → (d ≡ g → ⊥) → d < gangs → Agrees m d
      agrees d ne q =
          let s = same d ne in
          let a = k.agrees d q in
          record {
            job_within = rw (s.same_job, s.same_number) a.job_within;
            adds_up = rw (s.same_served, s.same_skipped, s.same_number) a.adds_up;
          }

      unused : (d : ℕ) → gangs ≤ d → (d ≡ g → ⊥) → Unused m d
      unused d q ne =
          let s = same d ne in
          let u = k.unused d q in
          record {
            no_number = s.same_number ∙ u.no_number;
            no_served = s.same_served ∙ u.no_served;
            no_skipped = s.same_skipped ∙ u.no_skipped;
            no_job = s.same_job ∙ u.no_job;
          }

-- the job has the number, and one more was served
served_agrees : (l m : Ledger) (g : ℕ) → Agrees l g → WasServed l m g → Agrees m g
served_agrees l m g a w =
    let n : number_at m g ≡ number_at l g + 1 = w.next_number in
    let v : served_at m g ≡ served_at l g + 1 = w.one_served in
    let k : skipped_at m g ≡ skipped_at l g = w.skipped_stays in
    let j : job_at m g ≡ number_at l g + 1 = w.job_number in
    record { job_within = omega arith; adds_up = omega (arith, a.adds_up) }

module _ (gangs : ℕ) (l : Ledger) (g : ℕ) (s : Sized l) (k : LedgerOk gangs l) (h : g < gangs) (w : gangs ≤ 32)
    (n : number_at l g < last_number) where
  pub serve_raises : WasServed l (served_of l g) g
  serve_raises = served_here l g s (omega arith) n (served_below gangs l g k h n)

  pub served_ok : LedgerOk gangs (served_of l g)
  served_ok = kept gangs l (served_of l g) g k h (served_other l g) (served_agrees l (served_of l g) g (k.agrees g h) serve_raises)
