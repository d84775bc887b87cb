-- What a number raised comes to, and what a served and a skipped release do to each gang's numbers.
use Rattle.std.specs.Prelude.{ℕ, ◌+◌, ◌≤◌, ◌<◌, ◌≡◌, refl, List, length, get_or}
use Rattle.std.proofs.Common.{◌∙◌, arith, lt-ltb, le-ltb, length-set, get_or-set_same, get_or-set_other}
use Rattle.ledger.specs.declared.Ledger.{Ledger}
use Rattle.ledger.specs.Releases.{last_number, number_at, served_at, skipped_at, job_at, raised, raised_at, empty_ledger, served_of, skipped_of}
use Rattle.ledger.specs.Sized.{SameAt, Sized}

pub raised_below : (n : ℕ) → n < last_number → raised n ≡ n + 1
unfolding raised
raised_below n h = rw (lt-ltb n last_number h)

pub raised_last : (n : ℕ) → last_number ≤ n → raised n ≡ n
unfolding raised
raised_last n h = rw (le-ltb n last_number h)

raised_same : (counts : List ℕ) (g : ℕ) → g < length counts → get_or counts g 0 < last_number
    → get_or (raised_at counts g) g 0 ≡ get_or counts g 0 + 1
raised_same counts g l h = get_or-set_same counts g (raised (get_or counts g 0)) 0 l ∙ raised_below (get_or counts g 0) h

pub raised_other : (counts : List ℕ) (g d : ℕ) → (d ≡ g → ⊥) → get_or (raised_at counts g) d 0 ≡ get_or counts d 0
raised_other counts g d ne = get_or-set_other counts g d (raised (get_or counts g 0)) 0 ne

pub empty_sized : Sized empty_ledger
empty_sized = record { number_size = refl; served_size = refl; skipped_size = refl; job_size = refl }

pub served_sized : (l : Ledger) (g : ℕ) → Sized l → Sized (served_of l g)
served_sized l g s = record {
  number_size = length-set l.number g _ ∙ s.number_size;
  served_size = length-set l.served g _ ∙ s.served_size;
  skipped_size = s.skipped_size;
  job_size = length-set l.job g _ ∙ s.job_size;
}

pub skipped_sized : (l : Ledger) (g : ℕ) → Sized l → Sized (skipped_of l g)
skipped_sized l g s = record {
  number_size = length-set l.number g _ ∙ s.number_size;
  served_size = s.served_size;
  skipped_size = length-set l.skipped g _ ∙ s.skipped_size;
  job_size = s.job_size;
}

pub served_other : (l : Ledger) (g d : ℕ) → (d ≡ g → ⊥) → SameAt l (served_of l g) d
served_other l g d ne = record {
  same_number = raised_other l.number g d ne;
  same_served = raised_other l.served g d ne;
  same_skipped = refl;
  same_job = get_or-set_other l.job g d _ 0 ne;
}

pub skipped_other : (l : Ledger) (g d : ℕ) → (d ≡ g → ⊥) → SameAt l (skipped_of l g) d
skipped_other l g d ne = record {
  same_number = raised_other l.number g d ne;
  same_served = refl;
  same_skipped = raised_other l.skipped g d ne;
  same_job = refl;
}

-- a served release: the number and the served count go up by one, and the job has the release's number
pub record WasServed (l m : Ledger) (g : ℕ) : Type 0 where
  pub next_number : number_at m g ≡ number_at l g + 1
  pub one_served : served_at m g ≡ served_at l g + 1
  pub skipped_stays : skipped_at m g ≡ skipped_at l g
  pub job_number : job_at m g ≡ number_at l g + 1

-- a skipped release: the number and the skipped count go up by one, and the job keeps its number
pub record WasSkipped (l m : Ledger) (g : ℕ) : Type 0 where
  pub next_number : number_at m g ≡ number_at l g + 1
  pub served_stays : served_at m g ≡ served_at l g
  pub one_skipped : skipped_at m g ≡ skipped_at l g + 1
  pub job_stays : job_at m g ≡ job_at l g

pub served_here : (l : Ledger) (g : ℕ) → Sized l → g < 32 → number_at l g < last_number → served_at l g < last_number → WasServed l (served_of l g) g
served_here l g s h n k = record {
  next_number = raised_same l.number g (let e = s.number_size in omega arith) n;
  one_served = raised_same l.served g (let e = s.served_size in omega arith) k;
  skipped_stays = refl;
  job_number = get_or-set_same l.job g _ 0 (let e = s.job_size in omega arith) ∙ raised_below (number_at l g) n;
}

pub skipped_here : (l : Ledger) (g : ℕ) → Sized l → g < 32 → number_at l g < last_number → skipped_at l g < last_number
    → WasSkipped l (skipped_of l g) g
skipped_here l g s h n k = record {
  next_number = raised_same l.number g (let e = s.number_size in omega arith) n;
  served_stays = refl;
  one_skipped = raised_same l.skipped g (let e = s.skipped_size in omega arith) k;
  job_stays = refl;
}
