-- Document 01, "Questions": each question's answer for any system whatever, with 14, then 6; "a question's value is then 0".
use Rattle.std.specs.Prelude.{ℕ, Result, Ok, Err, cond, ltb, get_or}
use Rattle.coreset.specs.Set.{count, lowest}
use Rattle.wire.specs.Refusal.{number_of}
use Rattle.wire.specs.declared.refusal.Refusal.{Refusal}
use Rattle.wire.specs.declared.refusal.Refusal.TheVariants.{OutOfRange, NotWellFormed}
use Rattle.system.specs.declared.System.{System}
use Rattle.system.specs.Stop.{stopped}
use Rattle.system.specs.System.{occupant_in, number_in}
use Rattle.system.specs.WellFormed.{well_formed}

-- what a question finds, beside the system that it leaves
pub record Told : Type 0 where
  pub system : System
  pub finding : Result ℕ Refusal

-- document 01's refusal number and value for each case
abbrev pub finding_refusal : Result ℕ Refusal → ℕ
finding_refusal (Ok value) = 0
finding_refusal (Err refusal) = number_of refusal

abbrev pub finding_value : Result ℕ Refusal → ℕ
finding_value (Ok value) = value
finding_value (Err refusal) = 0

-- "A refused event or question hands the system back as it came"; and so does any question
abbrev pub told_of : System → Result ℕ Refusal → Told
told_of s f = record { system = s; finding = f }

-- a question about the whole system
unfoldable pub about_all : System → ℕ → Told
about_all s value = told_of s (cond (well_formed s) (Ok value) (Err NotWellFormed))

-- a question about number i, of which there are n: 6 where there is no such number
unfoldable pub about_one : System → ℕ → ℕ → ℕ → Told
about_one s i n value = told_of s (cond (well_formed s) (cond (ltb i n) (Ok value) (Err OutOfRange)) (Err NotWellFormed))

-- "a core's occupant"
abbrev pub occupant_found : System → ℕ → Told
occupant_found s c = about_one s c s.table.sizes.cores (occupant_in s c)

-- "whether it is stopped"
abbrev pub stopped_found : System → ℕ → Told
stopped_found s c = about_one s c s.table.sizes.cores (cond (stopped s c) 1 0)

-- "a gang's release number"
abbrev pub number_found : System → ℕ → Told
number_found s g = about_one s g s.table.sizes.gangs (number_in s g)

-- "served and skipped counts"
abbrev pub served_found : System → ℕ → Told
served_found s g = about_one s g s.table.sizes.gangs (get_or s.ledger.served g 0)

abbrev pub skipped_found : System → ℕ → Told
skipped_found s g = about_one s g s.table.sizes.gangs (get_or s.ledger.skipped g 0)

-- "its current job's number (0 before the first)"
abbrev pub job_found : System → ℕ → Told
job_found s g = about_one s g s.table.sizes.gangs (get_or s.ledger.job g 0)

-- "the lowest owing core or 255"
abbrev pub lowest_found : System → Told
lowest_found s = about_all s (lowest 32 s.lock.owing)

-- "how many cores owe"
abbrev pub owing_found : System → Told
owing_found s = about_all s (count s.lock.owing)
