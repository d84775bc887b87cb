-- Two batches, the second on what the first left, come to one batch on the bytes of both.
use Rattle.std.specs.Prelude.{ℕ, ◌-◌, Bool, true, false, ◌≡◌, refl, List, ◌++◌, length, drop}
use Rattle.std.proofs.Common.{sym, ap, ◌∙◌, ⊎_elim, arith}
use Rattle.effects.specs.Facts.{Shaped}
use Rattle.system.specs.WellFormed.{well_formed}
use Rattle.system.specs.declared.System.{System}
use Rattle.batch.specs.Turn.{Run, wrote, written, output_after}
use Rattle.batch.specs.laws.Turn.{stops_some}
use Rattle.batch.specs.Batch.{and_then, batch_of}
use Rattle.batch.specs.laws.AndThen.{output_then}
use Rattle.batch.specs.laws.BatchCases.{batch_well, batch_ill}
use Rattle.batch.proofs.BatchLaws.{ran_here, batch_stops, batch_sound}
use Rattle.batch.proofs.Ran.{run_is}
use Rattle.batch.proofs.Two.{ran_two}

-- a batch that ends with 0
module _ (s : System) (a : List ℕ) (room : ℕ) (zero : (batch_of s a room).number ≡ 0) where
  -- its system was well formed
  zero_well : well_formed s ≡ true
  zero_well = go (well_formed s) refl
    where
      go : (x : Bool) → well_formed s ≡ x → x ≡ true
      go true e = refl
      go false e = absurd (omega (arith, ap (λ (r : Run). r.number) (batch_ill s a room e)))

  -- and it read every byte
  pub zero_reads_all : (batch_of s a room).read ≡ length a
  zero_reads_all = ⊎_elim (λ w. w.1) (λ w. absurd (omega (arith, stops_some w.1))) (batch_stops s a room zero_well)

  module _ (shaped : Shaped s) (b : List ℕ) where
    abbrev first : Run
    first = batch_of s a room

    -- the second batch: on the first's system, with the rest of the output
    abbrev second : Run
    second = batch_of first.system b (room - written first)

    -- the system and the number are the second's; the bytes read and written add up, and the answers follow on
    pub two_batches : batch_of s (a ++ b) room ≡ and_then first second
    two_batches =
        let later = (batch_sound s a room zero_well shaped).well in
        batch_well s (a ++ b) room zero_well
        ∙ run_is (ran_two (ran_here s a room zero_well) zero b second (ran_here first.system b (room - written first) later))
        (length (a ++ b)) (omega arith)

    pub two_outputs : (out : List ℕ) → output_after (batch_of s (a ++ b) room) out ≡ wrote first ++ output_after second (drop (written first) out)
    two_outputs out = ap (λ (r : Run). output_after r out) two_batches ∙ sym (output_then first second out)
