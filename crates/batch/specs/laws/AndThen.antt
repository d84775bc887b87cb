-- One run and then another: what they read and write together.
use Rattle.std.specs.Prelude.{ℕ, ◌+◌, ◌≤◌, ◌≡◌, List, ◌++◌, length, drop}
use Rattle.std.proofs.Common.{ap, ◌∙◌, append-nil, append_assoc, zero-add, add-zero, add_assoc, arith, length-append, length-drop, drop-drop}
use Rattle.system.specs.declared.System.{System}
use Rattle.batch.specs.Turn.{Run, wrote, written, output_after, stopped_with}
use Rattle.batch.specs.laws.Turn.{bytes_append}
use Rattle.batch.specs.Batch.{and_then, batch_ends}

pub then_assoc : (a b c : Run) → and_then (and_then a b) c ≡ and_then a (and_then b c)
then_assoc a b c = simp (add_assoc, append_assoc)

-- nothing comes before the first
pub then_first : (s : System) (r : Run) → and_then (batch_ends s) r ≡ r
then_first s r = simp zero-add

-- a run that reads and writes nothing more
pub then_stopped : (r : Run) (s : System) (k : ℕ)
    → and_then r (stopped_with s k) ≡ record { system = s; read = r.read; answers = r.answers; number = k }
then_stopped r s k = simp (add-zero, append-nil)

module _ (r q : Run) where
  pub wrote_then : wrote (and_then r q) ≡ wrote r ++ wrote q
  wrote_then = bytes_append r.answers q.answers

  pub written_then : written (and_then r q) ≡ written r + written q
  written_then = ap length wrote_then ∙ length-append (wrote r) (wrote q)

  -- the second writes where the first left off
  pub output_then : (out : List ℕ) → wrote r ++ output_after q (drop (written r) out) ≡ output_after (and_then r q) out
  output_then out = rw (wrote_then, length-append (wrote r) (wrote q), drop-drop, append_assoc)

pub output_length : (r : Run) (out : List ℕ) → written r ≤ length out → length (output_after r out) ≡ length out
output_length r out h = simp (length-append, length-drop) (omega arith)
