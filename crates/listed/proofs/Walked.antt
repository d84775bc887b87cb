-- What the loop that looks for the events keeps: walking on from where it stands finds their start.
use Rattle.std.proofs.Common.{ℕ, zero, suc, ◌-◌, ◌≤◌, ◌≡◌, refl, sym, ◌∙◌, List, arith, length}
use Rattle.wire.specs.Record.{record_at}
use Rattle.wire.specs.Question.{WholeRecord, record_whole}
use Rattle.wire.specs.Seen.{Record, Refused}
use Rattle.wire.specs.declared.kinds.Stream.TheVariants as stream
use Rattle.wire.specs.declared.refusal.Refusal.{Refusal}
use Rattle.listed.specs.Start.{split_at, start_from, events_start}
use Rattle.listed.specs.laws.Start.{start_stop, start_go, split_short}

-- every record before the place at is a table's, and there are turns enough for the bytes after it
pub record Walked (s : List ℕ) (at : ℕ) : Type 0 where
  pub turns : ℕ
  pub inside : at ≤ length s
  pub enough : length s - at ≤ turns
  pub rest : events_start s ≡ start_from turns s at

-- at first
pub start : (s : List ℕ) → Walked s 0
start s = record { turns = length s; inside = omega arith; enough = omega arith; rest = refl }

module _ (s : List ℕ) (at : ℕ) (f : Walked s at) where
  -- at a place where no table record stands, the end included
  pub stops : {refusal : Refusal} → record_at stream.Table s at ≡ Refused refusal → split_at s at ≡ events_start s
  unfolding start_from
  stops {refusal} e = by f.turns refl
    where
      by : (n : ℕ) → f.turns ≡ n → split_at s at ≡ events_start s
      by zero z = split_short s at (omega (arith, f.enough)) ∙ sym (f.rest ∙ rw z refl)
      by (suc n) z = sym (f.rest ∙ rw z (start_stop s at n refusal e))

  -- past a table record
  pub goes : {kind next : ℕ} → record_at stream.Table s at ≡ Record kind next → Walked s next
  goes {kind} {next} e = by f.turns refl
    where
      w : WholeRecord s at next
      w = record_whole stream.Table s at e

      by : (n : ℕ) → f.turns ≡ n → Walked s next
      by zero z = absurd (omega (arith, f.enough, w.header, w.inside))
      by (suc n) z = record {
        turns = n;
        inside = w.inside;
        enough = omega (arith, f.enough, w.header);
        rest = f.rest ∙ rw z (start_go s at n kind next e);
      }
