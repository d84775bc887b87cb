-- Document 01's sentences on a batch, each a law of what `batch` gives.
use Rattle.std.specs.Prelude.{ℕ, ◌*◌, ◌≤◌, ◌<◌, Bool, true, false, ◌≡◌, refl, List, [], length, get_or, take}
use Rattle.std.proofs.Common.{sym, ap, ◌∙◌, arith, length-take}
use Rattle.system.specs.Events.{step_of, apply_of}
use Rattle.effects.specs.Facts.{Shaped}
use Rattle.effects.specs.Run.{system_after}
use Rattle.system.specs.WellFormed.{well_formed}
use Rattle.system.specs.declared.System.{System}
use Rattle.wire.specs.Answer.{answer_size}
use Rattle.wire.specs.Refusal.{number_of}
use Rattle.wire.specs.declared.answer.AnswerRecord.{AnswerRecord}
use Rattle.wire.specs.declared.event.Event.{Event}
use Rattle.wire.specs.declared.refusal.Refusal.TheVariants.{NotWellFormed}
use Rattle.batch.specs.Turn.{Run, written, batched, output_after, stopped_with, answer_to}
use Rattle.batch.specs.Batch.{batch_ends, run_of, batch_of}
use Rattle.batch.specs.laws.BatchCases.{batch_well, batch_ill}
use Rattle.batch.proofs.Bounds.{written_is, read_fits, written_fits}
use Rattle.batch.specs.laws.History.{answers_length, answer_at}
use Rattle.batch.specs.laws.RunKeeps.{WellShaped, ran_sound, ran_apply}
use Rattle.batch.specs.laws.Ran.{Ran, ends}
use Rattle.batch.proofs.Ran.{ran, run_is}
use Rattle.batch.specs.Applies.{Applies, StopsAt}
use Rattle.batch.proofs.Applies.{ran_applies, ran_stops}
use Rattle.batch.specs.BatchLaws.{events_read}

module _ (s : System) (ev : List ℕ) (room : ℕ) where
  -- the batch
  abbrev b : Run
  b = batch_of s ev room

  pub ran_here : well_formed s ≡ true → Ran step_of s ev room b
  ran_here p = rw (batch_well s ev room p) (ran step_of (length ev) s ev room (omega arith))

  by_test : (P : Run → Type 0) → ((r : Run) → Ran step_of s ev room r → P r) → P (stopped_with s (number_of NotWellFormed)) → P b
  by_test P p q = go (well_formed s) refl
    where
      go : (x : Bool) → well_formed s ≡ x → P b
      go true e = p b (ran_here e)
      go false e = rw (batch_ill s ev room e) q

  -- "writes one ANSWER each": 18 bytes for each answer
  pub batch_written : written b ≡ answer_size * length b.answers
  batch_written = written_is b

  pub batch_read_fits : b.read ≤ length ev
  batch_read_fits = by_test (λ (r : Run). r.read ≤ length ev) (λ r q. read_fits q) (omega arith)

  pub batch_written_fits : written b ≤ room
  batch_written_fits = by_test (λ (r : Run). written r ≤ room) (λ r q. written_fits q) (omega arith)

  -- "With 14 nothing is read or written"
  pub batch_14 : (out : List ℕ) → well_formed s ≡ false
      → (batched b ≡ record { system = s; read = 0; written = 0; number = 14 }) × (output_after b out ≡ out)
  batch_14 out p = rw (batch_ill s ev room p) (refl, refl)

  module _ (well : well_formed s ≡ true) where
    -- "It stops at 1, 2, 3, 13 or the end"
    pub batch_stops : StopsAt ev room b
    batch_stops = ran_stops (ran_here well)

    module _ (shaped : Shaped s) where
      sound : WellShaped s
      sound = record { shaped = shaped; well = well }

      -- each event is applied as `System::apply` would
      pub batch_applies : b ≡ run_of apply_of (length ev) s ev room
      batch_applies = sym (run_is (ran_apply (ran_here well) sound) (length ev) (omega arith))

      -- the system and the answers are those of the events read, one after the other: no batch stops applying after its first
      pub batch_events : Applies apply_of s (events_read s ev room) b
      batch_events =
          ran_applies (ran_apply (ran_here well) sound) (length (take b.read ev))
          (let f = batch_read_fits in simp length-take (omega arith))

      pub batch_count : length b.answers ≡ length (events_read s ev room)
      batch_count = ap length batch_events.answers ∙ answers_length apply_of s (events_read s ev room)

      -- answer k is that of event k on the system after the k events before it
      pub batch_answer : (k : ℕ) → k < length b.answers → (a : AnswerRecord) (x : Event)
          → get_or b.answers k a
          ≡ answer_to (apply_of (system_after apply_of s (take k (events_read s ev room))) (get_or (events_read s ev room) k x))
      batch_answer k l a x =
          ap (λ (xs : List AnswerRecord). get_or xs k a) batch_events.answers
          ∙ answer_at apply_of s (events_read s ev room) k (omega (arith, batch_count)) a x

      -- and the system is well formed still
      pub batch_sound : WellShaped b.system
      batch_sound = ran_sound (ran_here well) sound

-- "an empty batch (0)", room or none
pub batch_empty : (s : System) (room : ℕ) → well_formed s ≡ true → batch_of s [] room ≡ batch_ends s
batch_empty s room p = batch_well s [] room p ∙ run_is (ends refl) 0 (omega arith)
