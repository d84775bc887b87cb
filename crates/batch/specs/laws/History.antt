-- Laws of `History`.
use Rattle.std.specs.Prelude.{ℕ, zero, suc, ◌<◌, ◌≡◌, List, [], ◌∷◌, length, get_or, take}
use Rattle.std.proofs.Math.Path.{refl, ap}
use Rattle.std.proofs.Common.{arith}
use Rattle.system.specs.declared.System.{System}
use Rattle.system.specs.declared.events.Reply.{Reply}
use Rattle.wire.specs.declared.answer.AnswerRecord.{AnswerRecord}
use Rattle.wire.specs.declared.event.Event.{Event}
use Rattle.effects.specs.Run.{system_after, history_by}
use Rattle.batch.specs.Turn.{answer_to}
use Rattle.batch.specs.History.{answers_to}

module _ (step : System → Event → Reply) where
  -- "one ANSWER each"
  pub answers_length : (s : System) (es : List Event) → length (answers_to step s es) ≡ length es
  unfolding history_by
  answers_length s [] = refl
  answers_length s (e ∷ es) = ap suc (answers_length (step s e).system es)

  -- answer k is that of event k, on the system after the k events before it
  pub answer_at : (s : System) (es : List Event) (k : ℕ) → k < length es → (a : AnswerRecord) (x : Event)
      → get_or (answers_to step s es) k a ≡ answer_to (step (system_after step s (take k es)) (get_or es k x))
  unfolding system_after history_by
  answer_at s [] k l a x = absurd (omega arith)
  answer_at s (e ∷ es) zero l a x = refl
  answer_at s (e ∷ es) (suc k) l a x = answer_at (step s e).system es k (omega arith) a x
