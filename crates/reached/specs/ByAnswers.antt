-- What a gang's releases are by the bytes alone: the events that were read and the ANSWERs that were written, one for each.
use Rattle.std.specs.Prelude.{ℕ, Bool, cond, ◌&&◌, List, [], ◌∷◌, map, eqb}
use Rattle.wire.specs.declared.answer.AnswerRecord.{AnswerRecord}
use Rattle.wire.specs.declared.event.Event.{Event}
use Rattle.reached.specs.History.{is_release}

-- a RELEASE of gang g that was taken: the ANSWER's refusal is 0
abbrev pub told_taken : ℕ → Event → AnswerRecord → Bool
told_taken g e a = is_release g e && eqb a.refusal 0

-- "RELEASE, 1 served"
abbrev pub told_served : ℕ → Event → AnswerRecord → Bool
told_served g e a = told_taken g e a && eqb a.value 1

-- "RELEASE, .. 0 skipped"
abbrev pub told_skipped : ℕ → Event → AnswerRecord → Bool
told_skipped g e a = told_taken g e a && eqb a.value 0

-- the ANSWERs of which p is true, each beside its own event, in order
unfoldable pub answers_that : (Event → AnswerRecord → Bool) → List Event → List AnswerRecord → List AnswerRecord
answers_that p [] answers = []
answers_that p (e ∷ es) [] = []
answers_that p (e ∷ es) (a ∷ answers) = cond (p e a) (a ∷ answers_that p es answers) (answers_that p es answers)

-- the numbers in some ANSWERs
abbrev pub numbers_told : List AnswerRecord → List ℕ
numbers_told = map (λ (a : AnswerRecord). a.number)
