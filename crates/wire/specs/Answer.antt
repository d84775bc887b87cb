-- Document 01, "ANSWER": the fields of each answer, the record's bytes, and what a writer leaves in the lent output.
use Rattle.std.specs.Prelude.{ℕ, List, [], ◌∷◌, ◌++◌, cond, length, drop, leb}
use Rattle.wire.specs.declared.answer.Answer.{Answer}
use Rattle.wire.specs.declared.answer.Answer.TheVariants as answer
use Rattle.wire.specs.declared.answer.AnswerRecord.{AnswerRecord}
use Rattle.wire.specs.Written.{Written}
use Rattle.wire.specs.Written.{Bytes, Refused}
use Rattle.wire.specs.declared.refusal.Refusal.TheVariants.{NoRoom}
use Rattle.wire.specs.Kinds.{kind_answer, lengths, length_in}
use Rattle.wire.specs.Number.{two, four}
use Rattle.wire.specs.Refusal.{number_of}

-- the refusal number of an answer, 0 where the event was accepted
abbrev pub answer_refusal : Answer → ℕ
answer_refusal (answer.Refused refusal) = number_of refusal
answer_refusal (answer.Served number) = 0
answer_refusal (answer.Skipped number) = 0
answer_refusal (answer.Occupant thread) = 0
answer_refusal (answer.Counted stopped count) = 0
answer_refusal answer.Done = 0

-- "ANSWER value: SERVE, the occupant or 255; RELEASE, 1 served, 0 skipped; TRAFFIC, 1 stopped, 0 not; else 0. If refused, 0"
abbrev pub answer_value : Answer → ℕ
answer_value (answer.Refused refusal) = 0
answer_value (answer.Served number) = 1
answer_value (answer.Skipped number) = 0
answer_value (answer.Occupant thread) = thread
answer_value (answer.Counted stopped count) = cond stopped 1 0
answer_value answer.Done = 0

-- "Number: RELEASE, its number; TRAFFIC, the kept count; else 0. If refused, 0"
abbrev pub answer_number : Answer → ℕ
answer_number (answer.Refused refusal) = 0
answer_number (answer.Served number) = number
answer_number (answer.Skipped number) = number
answer_number (answer.Occupant thread) = 0
answer_number (answer.Counted stopped count) = count
answer_number answer.Done = 0

-- the fields of the ANSWER record, beside the owing and the locked cores
abbrev pub record_of : Answer → ℕ → ℕ → AnswerRecord
record_of a o l = record { refusal = answer_refusal a; value = answer_value a; number = answer_number a; owing = o; locked = l }

-- length, kind, refusal, value, number, owing cores, locked cores
unfoldable pub answer_bytes : AnswerRecord → List ℕ
answer_bytes a =
    two (length_in kind_answer lengths)
    (two kind_answer
    (a.refusal ∷ a.value ∷ four a.number (four a.owing (four a.locked []))))

-- how many bytes an ANSWER record takes
abbrev pub answer_size : ℕ
answer_size = 18

-- what the writer says of the lent output: the bytes written, or 13
unfoldable pub written_in : List ℕ → Written
written_in out = cond (leb answer_size (length out)) (Bytes answer_size) (Refused NoRoom)

-- bs over the start of out where there is room for them; else out as it is
unfoldable pub put_over : List ℕ → List ℕ → List ℕ
put_over bs out = cond (leb (length bs) (length out)) (bs ++ drop (length bs) out) out
