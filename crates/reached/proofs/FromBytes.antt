-- From bytes to history: a batch from a reached state leads to a reached state, and the ANSWERs that it writes are its history's. So what holds
-- of every history holds of the bytes that go in and those that come out.
use Rattle.std.specs.Prelude.{ℕ, min, Bool, ◌≡◌, List, map, length}
use Rattle.std.proofs.Common.{sym, ap, ◌∙◌, subst}
use Rattle.std.proofs.lemmas.List.{length-map}
use Rattle.ledger.specs.Releases.{served_at, skipped_at, job_at}
use Rattle.wire.specs.declared.answer.AnswerRecord.{AnswerRecord}
use Rattle.wire.specs.declared.event.Event.{Event}
use Rattle.system.specs.declared.System.{System}
use Rattle.system.specs.System.{number_in, kept_in}
use Rattle.system.specs.Stop.{stopped}
use Rattle.system.specs.Events.{apply_of}
use Rattle.effects.specs.Run.{Entry, record_in}
use Rattle.reading.specs.Reading.{reading_of}
use Rattle.reading.specs.SystemRead.{system_read}
use Rattle.batch.specs.Applies.{Applies}
use Rattle.batch.specs.Batch.{batch_of}
use Rattle.batch.specs.BatchLaws.{events_read}
use Rattle.batch.proofs.BatchLaws.{batch_events}
use Rattle.batch.specs.Turn.{Run, bytes_of, wrote}
use Rattle.reached.specs.Reached.{Reached, after}
use Rattle.reached.specs.History.{history, took_release, served_release, skipped_release, select, numbers_of, count_up, last_or}
use Rattle.reached.specs.ByAnswers.{told_taken, told_served, told_skipped, answers_that, numbers_told}
use Rattle.reached.proofs.ByAnswers.{Agree, same_told, answers_selected, numbers_told_lem}
use Rattle.reached.specs.ByEvents.{after_reached}
use Rattle.reached.specs.Formed.{reached_formed, reached_shaped, reached_well}
use Rattle.reached.specs.Read.{read_accepted, read_reached}
use Rattle.reached.proofs.Releases.{number_is_taken, served_is, skipped_is, job_is, no_gap}
use Rattle.reached.specs.TrueSum.{true_sum, truly_stopped}
use Rattle.reached.proofs.Allowed.{kept_is, same_stops}

-- ---- a batch from a reached state

module _ {s : System} (R : Reached s) (ev : List ℕ) (room : ℕ) where
  applied : Applies apply_of s (events_read s ev room) (batch_of s ev room)
  applied = batch_events s ev room (reached_well R) (reached_shaped R)

  -- its system is that after the events that it reads,
  pub batch_after : (batch_of s ev room).system ≡ after s (events_read s ev room)
  batch_after = applied.system

  -- which is reached,
  pub batch_reached : Reached (batch_of s ev room).system
  batch_reached = subst Reached (sym batch_after) (after_reached R (events_read s ev room))

  -- and its answers are the ANSWER records of their history, entry by entry,
  pub batch_history : (batch_of s ev room).answers ≡ map record_in (history s (events_read s ev room))
  batch_history = applied.answers

  -- whose bytes it writes
  pub batch_writes : wrote (batch_of s ev room) ≡ bytes_of (map record_in (history s (events_read s ev room)))
  batch_writes = ap bytes_of batch_history

-- ---- a table's bytes that are read with no refusal, and the bytes of some events after it

module _ (d : ℕ) (table : List ℕ) (accepted : (system_read d table).number ≡ 0) (ev : List ℕ) (room : ℕ) where
  abbrev start : System
  start = (system_read d table).system

  -- the batch,
  abbrev b : Run
  b = batch_of start ev room

  -- and the events that it reads
  abbrev es : List Event
  es = events_read start ev room

  reached : Reached start
  reached = read_reached d table accepted

  -- where p tells of each ANSWER what q tells of its entry, it picks the ANSWERs of the entries that q picks: as many, with the same numbers
  module _ (p : Event → AnswerRecord → Bool) (q : Entry → Bool) (same : Agree p q) where
    the_answers : answers_that p es b.answers ≡ map record_in (select q (history start es))
    the_answers =
        ap (answers_that p es) (batch_history reached ev room)
        ∙ answers_selected p q same start (reached_shaped reached) (reached_formed reached) es

    as_many : length (answers_that p es b.answers) ≡ length (select q (history start es))
    as_many = ap length the_answers ∙ length-map (select q (history start es)) record_in

    same_numbers : numbers_told (answers_that p es b.answers) ≡ numbers_of (select q (history start es))
    same_numbers = ap numbers_told the_answers ∙ numbers_told_lem (select q (history start es))

  module _ (g : ℕ) where
    -- gang g's stored number is how many of the ANSWERs are to releases of it that were taken
    pub bytes_number : number_in b.system g ≡ length (answers_that (told_taken g) es b.answers)
    bytes_number =
        ap (λ (x : System). number_in x g) (batch_after reached ev room)
        ∙ number_is_taken (reading_of d table).table (read_accepted d table accepted) g es
        ∙ sym (as_many (told_taken g) (took_release g) (λ s w e. (same_told s g w e).taken))

    -- its served and skipped counts are how many are to releases with value 1, "served", and with value 0, "skipped"
    pub bytes_served : served_at b.system.ledger g ≡ length (answers_that (told_served g) es b.answers)
    bytes_served =
        ap (λ (x : System). served_at x.ledger g) (batch_after reached ev room)
        ∙ served_is (reading_of d table).table (read_accepted d table accepted) g es
        ∙ sym (as_many (told_served g) (served_release g) (λ s w e. (same_told s g w e).served))

    pub bytes_skipped : skipped_at b.system.ledger g ≡ length (answers_that (told_skipped g) es b.answers)
    bytes_skipped =
        ap (λ (x : System). skipped_at x.ledger g) (batch_after reached ev room)
        ∙ skipped_is (reading_of d table).table (read_accepted d table accepted) g es
        ∙ sym (as_many (told_skipped g) (skipped_release g) (λ s w e. (same_told s g w e).skipped))

    -- the numbers in the ANSWERs to its releases that were taken are 1, 2, 3, ..
    pub bytes_no_gap : numbers_told (answers_that (told_taken g) es b.answers) ≡ count_up 1 (length (answers_that (told_taken g) es b.answers))
    bytes_no_gap =
        same_numbers (told_taken g) (took_release g) (λ s w e. (same_told s g w e).taken)
        ∙ no_gap (reading_of d table).table (read_accepted d table accepted) g es
        ∙ ap (count_up 1) (sym (as_many (told_taken g) (took_release g) (λ s w e. (same_told s g w e).taken)))

    -- "its current job's number (0 before the first)": that in the last ANSWER that tells of a served release
    pub bytes_job : job_at b.system.ledger g ≡ last_or 0 (numbers_told (answers_that (told_served g) es b.answers))
    bytes_job =
        ap (λ (x : System). job_at x.ledger g) (batch_after reached ev room)
        ∙ job_is (reading_of d table).table (read_accepted d table accepted) g es
        ∙ ap (last_or 0) (sym (same_numbers (told_served g) (served_release g) (λ s w e. (same_told s g w e).served)))

  module _ (c : ℕ) where
    -- a core's kept count and its stop are by the true sum of those events
    pub bytes_kept : kept_in b.system c ≡ min 1000000 (true_sum c (history start es))
    bytes_kept =
        ap (λ (x : System). kept_in x c) (batch_after reached ev room)
        ∙ kept_is (reading_of d table).table (read_accepted d table accepted) c es

    pub bytes_stops : stopped b.system c ≡ truly_stopped b.system (history start es) c
    bytes_stops =
        rw (batch_after reached ev room) (same_stops (reading_of d table).table (read_accepted d table accepted) c es)
