-- Document 02, K3, the program: "prints one line per thread after each event".
use Rattle.std.specs.Prelude.{ℕ, zero, suc, ◌≡◌, refl, List, [], ◌++◌, Result, Ok, Err}
use Rattle.std.specs.Result.{result_unwrap_or}
use Rattle.wire.specs.declared.refusal.Refusal.{Refusal}
use Rattle.lines.specs.ThreadLine.{thread_line_of}
use Rattle.lines.specs.declared.thread.ThreadLine.{ThreadLine}
use Rattle.system.specs.declared.System.{System}
use Rattle.reason.specs.declared.Reason.{Reason}
use Rattle.reason.specs.declared.Reason.TheVariants as reason
use Rattle.reason.specs.Why.{reason_which, why_of}
use Rattle.lines.specs.Text.{bytes_in}
use Rattle.listed.specs.Output.{Print, output_of}

-- each reason in words; the thread or gang that one names follows them
abbrev pub words_of : Reason → List ℕ
words_of reason.Finished = bytes_in "finished"
words_of reason.Waiting = bytes_in "waiting"
words_of reason.RunningLocked = bytes_in "running on a locked core"
words_of reason.RunningDisplaced = bytes_in "running but displaced"
words_of reason.CoreOwes = bytes_in "ready, but its core owes a reschedule"
words_of (reason.ThreadAhead u) = bytes_in "ready, but another thread is ahead of it on its core: thread "
words_of (reason.GangHolds g) = bytes_in "ready, but a gang of higher priority holds the lock: gang "
words_of reason.NoneOfThese = bytes_in "none of these"

-- position, thread, the reason in words, and which
abbrev pub reason_line : ℕ → ℕ → Reason → List ℕ
reason_line position t r = thread_line_of position t (words_of r) (reason_which r)

-- nothing for a thread that is not there
abbrev pub explanation_text : ℕ → ℕ → Result Reason Refusal → List ℕ
explanation_text position t (Ok r) = reason_line position t r
explanation_text position t (Err refusal) = []

-- thread t's line after an event that leaves the system s
unfoldable pub reason_text : System → ℕ → ℕ → List ℕ
reason_text s position t = explanation_text position t (why_of s t).explanation

-- ---- what list_reason gives

-- a reason's line by its text, or why the question is refused
abbrev pub line_seen : ℕ → ℕ → Result Reason Refusal → Result (List ℕ) Refusal
line_seen position t (Ok r) = Ok (reason_line position t r)
line_seen position t (Err refusal) = Err refusal

unfoldable pub reason_listed : System → ℕ → ℕ → Result (List ℕ) Refusal
reason_listed s position t = line_seen position t (why_of s t).explanation

-- a line by its text
abbrev pub line_text : Result ThreadLine Refusal → Result (List ℕ) Refusal
line_text (Ok line) = Ok (thread_line_of line.position line.thread line.words.now line.which)
line_text (Err refusal) = Err refusal

-- a line by its parts: position, thread, words and which
abbrev pub Parts : Type 0
Parts = ℕ × ℕ × List ℕ × ℕ

abbrev pub parts_seen : ℕ → ℕ → Result Reason Refusal → Result Parts Refusal
parts_seen position t (Ok r) = Ok (position, t, words_of r, reason_which r)
parts_seen position t (Err refusal) = Err refusal

unfoldable pub reason_parts : System → ℕ → ℕ → Result Parts Refusal
reason_parts s position t = parts_seen position t (why_of s t).explanation

abbrev pub line_parts : Result ThreadLine Refusal → Result Parts Refusal
line_parts (Ok line) = Ok (line.position, line.thread, line.words.now, line.which)
line_parts (Err refusal) = Err refusal

-- so what list_reason gives prints thread t's line, and nothing where the question is refused
pub reason_listed_told : (s : System) (position t : ℕ) → result_unwrap_or (reason_listed s position t) [] ≡ reason_text s position t
unfolding reason_listed reason_text
reason_listed_told s position t = go (why_of s t).explanation
  where
    go : (x : Result Reason Refusal) → result_unwrap_or (line_seen position t x) [] ≡ explanation_text position t x
    go (Ok r) = refl
    go (Err refusal) = refl

-- ---- the whole

-- a line for each of the first n threads
unfoldable pub reasons_below : System → ℕ → ℕ → List ℕ
reasons_below s position zero = []
reasons_below s position (suc n) = reasons_below s position n ++ reason_text s position n

-- a line for each thread of the system
abbrev pub reasons_text : System → ℕ → List ℕ
reasons_text s position = reasons_below s position s.table.sizes.threads

-- of an event, those of the system after it
abbrev pub reasons_printed : Print
reasons_printed position e r = reasons_text r.system position

-- the program's output: that of the listing's input, with the same messages
abbrev pub reasons_of : List ℕ → List ℕ
reasons_of s = output_of reasons_printed s
