-- Document 01: releases are "counted from the events and not from one another". The history of a run, and what it tells of each gang's releases.
use Rattle.std.specs.Prelude.{ℕ, zero, suc, ◌+◌, Bool, true, false, cond, ◌&&◌, ◌≡◌, ◌⊎◌, List, [], ◌∷◌, eqb, length}
use Rattle.wire.specs.declared.answer.Answer.{Answer}
use Rattle.wire.specs.declared.answer.Answer.TheVariants as answer
use Rattle.wire.specs.declared.event.Event.{Event}
use Rattle.wire.specs.declared.event.Event.TheVariants as event
use Rattle.wire.specs.Answer.{answer_number}
use Rattle.system.specs.declared.System.{System}
use Rattle.system.specs.Events.{apply_of}
use Rattle.effects.specs.Run.{Entry, entry_with, history_by}

-- ---- the history of a run

-- event e on s, as an entry
abbrev pub entry_of : System → Event → Entry
entry_of s e = entry_with e (apply_of s e)

-- the events with their answers, one after the other
abbrev pub history : System → List Event → List Entry
history = history_by apply_of

-- ---- a release of gang g, told from its entry: all below reads the list of entries alone, never a system

-- the event is "RELEASE" of gang g
abbrev pub is_release : ℕ → Event → Bool
is_release g (event.Release gang) = eqb gang g
is_release g (event.Finish thread) = false
is_release g (event.Wait thread) = false
is_release g (event.Wake thread) = false
is_release g (event.Serve core) = false
is_release g (event.Traffic core transactions) = false
is_release g event.Tick = false

-- the answer is no refusal
abbrev pub is_accepted : Answer → Bool
is_accepted (answer.Refused refusal) = false
is_accepted (answer.Served number) = true
is_accepted (answer.Skipped number) = true
is_accepted (answer.Occupant thread) = true
is_accepted (answer.Counted stopped count) = true
is_accepted answer.Done = true

-- the answer is "served"
abbrev pub is_served : Answer → Bool
is_served (answer.Refused refusal) = false
is_served (answer.Served number) = true
is_served (answer.Skipped number) = false
is_served (answer.Occupant thread) = false
is_served (answer.Counted stopped count) = false
is_served answer.Done = false

-- the answer is "skipped"
abbrev pub is_skipped : Answer → Bool
is_skipped (answer.Refused refusal) = false
is_skipped (answer.Served number) = false
is_skipped (answer.Skipped number) = true
is_skipped (answer.Occupant thread) = false
is_skipped (answer.Counted stopped count) = false
is_skipped answer.Done = false

-- the answer tells of release n, "served or skipped"
abbrev pub Numbered : Answer → ℕ → Type 0
Numbered a n = (a ≡ answer.Served n) ⊎ (a ≡ answer.Skipped n)

abbrev pub took_release : ℕ → Entry → Bool
took_release g x = is_accepted x.answer && is_release g x.event

abbrev pub served_release : ℕ → Entry → Bool
served_release g x = is_served x.answer && is_release g x.event

abbrev pub skipped_release : ℕ → Entry → Bool
skipped_release g x = is_skipped x.answer && is_release g x.event

-- ---- the releases of gang g in a history

-- the entries of which p is true, in order
unfoldable pub select : (Entry → Bool) → List Entry → List Entry
select p [] = []
select p (x ∷ h) = cond (p x) (x ∷ select p h) (select p h)

-- "releases taken": accepted, served or skipped
abbrev pub taken_in : ℕ → List Entry → ℕ
taken_in g h = length (select (took_release g) h)

-- "releases served"
abbrev pub served_in : ℕ → List Entry → ℕ
served_in g h = length (select (served_release g) h)

-- "releases skipped"
abbrev pub skipped_in : ℕ → List Entry → ℕ
skipped_in g h = length (select (skipped_release g) h)

-- the numbers in the answers
unfoldable pub numbers_of : List Entry → List ℕ
numbers_of [] = []
numbers_of (x ∷ h) = answer_number x.answer ∷ numbers_of h

-- the last number of a list, n where it is empty
unfoldable pub last_or : ℕ → List ℕ → ℕ
last_or n [] = n
last_or n (k ∷ ks) = last_or k ks

-- the number of the last release that was served, "0 before the first"
abbrev pub last_served : ℕ → List Entry → ℕ
last_served g h = last_or 0 (numbers_of (select (served_release g) h))

-- n numbers one after the other: first, first + 1, ..
unfoldable pub count_up : ℕ → ℕ → List ℕ
count_up first zero = []
count_up first (suc n) = first ∷ count_up (first + 1) n
