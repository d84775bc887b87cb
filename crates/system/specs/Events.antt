-- Document 01, "The system and its events": each event as a step on any system, sentence by sentence, with the refusals that are its own.
use Rattle.std.specs.Prelude.{ℕ, cond, ◌||◌, eqb, ltb, leb, get_or, set, replicate}
use Rattle.ledger.specs.Releases.{last_number, served_of, skipped_of}
use Rattle.lock.specs.Serve.{with_owing}
use Rattle.lock.specs.Serve.{owe_of, serve_of}
use Rattle.lock.specs.declared.Lock.{Lock}
use Rattle.table.specs.Numbers.{finished, ready, waiting, max_cores}
use Rattle.wire.specs.declared.answer.Answer.{Answer}
use Rattle.wire.specs.declared.answer.Answer.TheVariants.{Refused, Served, Skipped, Occupant, Counted, Done}
use Rattle.wire.specs.declared.event.Event.{Event}
use Rattle.wire.specs.declared.event.Event.TheVariants as event
use Rattle.wire.specs.declared.refusal.Refusal.{Refusal}
use Rattle.wire.specs.declared.refusal.Refusal.TheVariants.{OutOfRange, NotRunning, NotWaiting, CoreOccupied, NumbersSpent, NotWellFormed}
use Rattle.system.specs.declared.System.{System}
use Rattle.system.specs.declared.events.Reply.{Reply}
use Rattle.system.specs.System.{state_in, core_in, gang_in, occupant_in, kept_in, number_in, running, first_in, ahead_in, with_state, with_ledger}
use Rattle.system.specs.System.{with_lock, with_kept}
use Rattle.state.specs.Allowance.{max_traffic, sum_of}
use Rattle.system.specs.Stop.{stopped}
use Rattle.state.specs.Threads.{all_finished, readied, owed_by}
use Rattle.system.specs.WellFormed.{well_formed}

-- an answer beside the system that it leaves
abbrev pub reply_of : System → Answer → Reply
reply_of s a = record { system = s; answer = a }

-- "A refused event .. hands the system back as it came"
abbrev pub refused_by : System → Refusal → Reply
refused_by s r = reply_of s (Refused r)

-- ---- RELEASE

-- "all become ready, their cores owe, and the gang's current job takes that number"
abbrev pub served_by : System → ℕ → System
served_by s g =
    with_lock
    (with_ledger (with_state s (readied s.table.gang g s.table.sizes.threads s.state)) (served_of s.ledger g))
    (with_owing s.lock (owed_by s.table.core s.table.gang g s.table.sizes.threads s.lock.owing))

-- "Otherwise it is skipped and nothing else changes"
abbrev pub skipped_by : System → ℕ → System
skipped_by s g = with_ledger s (skipped_of s.ledger g)

-- "If all its threads are finished the release is served"
unfoldable pub released_by : System → ℕ → Reply
released_by s g =
    cond (all_finished s.state s.table.gang g s.table.sizes.threads)
    (reply_of (served_by s g) (Served (number_in (served_by s g) g)))
    (reply_of (skipped_by s g) (Skipped (number_in (skipped_by s g) g)))

-- 6: no such gang; 12: the number is 4,294,967,295
unfoldable pub release_step : System → ℕ → Reply
release_step s g =
    cond (leb s.table.sizes.gangs g) (refused_by s OutOfRange)
    (cond (eqb (number_in s g) last_number) (refused_by s NumbersSpent) (released_by s g))

-- ---- FINISH, WAIT, WAKE

-- thread t's state becomes v, and "its core owes"
abbrev pub turned : System → ℕ → ℕ → System
turned s t v = with_lock (with_state s (set s.state t v)) (owe_of s.lock (core_in s t))

-- "a running thread becomes finished or waiting"; 6: no such thread; 9: it is not running
unfoldable pub leave_step : System → ℕ → ℕ → Reply
leave_step s t v =
    cond (leb s.table.sizes.threads t) (refused_by s OutOfRange)
    (cond (running s t) (reply_of (turned s t v) Done) (refused_by s NotRunning))

-- "a waiting thread becomes ready"; 6: no such thread; 10: it is not waiting
unfoldable pub wake_step : System → ℕ → Reply
wake_step s t =
    cond (leb s.table.sizes.threads t) (refused_by s OutOfRange)
    (cond (eqb (state_in s t) waiting) (reply_of (turned s t ready) Done) (refused_by s NotWaiting))

-- ---- SERVE

-- the lock after SERVE c: c's first ready thread, its gang, and whether that is ahead of the holder
abbrev pub served_lock : System → ℕ → Lock
served_lock s c =
    serve_of s.lock c (first_in s c) (gang_in s (first_in s c)) (ahead_in s (gang_in s (first_in s c)) s.lock.holder)

-- "SERVE core c, owing or not"; 6: no such core
unfoldable pub serve_step : System → ℕ → Reply
serve_step s c =
    cond (leb s.table.sizes.cores c) (refused_by s OutOfRange)
    (reply_of (with_lock s (served_lock s c)) (Occupant (get_or (served_lock s c).occupant c 255)))

-- ---- TRAFFIC and TICK

-- "the core's count for the interval grows"
abbrev pub counted : System → ℕ → ℕ → System
counted s c n = with_kept s (set s.kept c (sum_of (kept_in s c) n))

-- 6: no such core, or too many transactions; 11: the core has an occupant
unfoldable pub traffic_step : System → ℕ → ℕ → Reply
traffic_step s c n =
    cond (leb s.table.sizes.cores c || ltb max_traffic n) (refused_by s OutOfRange)
    (cond (eqb (occupant_in s c) 255)
    (reply_of (counted s c n) (Counted (stopped (counted s c n) c) (kept_in (counted s c n) c)))
    (refused_by s CoreOccupied))

-- "all counts become 0"
abbrev pub tick_step : System → Reply
tick_step s = reply_of (with_kept s (replicate max_cores 0)) Done

-- ---- any event

unfoldable pub step_of : System → Event → Reply
step_of s (event.Release g) = release_step s g
step_of s (event.Finish t) = leave_step s t finished
step_of s (event.Wait t) = leave_step s t waiting
step_of s (event.Wake t) = wake_step s t
step_of s (event.Serve c) = serve_step s c
step_of s (event.Traffic c n) = traffic_step s c n
step_of s event.Tick = tick_step s

-- 14 first: "the system handed in is not well formed"
unfoldable pub checked : System → Reply → Reply
checked s r = cond (well_formed s) r (refused_by s NotWellFormed)

-- an event on any system whatever
abbrev pub apply_of : System → Event → Reply
apply_of s e = checked s (step_of s e)
