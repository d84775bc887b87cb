-- The promise of an event in place allows one answer, and one value of each part: `one_step`, of parts that stand each by itself,
-- `one_lent_step`, of those that `SystemMut::step` is lent, and `one_reply`, of the system that `System::step` changes. That of a system whose parts
-- are lent to be looked at allows one value of each: `one_system_seen`.
use Rattle.std.specs.Prelude.{ℕ, List, ◌≡◌, refl}
use Rattle.std.proofs.Common.{sym, ◌∙◌}
use Rattle.std.proofs.Math.Path.{ap}
use Rattle.lock.specs.declared.Held.{Held}
use Rattle.ledger.specs.Lent.{ledger_seen}
use Rattle.lock.specs.Lent.{lock_seen}
use Rattle.lock.specs.OneHeld.{one_held}
use Rattle.lock.specs.Serve.{lock_of}
use Rattle.table.specs.declared.Sizes.{Sizes}
use Rattle.table.specs.Seen.{table_seen}
use Rattle.wire.specs.declared.answer.Answer.{Answer}
use Rattle.wire.specs.declared.event.Event.{Event}
use Rattle.wire.specs.Promise.{one_answer}
use Rattle.system.specs.declared.System.{System}
use Rattle.system.specs.declared.events.Reply.{Reply}
use Rattle.system.specs.declared.parts.SystemMut.{SystemMut}
use Rattle.system.specs.declared.parts.SystemRef.{SystemRef}
use Rattle.system.specs.Events.{step_of, reply_of}
use Rattle.system.specs.Parts.{Stepped, stepped_of, system_now, system_of, system_seen}

-- what an event does in place: its step leads from the system that all the parts make up before to that after, and to the answer
abbrev pub StepInPlace : System → Event → System → Stepped → Type 0
StepInPlace s event s' r = step_of s event ≡ reply_of s' r.answer

-- the parts that an event may change, of two systems after it
pub record SameParts (state number served skipped job : List ℕ) (held : Held) (occupant kept : List ℕ)
    (state' number' served' skipped' job' : List ℕ) (held' : Held) (occupant' kept' : List ℕ) : Type 0 where
  pub states : state ≡ state'
  pub numbers : number ≡ number'
  pub served_counts : served ≡ served'
  pub skipped_counts : skipped ≡ skipped'
  pub jobs : job ≡ job'
  pub held_same : held ≡ held'
  pub occupants : occupant ≡ occupant'
  pub kept_counts : kept ≡ kept'

module _ (sizes : Sizes) (priority budget gang core : List ℕ) {state number served skipped job occupant kept : List ℕ}
    {state' number' served' skipped' job' occupant' kept' : List ℕ} where
  -- a system has one of each part
  pub one_parts : {held held' : Held} → system_of sizes priority budget gang core state number served skipped job held occupant kept
      ≡ system_of sizes priority budget gang core state' number' served' skipped' job' held' occupant' kept'
      → SameParts state number served skipped job held occupant kept state' number' served' skipped' job' held' occupant' kept'
  unfolding system_of
  one_parts {held} {held'} e = record {
    states = ap (λ (s : System). s.state) e;
    numbers = ap (λ (s : System). s.ledger.number) e;
    served_counts = ap (λ (s : System). s.ledger.served) e;
    skipped_counts = ap (λ (s : System). s.ledger.skipped) e;
    jobs = ap (λ (s : System). s.ledger.job) e;
    held_same = (one_held (lock_of held' occupant') {r = held} {q = held'} {o = occupant} {p = occupant'} (ap (λ (s : System). s.lock) e) refl).0;
    occupants = ap (λ (s : System). s.lock.occupant) e;
    kept_counts = ap (λ (s : System). s.kept) e;
  }

  -- two answers that the promise allows are one, and so is every part after the event
  pub one_step : (before : System) (event : Event) (r q : Stepped)
      → StepInPlace before event (system_of sizes priority budget gang core state number served skipped job r.held occupant kept) r
      → StepInPlace before event (system_of sizes priority budget gang core state' number' served' skipped' job' q.held occupant' kept') q
      → (r ≡ q) × SameParts state number served skipped job r.held occupant kept state' number' served' skipped' job' q.held occupant' kept'
  one_step before event r q e f = (λ i. stepped_of (parts.held_same i) (same i).answer, parts)
    where
      same : reply_of (system_of sizes priority budget gang core state number served skipped job r.held occupant kept) r.answer
          ≡ reply_of (system_of sizes priority budget gang core state' number' served' skipped' job' q.held occupant' kept') q.answer
      same = one_answer (step_of before event) (sym e) (sym f)

      parts : SameParts state number served skipped job r.held occupant kept state' number' served' skipped' job' q.held occupant' kept'
      parts = one_parts (ap (λ (x : Reply). x.system) same)

-- the same of parts that are lent: the step leads from the system of the parts before to that of the parts after, and to the answer
abbrev pub LentStepInPlace : SystemMut → Event → SystemMut → Answer → Type 0
LentStepInPlace before event after a = step_of (system_now before) event ≡ reply_of (system_now after) a

-- two answers that the promise allows are one, and so is every part after the event
pub one_lent_step : (before r q : SystemMut) (event : Event) (a b : Answer)
    → LentStepInPlace before event r a → LentStepInPlace before event q b
    → (a ≡ b) × SameParts r.state.now r.number.now r.served.now r.skipped.now r.job.now r.held r.occupant.now
    r.kept.now q.state.now q.number.now q.served.now q.skipped.now q.job.now q.held q.occupant.now q.kept.now
one_lent_step before r q event a b e f = (
  ap (λ (x : Reply). x.answer) same,
  record {
    states = ap (λ (x : Reply). x.system.state) same;
    numbers = ap (λ (x : Reply). x.system.ledger.number) same;
    served_counts = ap (λ (x : Reply). x.system.ledger.served) same;
    skipped_counts = ap (λ (x : Reply). x.system.ledger.skipped) same;
    jobs = ap (λ (x : Reply). x.system.ledger.job) same;
    held_same = (one_held (system_now q).lock {r = r.held} {q = q.held} {o = r.occupant.now} {p = q.occupant.now}
        (ap (λ (x : Reply). x.system.lock) same) refl).0;
    occupants = ap (λ (x : Reply). x.system.lock.occupant) same;
    kept_counts = ap (λ (x : Reply). x.system.kept) same;
  },
)
  where
    same : reply_of (system_now r) a ≡ reply_of (system_now q) b
    same = one_answer (step_of (system_now before) event) (sym e) (sym f)

-- a system that is changed where it stands, and the answer
pub one_reply : (d : Reply) (s t : System) (a b : Answer) → d ≡ reply_of s a → d ≡ reply_of t b → (s ≡ t) × (a ≡ b)
one_reply d s t a b e f = (ap (λ (x : Reply). x.system) same, ap (λ (x : Reply). x.answer) same)
  where
    same : reply_of s a ≡ reply_of t b
    same = one_answer d (sym e) (sym f)

-- a system whose parts are lent to be looked at
pub one_system_seen : (d : System) (s t : SystemRef) → system_seen s ≡ d → system_seen t ≡ d
    → (table_seen s.table ≡ table_seen t.table)
    × (s.state.now ≡ t.state.now)
    × (ledger_seen s.ledger ≡ ledger_seen t.ledger)
    × (lock_seen s.lock ≡ lock_seen t.lock)
    × (s.kept.now ≡ t.kept.now)
one_system_seen d s t e f = (
  ap (λ (x : System). x.table) same,
  ap (λ (x : System). x.state) same,
  ap (λ (x : System). x.ledger) same,
  ap (λ (x : System). x.lock) same,
  ap (λ (x : System). x.kept) same,
)
  where
    same : system_seen s ≡ system_seen t
    same = e ∙ sym f
