-- What the entries of a run tell of a gang is what its ledger holds: by one entry, and so by all, from whatever the ledger held before.
use Rattle.std.specs.Prelude.{ℕ, ◌+◌, ◌<◌, true, false, ◌≡◌, refl, List, [], ◌∷◌, length}
use Rattle.std.proofs.Common.{sym, ap, ◌∙◌, subst, inl, inr, arith, eq-eqb, ne_eqb}
use Rattle.ranges.specs.laws.Logic.{at_or_away, clash}
use Rattle.ledger.specs.declared.Ledger.{Ledger}
use Rattle.ledger.specs.Releases.{last_number, number_at, served_at, skipped_at, job_at, served_of, skipped_of}
use Rattle.ledger.specs.Sized.{SameAt}
use Rattle.ledger.specs.laws.Ledger.{WasServed, WasSkipped, served_other, skipped_other}
use Rattle.ledger.specs.laws.LedgerKept.{serve_raises}
use Rattle.ledger.proofs.Skips.{skip_raises}
use Rattle.table.specs.laws.Table.{gangs_room}
use Rattle.wire.specs.declared.answer.Answer.{Answer}
use Rattle.wire.specs.declared.answer.Answer.TheVariants.{Served, Skipped}
use Rattle.wire.specs.declared.event.Event.{Event}
use Rattle.wire.specs.declared.event.Event.TheVariants as event
use Rattle.wire.specs.Answer.{answer_number}
use Rattle.effects.specs.Keeps.{below_last}
use Rattle.system.specs.declared.System.{System}
use Rattle.system.specs.declared.events.Reply.{Reply}
use Rattle.system.specs.System.{number_in}
use Rattle.system.specs.Events.{reply_of, served_by, skipped_by, apply_of}
use Rattle.effects.specs.Ways.{Accepts, serves_release, skips_release, finishes, waits, wakes, serves, counts, ticks}
use Rattle.effects.specs.WaysLaws.{by_way}
use Rattle.effects.specs.Facts.{Shaped}
use Rattle.effects.specs.Facts.{WellFormed}
use Rattle.effects.specs.WellFormedLaws.{formed_well}
use Rattle.effects.specs.Applied.{apply_well, apply_shaped, apply_keeps}
use Rattle.effects.specs.Run.{Entry, entry_with, system_after, history_by}
use Rattle.reached.specs.Reached.{after}
use Rattle.reached.specs.History.{entry_of, history, Numbered, took_release, served_release, skipped_release, select, taken_in, served_in}
use Rattle.reached.specs.History.{skipped_in, numbers_of, last_or, count_up}

-- ---- one entry: what it tells of gang g, whose ledger was l before it and is m after it

pub data Tallied (g : ℕ) (l m : Ledger) (x : Entry) : Type 0 where
  was_served : took_release g x ≡ true → served_release g x ≡ true → skipped_release g x ≡ false
      → answer_number x.answer ≡ number_at l g + 1 → WasServed l m g → Tallied g l m x
  was_skipped : took_release g x ≡ true → served_release g x ≡ false → skipped_release g x ≡ true
      → answer_number x.answer ≡ number_at l g + 1 → WasSkipped l m g → Tallied g l m x
  was_other : took_release g x ≡ false → served_release g x ≡ false → skipped_release g x ≡ false → SameAt l m g → Tallied g l m x

-- a release that was taken: its answer has the next number
pub tallied_number : {g : ℕ} {l m : Ledger} {x : Entry} → Tallied g l m x → took_release g x ≡ true → answer_number x.answer ≡ number_at l g + 1
tallied_number (was_served t v p n w) q = n
tallied_number (was_skipped t v p n w) q = n
tallied_number (was_other t v p w) q = absurd (clash q t)

-- a release that was served: its number is the job's
pub tallied_job : {g : ℕ} {l m : Ledger} {x : Entry} → Tallied g l m x → served_release g x ≡ true → job_at m g ≡ answer_number x.answer
tallied_job (was_served t v p n w) q = w.job_number ∙ sym n
tallied_job (was_skipped t v p n w) q = absurd (clash q v)
tallied_job (was_other t v p w) q = absurd (clash q v)

module _ (s : System) (h : Shaped s) (w : WellFormed s) where
  -- the reply r to e tells of gang g
  abbrev Tells : ℕ → Event → Reply → Type 0
  Tells g e r = Tallied g s.ledger r.system.ledger (entry_with e r)

  same : (g : ℕ) → SameAt s.ledger s.ledger g
  same g = record { same_number = refl; same_served = refl; same_skipped = refl; same_job = refl }

  served_tells : (d : ℕ) → d < s.table.sizes.gangs → (number_in s d ≡ last_number → ⊥)
      → (g : ℕ) → Tells g (event.Release d) (reply_of (served_by s d) (Served (number_in (served_by s d) d)))
  served_tells d l ne =
      at_or_away (λ (g : ℕ). Tells g (event.Release d) (reply_of (served_by s d) (Served (number_in (served_by s d) d)))) d
      (was_served (eq-eqb d d refl) (eq-eqb d d refl) refl here.next_number here)
      (λ g away. let e = ne_eqb d g (λ e. away (sym e)) in was_other e e refl (served_other s.ledger d g away))
    where
      here : WasServed s.ledger (served_of s.ledger d) d
      here =
          serve_raises s.table.sizes.gangs s.ledger d h.ledger_sized w.releases l
          (gangs_room s.table w.table) (below_last s h w d ne)

  skipped_tells : (d : ℕ) → d < s.table.sizes.gangs → (number_in s d ≡ last_number → ⊥)
      → (g : ℕ) → Tells g (event.Release d) (reply_of (skipped_by s d) (Skipped (number_in (skipped_by s d) d)))
  skipped_tells d l ne =
      at_or_away (λ (g : ℕ). Tells g (event.Release d) (reply_of (skipped_by s d) (Skipped (number_in (skipped_by s d) d)))) d
      (was_skipped (eq-eqb d d refl) refl (eq-eqb d d refl) here.next_number here)
      (λ g away. let e = ne_eqb d g (λ e. away (sym e)) in was_other e refl e (skipped_other s.ledger d g away))
    where
      here : WasSkipped s.ledger (skipped_of s.ledger d) d
      here =
          skip_raises s.table.sizes.gangs s.ledger d h.ledger_sized w.releases l
          (gangs_room s.table w.table) (below_last s h w d ne)

  accepted_tells : (g : ℕ) {e : Event} {r : Reply} → Accepts s e r → Tells g e r
  accepted_tells g (serves_release {g = d} l ne q) = served_tells d l ne g
  accepted_tells g (skips_release {g = d} l ne q) = skipped_tells d l ne g
  accepted_tells g (finishes l q) = was_other refl refl refl (same g)
  accepted_tells g (waits l q) = was_other refl refl refl (same g)
  accepted_tells g (wakes l q) = was_other refl refl refl (same g)
  accepted_tells g (serves l) = was_other refl refl refl (same g)
  accepted_tells g (counts l m q) = was_other refl refl refl (same g)
  accepted_tells g ticks = was_other refl refl refl (same g)

  pub tells : (g : ℕ) (e : Event) → Tallied g s.ledger (apply_of s e).system.ledger (entry_of s e)
  tells g e =
      subst (Tells g e) (sym (apply_well s e (formed_well s w)))
      (by_way s e (Tells g e) (λ r q. was_other refl refl refl (same g)) (λ r q. accepted_tells g q))

-- ---- a run: what its history h tells of gang g, whose ledger was l before it and is m after it

pub record Tally (g : ℕ) (l m : Ledger) (h : List Entry) : Type 0 where
  pub number : number_at m g ≡ number_at l g + taken_in g h
  pub served : served_at m g ≡ served_at l g + served_in g h
  pub skipped : skipped_at m g ≡ skipped_at l g + skipped_in g h
  pub job : job_at m g ≡ last_or (job_at l g) (numbers_of (select (served_release g) h))
  pub adds_up : taken_in g h ≡ served_in g h + skipped_in g h
  pub in_order : numbers_of (select (took_release g) h) ≡ count_up (number_at l g + 1) (taken_in g h)

-- one entry more, before the others
more : (g : ℕ) (l k m : Ledger) (x : Entry) (h : List Entry) → Tallied g l k x → Tally g k m h → Tally g l m (x ∷ h)
unfolding select numbers_of last_or count_up
more g l k m x h (was_served t v p n w) y = record {
  number = rw t (omega (arith, y.number, w.next_number));
  served = rw v (omega (arith, y.served, w.one_served));
  skipped = rw p (omega (arith, y.skipped, w.skipped_stays));
  job = rw (v, n) (rw w.job_number at y.job);
  adds_up = rw (t, v, p) (omega (arith, y.adds_up));
  in_order = rw (t, n, y.in_order, w.next_number);
}
more g l k m x h (was_skipped t v p n w) y = record {
  number = rw t (omega (arith, y.number, w.next_number));
  served = rw v (omega (arith, y.served, w.served_stays));
  skipped = rw p (omega (arith, y.skipped, w.one_skipped));
  job = rw v (rw w.job_stays at y.job);
  adds_up = rw (t, v, p) (omega (arith, y.adds_up));
  in_order = rw (t, n, y.in_order, w.next_number);
}
more g l k m x h (was_other t v p w) y = record {
  number = rw t (omega (arith, y.number, w.same_number));
  served = rw v (omega (arith, y.served, w.same_served));
  skipped = rw p (omega (arith, y.skipped, w.same_skipped));
  job = rw v (rw w.same_job at y.job);
  adds_up = rw (t, v, p) y.adds_up;
  in_order = rw t (rw w.same_number at y.in_order);
}

pub tally : (g : ℕ) (s : System) → Shaped s → WellFormed s → (es : List Event) → Tally g s.ledger (after s es).ledger (history s es)
unfolding system_after history_by select numbers_of last_or count_up
tally g s h w [] = record { number = omega arith; served = omega arith; skipped = omega arith; job = refl; adds_up = refl; in_order = refl }
tally g s h w (e ∷ es) =
    more g s.ledger (apply_of s e).system.ledger (after (apply_of s e).system es).ledger
    (entry_of s e) (history (apply_of s e).system es) (tells s h w g e)
    (tally g (apply_of s e).system (apply_shaped s e h) (apply_keeps s e h w) es)

-- ---- a release, and what comes after it

numbered_number : (a : Answer) (n : ℕ) → Numbered a n → answer_number a ≡ n
numbered_number a n (inl q) = ap answer_number q
numbered_number a n (inr q) = ap answer_number q

-- no release served, no new job
none_served : (n : ℕ) (xs : List Entry) → length xs ≡ 0 → last_or n (numbers_of xs) ≡ n
unfolding numbers_of last_or
none_served n [] e = refl
none_served n (x ∷ xs) e = absurd (omega arith)

module _ (s : System) (h : Shaped s) (w : WellFormed s) (g n : ℕ) where
  numbered_taken : Numbered (apply_of s (event.Release g)).answer n → took_release g (entry_of s (event.Release g)) ≡ true
  numbered_taken (inl q) = rw q (eq-eqb g g refl)
  numbered_taken (inr q) = rw q (eq-eqb g g refl)

  pub numbered_next : Numbered (apply_of s (event.Release g)).answer n → n ≡ number_in s g + 1
  numbered_next q = sym (numbered_number _ n q) ∙ tallied_number (tells s h w g (event.Release g)) (numbered_taken q)

  served_job : (apply_of s (event.Release g)).answer ≡ Served n → job_at (apply_of s (event.Release g)).system.ledger g ≡ n
  served_job q = tallied_job (tells s h w g (event.Release g)) (rw q (eq-eqb g g refl)) ∙ ap answer_number q

  pub served_carries : (apply_of s (event.Release g)).answer ≡ Served n → (more : List Event)
      → served_in g (history (apply_of s (event.Release g)).system more) ≡ 0 → job_at (after (apply_of s (event.Release g)).system more).ledger g ≡ n
  served_carries q more none =
      (tally g (apply_of s (event.Release g)).system (apply_shaped s (event.Release g) h) (apply_keeps s (event.Release g) h w) more).job
      ∙ none_served _ _ none
      ∙ served_job q
