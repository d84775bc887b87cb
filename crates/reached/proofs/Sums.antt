-- A core's kept count is "the smaller of 1,000,000 and the true sum": by one entry, and so by all, from whatever the sum was before.
use Rattle.std.specs.Prelude.{ℕ, ◌+◌, ◌≤◌, ◌<◌, min, Bool, true, false, cond, ◌≡◌, leb, length}
use Rattle.std.proofs.Math.Path.{refl, sym}
use Rattle.std.proofs.Common.{◌∙◌, subst, get_or-set_same, get_or-set_other, le-leb, eq-eqb, ne_eqb}
use Rattle.std.specs.Prelude.{List, [], ◌∷◌, ◌++◌}
use Rattle.std.proofs.Math.Decide.{dec_le, ℕ_discrete}
use Rattle.std.proofs.Common.{arith}
use Rattle.std.proofs.lemmas.Bool.{lt-leb}
use Rattle.ranges.specs.laws.Logic.{at_or_away}
use Rattle.lists.specs.laws.Lists.{same_throughout}
use Rattle.state.specs.Allowance.{max_traffic, sum_of, stopped_at}
use Rattle.table.specs.Numbers.{max_cores}
use Rattle.table.specs.laws.Table.{cores_room}
use Rattle.wire.specs.declared.answer.Answer.TheVariants.{Counted}
use Rattle.wire.specs.declared.event.Event.{Event}
use Rattle.wire.specs.declared.event.Event.TheVariants as event
use Rattle.system.specs.declared.System.{System}
use Rattle.system.specs.declared.events.Reply.{Reply}
use Rattle.system.specs.System.{kept_in}
use Rattle.system.specs.Stop.{budget_in, stopped}
use Rattle.system.specs.Events.{reply_of, counted, apply_of}
use Rattle.effects.specs.Ways.{Accepts, serves_release, skips_release, finishes, waits, wakes, serves, counts, ticks}
use Rattle.effects.specs.WaysLaws.{by_way}
use Rattle.effects.specs.Facts.{Shaped}
use Rattle.effects.specs.Standing.{budget_fits}
use Rattle.effects.specs.Facts.{WellFormed}
use Rattle.effects.specs.WellFormedLaws.{formed_well}
use Rattle.effects.specs.Applied.{apply_well, apply_shaped, apply_keeps}
use Rattle.effects.specs.Run.{Entry, entry_with, system_after, history_by}
use Rattle.reached.specs.Reached.{after}
use Rattle.reached.specs.History.{entry_of, history}
use Rattle.reached.specs.TrueSum.{ticked, last_tick, grown_by, total_of, true_sum, truly_stopped}

-- ---- the true sum, entry after entry

-- the sum after an entry, where it was m before
abbrev pub grown : ℕ → ℕ → Entry → ℕ
grown c m x = cond (ticked x) 0 (m + grown_by c x)

unfoldable pub sum_from : ℕ → ℕ → List Entry → ℕ
sum_from c m [] = m
sum_from c m (x ∷ h) = sum_from c (grown c m x) h

true_or_false : {P : Type 0} (t : Bool) → (t ≡ true → P) → (t ≡ false → P) → P
true_or_false true p q = p refl
true_or_false false p q = q refl

module _ (c : ℕ) where
  -- m is what was counted between the last TICK, where `since` starts, and h
  sum_since : (h since : List Entry) (m : ℕ) → total_of c since ≡ m + total_of c h → sum_from c m h ≡ total_of c (last_tick since h)
  unfolding sum_from last_tick total_of
  sum_since [] since m e = omega arith
  sum_since (x ∷ h) since m e =
      true_or_false (ticked x)
      (λ p. rw p (sum_since h h 0 (omega arith)))
      (λ p. rw p (sum_since h since (m + grown_by c x) (omega arith)))

  pub sum_is : (h : List Entry) → sum_from c 0 h ≡ true_sum c h
  sum_is h = sum_since h h 0 (omega arith)

  sum_append : (m : ℕ) (h k : List Entry) → sum_from c m (h ++ k) ≡ sum_from c (sum_from c m h) k
  unfolding sum_from
  sum_append m [] k = refl
  sum_append m (x ∷ h) k = sum_append (grown c m x) h k

  -- one entry more, after the others: a TICK makes the sum 0, and a TRAFFIC of the core adds to it
  pub sum_after : (h : List Entry) (x : Entry) → true_sum c (h ++ (x ∷ [])) ≡ grown c (true_sum c h) x
  unfolding sum_from
  sum_after h x = sym (sum_is (h ++ (x ∷ []))) ∙ sum_append 0 h (x ∷ []) ∙ rw (sum_is h)

-- ---- one entry

-- a count that is kept at 1,000,000 stays the smaller of the two
kept_grows : (k m n : ℕ) → k ≡ min max_traffic m → sum_of k n ≡ min max_traffic (m + n)
unfolding sum_of
kept_grows k m n e = omega arith

module _ (s : System) (h : Shaped s) (w : WellFormed s) (m : ℕ) where
  -- core c's kept count after the reply r to e
  abbrev Keeps : ℕ → Event → Reply → Type 0
  Keeps c e r = kept_in s c ≡ min max_traffic m → kept_in r.system c ≡ min max_traffic (grown c m (entry_with e r))

  counted_adds : (d n : ℕ) → d < s.table.sizes.cores → (c : ℕ)
      → Keeps c (event.Traffic d n) (reply_of (counted s d n) (Counted (stopped (counted s d n) d) (kept_in (counted s d n) d)))
  counted_adds d n l =
      at_or_away
      (λ (c : ℕ). Keeps c (event.Traffic d n) (reply_of (counted s d n) (Counted (stopped (counted s d n) d) (kept_in (counted s d n) d))))
      d
      (λ k. get_or-set_same s.kept d (sum_of (kept_in s d) n) 0 in_room ∙ rw (eq-eqb d d refl) (kept_grows (kept_in s d) m n k))
      (λ c away k. get_or-set_other s.kept d c (sum_of (kept_in s d) n) 0 away ∙ rw (ne_eqb d c (λ e. away (sym e))) (omega arith))
    where
      in_room : d < length s.kept
      in_room = let a = cores_room s.table w.table in let b = h.kept_size in omega arith

  accepted_keeps : (c : ℕ) {e : Event} {r : Reply} → Accepts s e r → Keeps c e r
  accepted_keeps c (serves_release l ne q) k = omega arith
  accepted_keeps c (skips_release l ne q) k = omega arith
  accepted_keeps c (finishes l q) k = omega arith
  accepted_keeps c (waits l q) k = omega arith
  accepted_keeps c (wakes l q) k = omega arith
  accepted_keeps c (serves l) k = omega arith
  accepted_keeps c (counts {c = d} {n = n} l j q) k = counted_adds d n l c k
  accepted_keeps c ticks k = same_throughout max_cores c 0

  entry_keeps : (c : ℕ) (e : Event) → kept_in s c ≡ min max_traffic m → kept_in (apply_of s e).system c ≡ min max_traffic (grown c m (entry_of s e))
  entry_keeps c e =
      subst (Keeps c e) (sym (apply_well s e (formed_well s w)))
      (by_way s e (Keeps c e) (λ r q k. omega arith) (λ r q. accepted_keeps c q))

-- ---- a run

pub run_keeps : (c : ℕ) (s : System) → Shaped s → WellFormed s → (m : ℕ) → kept_in s c ≡ min max_traffic m
    → (es : List Event) → kept_in (after s es) c ≡ min max_traffic (sum_from c m (history s es))
unfolding system_after history_by sum_from
run_keeps c s h w m k [] = k
run_keeps c s h w m k (e ∷ es) =
    run_keeps c (apply_of s e).system (apply_shaped s e h) (apply_keeps s e h w) (grown c m (entry_of s e)) (entry_keeps s h w m c e k) es

-- ---- the stop rule

-- against a budget of at most 1,000,000 the smaller of 1,000,000 and a sum does as well as the sum
same_test : (budget sum : ℕ) → budget ≤ max_traffic → leb budget (min max_traffic sum) ≡ leb budget sum
same_test budget sum fits = go (dec_le budget sum)
  where
    go : Dec (budget ≤ sum) → leb budget (min max_traffic sum) ≡ leb budget sum
    go (yes l) = le-leb budget (min max_traffic sum) (omega arith) ∙ sym (le-leb budget sum l)
    go (no l) = lt-leb budget (min max_traffic sum) (omega arith) ∙ sym (lt-leb budget sum (omega arith))

module _ (s : System) (w : WellFormed s) (c : ℕ) (h : List Entry) (k : kept_in s c ≡ min max_traffic (true_sum c h)) where
  pub stops_alike : stopped s c ≡ truly_stopped s h c
  unfolding stopped_at
  stops_alike = go (ℕ_discrete s.lock.holder 255)
    where
      go : Dec (s.lock.holder ≡ 255) → stopped s c ≡ truly_stopped s h c
      go (yes free) = rw (eq-eqb s.lock.holder 255 free)
      go (no held) =
          rw (k, same_test (budget_in s) (true_sum c h) (budget_fits s w held))

-- "TRAFFIC, 1 stopped, 0 not"; "TRAFFIC, the kept count": both of the system that it leaves
module _ (s : System) (w : WellFormed s) (c n : ℕ) (stop : Bool) (count : ℕ) where
  abbrev pub TrafficTells : Reply → Type 0
  TrafficTells r = r.answer ≡ Counted stop count → (stop ≡ stopped r.system c) × (count ≡ kept_in r.system c)

  pub counted_tells : TrafficTells (apply_of s (event.Traffic c n))
  counted_tells =
      subst TrafficTells (sym (apply_well s (event.Traffic c n) (formed_well s w)))
      (by_way s (event.Traffic c n) TrafficTells (λ r w q. let z : ◌≡◌ {A = ℕ} 0 1 = cc in absurd (omega arith)) go)
    where
      go : (r : Reply) → Accepts s (event.Traffic c n) r → TrafficTells r
      go r (counts l m o) q = (cc, cc)
