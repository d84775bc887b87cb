-- Which cores owe once a gang's threads are made ready: those that did, and those of its threads.
use Rattle.std.specs.Prelude.{ℕ, zero, suc, ◌<◌, ◌≤◌, ◌^◌}
use Rattle.std.specs.Prelude.{Bool, true, false, cond, ◌&&◌, ◌||◌, ◌≡◌, List, ◌⊎◌, eqb}
use Rattle.std.proofs.Math.Bool.{or-false, or-true, or_assoc}
use Rattle.std.proofs.Math.Path.{refl, sym}
use Rattle.std.proofs.Common.{ap, ◌∙◌, inl, inr, ⊎_elim, arith, eq-eqb, eqb-true}
use Rattle.std.proofs.Math.Decide.{dec_lt}
use Rattle.coreset.specs.Set.{has, within_width}
use Rattle.coreset.specs.laws.Members.{has_within, within_past, within_lt}
use Rattle.ranges.specs.laws.Logic.{clash, is_false, both, either}
use Rattle.ranges.specs.Range.{some}
use Rattle.ranges.specs.laws.Range.{FoundBelow, some_found, make_some}
use Rattle.table.specs.Order.{gang_of, core_of}
use Rattle.state.specs.Threads.{owed_by}
use Rattle.state.specs.HasThread.{HasThread}

-- the test of it: thread t is gang g's, and pinned to core d
abbrev pinned_of : List ℕ → List ℕ → ℕ → ℕ → ℕ → Bool
pinned_of core gang g d t = eqb (gang_of gang t) g && eqb (core_of core t) d

module _ (core gang : List ℕ) (g : ℕ) where
  -- a core owes exactly if it did, or if gang g has a thread there
  owed_has : (n owing d : ℕ) → d < 32 → has (owed_by core gang g n owing) d ≡ (has owing d || some n (pinned_of core gang g d))
  unfolding owed_by some
  owed_has zero owing d l = sym (or-false (has owing d))
  owed_has (suc n) owing d l = go (eqb (gang_of gang n) g) (owed_has n owing d l)
    where
      o : ℕ
      o = owed_by core gang g n owing

      s : Bool
      s = some n (pinned_of core gang g d)

      go : (x : Bool) → has o d ≡ (has owing d || s)
          → has (cond x (within_width 32 o (core_of core n)) o) d ≡ (has owing d || (s || (x && eqb (core_of core n) d)))
      go true h =
          has_within 32 o (core_of core n) d l
          ∙ ap (λ (x : Bool). x || eqb (core_of core n) d) h
          ∙ or_assoc (has owing d) s (eqb (core_of core n) d)
      go false h = h ∙ ap (λ (x : Bool). has owing d || x) (sym (or-false s))

  owed_past : (n owing d : ℕ) → 32 ≤ d → has (owed_by core gang g n owing) d ≡ has owing d
  unfolding owed_by
  owed_past zero owing d l = refl
  owed_past (suc n) owing d l =
      let h = owed_past n owing d l in
      either (λ (o : ℕ). has o d ≡ has owing d) (eqb (gang_of gang n) g)
      (λ q. within_past 32 (owed_by core gang g n owing) (core_of core n) d l ∙ h) (λ q. h)

  pub owed_fits : (n owing : ℕ) → owing < 2 ^ 32 → owed_by core gang g n owing < 2 ^ 32
  unfolding owed_by
  owed_fits zero owing l = l
  owed_fits (suc n) owing l =
      let h = owed_fits n owing l in
      either (λ (o : ℕ). o < 2 ^ 32) (eqb (gang_of gang n) g) (λ q. within_lt 32 (owed_by core gang g n owing) (core_of core n) h) (λ q. h)

module _ (core gang : List ℕ) (g n owing : ℕ) where
  abbrev after : ℕ
  after = owed_by core gang g n owing

  -- a core that owed owes still
  pub owed_still : (d : ℕ) → has owing d ≡ true → has after d ≡ true
  owed_still d h = go (dec_lt d 32)
    where
      go : Dec (d < 32) → has after d ≡ true
      go (yes l) = owed_has core gang g n owing d l ∙ ap (λ (x : Bool). x || some n (pinned_of core gang g d)) h
      go (no l) = owed_past core gang g n owing d (omega arith) ∙ h

  -- the core of a thread of gang g's owes
  pub owed_thread : (d : ℕ) → d < 32 → HasThread core gang g n d → has after d ≡ true
  owed_thread d l w =
      let p : pinned_of core gang g d w.thread ≡ true =
      rw (eq-eqb (gang_of gang w.thread) g w.its_gang, eq-eqb (core_of core w.thread) d w.its_core) in
      let found = make_some n (pinned_of core gang g d) w.thread w.below p in
      owed_has core gang g n owing d l ∙ ap (λ (x : Bool). has owing d || x) found ∙ or-true (has owing d)

  -- and no other core does
  owed_only : (d : ℕ) → has after d ≡ true → (has owing d ≡ true) ⊎ HasThread core gang g n d
  owed_only d h = go (dec_lt d 32)
    where
      found : FoundBelow n (pinned_of core gang g d) → HasThread core gang g n d
      found f =
          let b = both (eqb (gang_of gang f.at) g) (eqb (core_of core f.at) d) f.holds in
          record {
            thread = f.at;
            below = f.below;
            its_gang = eqb-true (gang_of gang f.at) g b.0;
            its_core = eqb-true (core_of core f.at) d b.1;
          }

      pick : (x : Bool) → has owing d ≡ x → (x || some n (pinned_of core gang g d)) ≡ true
          → (has owing d ≡ true) ⊎ HasThread core gang g n d
      pick true e q = inl e
      pick false e q = inr (found (some_found n (pinned_of core gang g d) q))

      go : Dec (d < 32) → (has owing d ≡ true) ⊎ HasThread core gang g n d
      go (yes l) = pick (has owing d) refl (sym (owed_has core gang g n owing d l) ∙ h)
      go (no l) = inl (sym (owed_past core gang g n owing d (omega arith)) ∙ h)

  -- so a core with no thread of gang g's is as it was
  pub owed_elsewhere : (d : ℕ) → (HasThread core gang g n d → ⊥) → has after d ≡ has owing d
  owed_elsewhere d ne = go (has owing d) refl
    where
      go : (x : Bool) → has owing d ≡ x → has after d ≡ x
      go true e = owed_still d e
      go false e = is_false (has after d) (λ h. ⊎_elim (λ k. clash k e) ne (owed_only d h))

  -- and they are cores that exist, where those that owed and those of the threads are
  pub owed_in : (cores : ℕ) → ((t : ℕ) → t < n → core_of core t < cores) → ((d : ℕ) → has owing d ≡ true → d < cores)
      → (d : ℕ) → has after d ≡ true → d < cores
  owed_in cores there was d h =
      ⊎_elim (was d)
      (λ (w : HasThread core gang g n d). let l = there w.thread w.below in let e = w.its_core in omega arith)
      (owed_only d h)
