-- A table's end goes one of the ways of `Rows`; and what each comes to.
use Rattle.std.specs.Prelude.{ℕ, zero, suc, ◌<◌, Bool, true, false, ◌&&◌, ◌≡◌, refl, eqb}
use Rattle.std.proofs.Common.{true≢false, arith, eqb-true}
use Rattle.std.proofs.Math.Decide.{ℕ_discrete}
use Rattle.std.proofs.lemmas.Bool.{eqb-false}
use Rattle.ranges.specs.Range.{every}
use Rattle.ranges.specs.laws.Logic.{either}
use Rattle.ranges.specs.laws.Range.{not_every}
use Rattle.table.specs.declared.Table.{Table}
use Rattle.table.specs.Occurs.{occurs}
use Rattle.table.specs.Rules.{manned, manned_hold}
use Rattle.table.specs.laws.Occurs.{not_occurs, make_not_occurs}
use Rattle.table.specs.laws.Parts.{manned_ok, ok_manned}
use Rattle.wire.specs.Refusal.{number_of}
use Rattle.wire.specs.declared.refusal.Refusal.{Refusal}
use Rattle.wire.specs.declared.refusal.Refusal.TheVariants.{Unfinished}
use Rattle.reading.specs.Verdict.{Accepted, Refused}
use Rattle.reading.specs.Ending.{ending}
use Rattle.reading.specs.Rows.{ThreadRead, RefusesEnd, ends_without_cores, ends_without_gang, ends_without_thread, AcceptsEnd}
use Rattle.reading.specs.Rows.{EndWay, end_bad, end_good}
use Rattle.reading.specs.laws.Ending.{ends_no_cores, ends_no_gang, ends_unmanned, ends_whole}

-- a number below n of which p does not hold
record FailsBelow (n : ℕ) (p : ℕ → Bool) : Type 0 where
  at : ℕ
  below : at < n
  fails : p at ≡ false

every_fails : (n : ℕ) (p : ℕ → Bool) → every n p ≡ false → FailsBelow n p
unfolding every
every_fails zero p e = absurd (true≢false e)
every_fails (suc n) p e = go (every n p) e (every_fails n p)
  where
    go : (x : Bool) → (x && p n) ≡ false → (x ≡ false → FailsBelow n p) → FailsBelow (suc n) p
    go true q f = record { at = n; below = omega arith; fails = q }
    go false q f = let k = f refl in record { at = k.at; below = let l : k.at < n = k.below in omega arith; fails = k.fails }

module _ (b : Table) where
  abbrev has_thread : ℕ → Bool
  has_thread = occurs b.gang b.sizes.threads

  no_thread : (g : ℕ) → has_thread g ≡ false → ThreadRead b g → ⊥
  no_thread g e k = not_occurs b.gang b.sizes.threads g e k.at k.below k.stands

  unmanned : manned_hold b ≡ false → RefusesEnd b Unfinished
  unfolding manned
  unmanned e =
      let k = every_fails b.sizes.gangs has_thread e in
      ends_without_thread k.at k.below (no_thread k.at k.fails)

  pub end_way : EndWay b (ending b)
  unfolding ending
  end_way =
      either (EndWay b) (eqb b.sizes.cores 0)
      (λ x. end_bad (ends_without_cores (eqb-true b.sizes.cores 0 x)))
      (λ x.
      either (EndWay b) (eqb b.sizes.gangs 0)
      (λ y. end_bad (ends_without_gang (eqb-true b.sizes.gangs 0 y)))
      (λ y.
      either (EndWay b) (manned_hold b)
      (λ z.
      end_good (record {
        has_cores = omega (arith, eqb-false b.sizes.cores 0 x);
        has_gang = omega (arith, eqb-false b.sizes.gangs 0 y);
        all_manned = manned_ok b.gang b.sizes.gangs b.sizes.threads z;
      }))
      (λ z. end_bad (unmanned z))))

  -- ---- and what each comes to

  not_manned : (g : ℕ) → g < b.sizes.gangs → (ThreadRead b g → ⊥) → manned_hold b ≡ false
  unfolding manned
  not_manned g l none =
      not_every b.sizes.gangs has_thread g l
      (make_not_occurs b.gang b.sizes.threads g (λ i k q. none (record { at = i; below = k; stands = q })))

  -- row 8 names its cases in no order
  no_gang_ends : b.sizes.gangs ≡ 0 → Dec (b.sizes.cores ≡ 0) → ending b ≡ Refused Unfinished
  no_gang_ends e (yes z) = ends_no_cores b z
  no_gang_ends e (no ne) = ends_no_gang b ne e

  unmanned_ends : manned_hold b ≡ false → Dec (b.sizes.cores ≡ 0) → Dec (b.sizes.gangs ≡ 0) → ending b ≡ Refused Unfinished
  unmanned_ends e (yes z) y = ends_no_cores b z
  unmanned_ends e (no ne) (yes z) = ends_no_gang b ne z
  unmanned_ends e (no ne) (no nf) = ends_unmanned b ne nf e

  pub end_refuses : {r : Refusal} → RefusesEnd b r → ending b ≡ Refused r
  end_refuses (ends_without_cores e) = ends_no_cores b e
  end_refuses (ends_without_gang e) = no_gang_ends e (ℕ_discrete b.sizes.cores 0)
  end_refuses (ends_without_thread g l none) =
      unmanned_ends (not_manned g l none) (ℕ_discrete b.sizes.cores 0) (ℕ_discrete b.sizes.gangs 0)

  pub end_accepts : AcceptsEnd b → ending b ≡ Accepted
  end_accepts w =
      let c = w.has_cores in
      let g = w.has_gang in
      ends_whole b (λ e. omega arith) (λ e. omega arith) (ok_manned b.gang b.sizes.gangs b.sizes.threads w.all_manned)

  pub end_number : {r : Refusal} → RefusesEnd b r → number_of r ≡ 8
  end_number (ends_without_cores e) = refl
  end_number (ends_without_gang e) = refl
  end_number (ends_without_thread g l none) = refl
