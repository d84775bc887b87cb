-- What the tests of 6 say: of what fits, and of what is "out of range or not in the table".
use Rattle.std.specs.Prelude.{ℕ, ◌≤◌, ◌<◌, Bool, true, false, ◌&&◌, ◌⊎◌, ◌≡◌, refl, ltb, leb}
use Rattle.std.proofs.Math.Bool.{and-false}
use Rattle.std.proofs.Common.{inl, inr, arith, lt-ltb, le-ltb, ltb-true, ltb-false, le-leb, leb-true, leb-false}
use Rattle.std.proofs.lemmas.Bool.{lt-leb}
use Rattle.table.specs.Numbers.{top_priority, max_budget}
use Rattle.table.specs.Rules.{within}
use Rattle.ranges.specs.laws.Logic.{both}
use Rattle.reading.specs.Building.{Priority, Budget, Below}
use Rattle.reading.specs.Rows.{NotOneTo}
use Rattle.reading.specs.Taken.{gang_fits, thread_fits}

-- ---- what fits

pub in_range : (x high : ℕ) → within 1 x high ≡ true → (1 ≤ x) × (x ≤ high)
unfolding within
in_range x high e = let w = both (leb 1 x) (leb x high) e in (leb-true 1 x w.0, leb-true x high w.1)

pub make_range : (x high : ℕ) → 1 ≤ x → x ≤ high → within 1 x high ≡ true
unfolding within
make_range x high l m = rw (le-leb 1 x l, le-leb x high m)

pub gang_fits_lem : (p m : ℕ) → gang_fits p m ≡ true → Priority p × Budget m
unfolding gang_fits
gang_fits_lem p m e = let w = both (within 1 p top_priority) (leb m max_budget) e in (in_range p top_priority w.0, leb-true m max_budget w.1)

pub make_gang : (p m : ℕ) → Priority p → Budget m → gang_fits p m ≡ true
unfolding gang_fits
make_gang p m l k = rw (make_range p top_priority l.0 l.1, le-leb m max_budget k)

pub thread_fits_lem : (g gangs c cores : ℕ) → thread_fits g gangs c cores ≡ true → Below gangs g × Below cores c
unfolding thread_fits
thread_fits_lem g gangs c cores e = let w = both (ltb g gangs) (ltb c cores) e in (ltb-true g gangs w.0, ltb-true c cores w.1)

pub make_thread : (g gangs c cores : ℕ) → g < gangs → c < cores → thread_fits g gangs c cores ≡ true
unfolding thread_fits
make_thread g gangs c cores l k = rw (lt-ltb g gangs l, lt-ltb c cores k)

-- ---- and what does not

-- one of the halves of a test fails
one_fails : (x y : Bool) → (x && y) ≡ false → (x ≡ false) ⊎ (y ≡ false)
one_fails true y e = inr e
one_fails false y e = inl refl

pub out_of_range : (x high : ℕ) → within 1 x high ≡ false → NotOneTo high x
unfolding within
out_of_range x high e = go (one_fails (leb 1 x) (leb x high) e)
  where
    go : (leb 1 x ≡ false) ⊎ (leb x high ≡ false) → NotOneTo high x
    go (inl q) = inl (omega (arith, leb-false 1 x q))
    go (inr q) = inr (leb-false x high q)

pub not_range : (x high : ℕ) → NotOneTo high x → within 1 x high ≡ false
unfolding within
not_range x high (inl z) = rw (lt-leb 1 x (omega arith))
not_range x high (inr l) = rw (lt-leb x high l) (and-false (leb 1 x))

pub gang_unfit : (p m : ℕ) → gang_fits p m ≡ false → NotOneTo top_priority p ⊎ (max_budget < m)
unfolding gang_fits
gang_unfit p m e = go (one_fails (within 1 p top_priority) (leb m max_budget) e)
  where
    go : (within 1 p top_priority ≡ false) ⊎ (leb m max_budget ≡ false) → NotOneTo top_priority p ⊎ (max_budget < m)
    go (inl q) = inl (out_of_range p top_priority q)
    go (inr q) = inr (leb-false m max_budget q)

pub unfit_priority : (p m : ℕ) → NotOneTo top_priority p → gang_fits p m ≡ false
unfolding gang_fits
unfit_priority p m o = rw (not_range p top_priority o)

pub unfit_budget : (p m : ℕ) → max_budget < m → gang_fits p m ≡ false
unfolding gang_fits
unfit_budget p m l = rw (lt-leb m max_budget l) (and-false (within 1 p top_priority))

pub thread_unfit : (g gangs c cores : ℕ) → thread_fits g gangs c cores ≡ false → (gangs ≤ g) ⊎ (cores ≤ c)
unfolding thread_fits
thread_unfit g gangs c cores e = go (one_fails (ltb g gangs) (ltb c cores) e)
  where
    go : (ltb g gangs ≡ false) ⊎ (ltb c cores ≡ false) → (gangs ≤ g) ⊎ (cores ≤ c)
    go (inl q) = inl (ltb-false g gangs q)
    go (inr q) = inr (ltb-false c cores q)

pub unfit_gang : (g gangs c cores : ℕ) → gangs ≤ g → thread_fits g gangs c cores ≡ false
unfolding thread_fits
unfit_gang g gangs c cores l = rw (le-ltb g gangs l)

pub unfit_core : (g gangs c cores : ℕ) → cores ≤ c → thread_fits g gangs c cores ≡ false
unfolding thread_fits
unfit_core g gangs c cores l = rw (le-ltb c cores l) (and-false (ltb g gangs))
