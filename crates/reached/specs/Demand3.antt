-- Demand 3: "From any state reached from an accepted table by any events", serving owing cores in any order serves no core more than three times,
-- so it ends,
-- and when none owes the whole system is the same for every order. Its shape is in AtRest.
use Rattle.std.specs.Prelude.{ℕ, zero, suc, ◌+◌, ◌*◌, ◌<◌, ◌≤◌, ◌≡◌, List, [], ◌∷◌, ◌++◌, ◌⊎◌, length}
use Rattle.std.proofs.Common.{sym, ap, ◌∙◌, inl, inr, ⊎_elim, arith, length-append}
use Rattle.std.proofs.Math.Decide.{ℕ_discrete}
use Rattle.coreset.specs.Counting.{some_core}
use Rattle.lock.specs.Times.{times}
use Rattle.lock.specs.laws.Times.{thrice_ends}
use Rattle.lock.proofs.Thrice.{thrice, one_lock}
use Rattle.system.specs.declared.System.{System}
use Rattle.system.specs.System.{with_lock}
use Rattle.reached.specs.Reached.{Reached}
use Rattle.reached.specs.Formed.{reached_accepted}
use Rattle.reached.specs.WorldOf.{world_of}
use Rattle.reached.specs.GoodReached.{reached_good}
use Rattle.reached.specs.Services.{ServeRule, ServesBy, Serves, done, then, serve_in, serves_on, serves_reached, runs_in}

-- no core owes
abbrev pub NoneOwes : System → Type 0
NoneOwes s = s.lock.owing ≡ 0

module _ {s : System} (R : Reached s) where
  -- no core is served more than three times
  pub three_services : {r : System} {cs : List ℕ} → Serves s cs r → (d : ℕ) → times d cs ≤ 3
  three_services v = thrice (world_of s (reached_accepted R)) (reached_good R) (runs_in R v).run

  -- so serving ends: there are at most three services for each core of the table
  pub serving_ends : {r : System} {cs : List ℕ} → Serves s cs r → length cs ≤ 3 * s.table.sizes.cores
  serving_ends {cs = cs} v = thrice_ends s.table.sizes.cores cs (runs_in R v).of_cores (three_services v)

  -- and nothing but the lock changes
  pub all_but_lock : {r : System} {cs : List ℕ} → Serves s cs r → r ≡ with_lock s r.lock
  all_but_lock v = (runs_in R v).all_but_lock

  -- every order that comes to where none owes comes to one and the same system
  pub one_rest : {r r' : System} {cs cs' : List ℕ} → Serves s cs r → Serves s cs' r' → NoneOwes r → NoneOwes r' → r ≡ r'
  one_rest v v' e e' =
      all_but_lock v
      ∙ ap (with_lock s) (one_lock (world_of s (reached_accepted R)) (reached_good R) (runs_in R v).run (runs_in R v').run e e')
      ∙ sym (all_but_lock v')

-- ---- it comes to where none owes

-- in whatever order the cores have been served, none owes, or one that does can be served next
pub rests_or_goes_on : {s t : System} {cs : List ℕ} → Serves s cs t → NoneOwes t ⊎ ((c : ℕ) × Serves s (cs ++ (c ∷ [])) (serve_in t c))
rests_or_goes_on {s} {t} {cs} v = go (ℕ_discrete t.lock.owing 0)
  where
    go : Dec (NoneOwes t) → NoneOwes t ⊎ ((c : ℕ) × Serves s (cs ++ (c ∷ [])) (serve_in t c))
    go (yes e) = inl e
    go (no ne) = let w = some_core t.lock.owing ne in inr (w.0, serves_on v (then w.1 done))

-- services of owing cores by a rule up to where none owes
pub record Rest (rule : ServeRule) (s : System) : Type 0 where
  pub services : List ℕ
  pub system : System
  pub serves : ServesBy rule s services system
  pub none_owes : NoneOwes system

-- n services more are enough where n and those before pass the bound
rest_within : {s : System} (R : Reached s) (n : ℕ) {t : System} (cs : List ℕ) → Serves s cs t → 3 * s.table.sizes.cores < length cs + n
    → Rest serve_in s
rest_within R zero cs v h = let b = serving_ends R v in absurd (omega arith)
rest_within {s} R (suc n) {t} cs v h =
    ⊎_elim (λ e. record { services = cs; system = t; serves = v; none_owes = e })
    (λ (w : (c : ℕ) × Serves s (cs ++ (c ∷ [])) (serve_in t c)).
    rest_within R n (cs ++ (w.0 ∷ [])) w.1 (let e = length-append cs (w.0 ∷ []) in omega arith))
    (rests_or_goes_on v)

pub rest_exists : {s : System} → Reached s → Rest serve_in s
rest_exists {s} R = rest_within R (suc (3 * s.table.sizes.cores)) [] done (omega arith)

-- which is a reached state, so that AtRest says what it is
pub rest_reached : {s : System} → Reached s → (q : Rest serve_in s) → Reached q.system
rest_reached R q = serves_reached q.serves R
