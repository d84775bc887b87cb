-- A list of numbers below k in which each stands at most three times has at most 3 * k of them.
use Rattle.std.specs.Prelude.{ℕ, zero, suc, ◌+◌, ◌*◌, ◌<◌, ◌≤◌, ◌≡◌, refl, List, [], ◌∷◌, length}
use Rattle.std.proofs.Common.{sym, ◌∙◌, arith, eq-eqb, ne_eqb}
use Rattle.std.proofs.Math.Decide.{ℕ_discrete, dec_lt}
use Rattle.lock.specs.Times.{times}

-- how often the numbers below k stand in the list
total : ℕ → List ℕ → ℕ
total zero cs = 0
total (suc k) cs = times k cs + total k cs

times_here : (c : ℕ) (cs : List ℕ) → times c (c ∷ cs) ≡ suc (times c cs)
unfolding times
times_here c cs = rw (eq-eqb c c refl)

times_away : (d c : ℕ) (cs : List ℕ) → (d ≡ c → ⊥) → times d (c ∷ cs) ≡ times d cs
unfolding times
times_away d c cs ne = rw (ne_eqb d c ne)

total_past : (k c : ℕ) (cs : List ℕ) → k ≤ c → total k (c ∷ cs) ≡ total k cs
unfolding total
total_past zero c cs h = refl
total_past (suc k) c cs h = let i = total_past k c cs (omega arith) in let t = times_away k c cs (omega arith) in omega arith

total_one : (k c : ℕ) (cs : List ℕ) → c < k → total k (c ∷ cs) ≡ suc (total k cs)
unfolding total
total_one zero c cs h = absurd (omega arith)
total_one (suc k) c cs h = go (ℕ_discrete k c) (total_one k c cs)
  where
    go : Dec (k ≡ c) → (c < k → total k (c ∷ cs) ≡ suc (total k cs)) → times k (c ∷ cs) + total k (c ∷ cs) ≡ suc (times k cs + total k cs)
    go (yes e) f =
        let i = total_past k c cs (omega arith) in
        let t : times k (c ∷ cs) ≡ suc (times k cs) = rw e (times_here c cs) in
        omega arith
    go (no e) f = let i = f (omega arith) in let t = times_away k c cs e in omega arith

total_le : (k : ℕ) (cs : List ℕ) → ((d : ℕ) → times d cs ≤ 3) → total k cs ≤ 3 * k
unfolding total
total_le zero cs h = omega arith
total_le (suc k) cs h = let i = total_le k cs h in let t = h k in omega arith

-- no number from k on stands in the list
abbrev pub NonePast : ℕ → List ℕ → Type 0
NonePast k cs = (d : ℕ) → k ≤ d → times d cs ≡ 0

pub none_past_nil : (k : ℕ) → NonePast k []
unfolding times
none_past_nil k d h = refl

pub none_past_cons : (k c : ℕ) (cs : List ℕ) → c < k → NonePast k cs → NonePast k (c ∷ cs)
none_past_cons k c cs l n d h = times_away d c cs (omega arith) ∙ n d h

length_total : (k : ℕ) (cs : List ℕ) → NonePast k cs → length cs ≤ total k cs
length_total k [] n = omega arith
length_total k (c ∷ cs) n = go (dec_lt c k) (length_total k cs)
  where
    go : Dec (c < k) → (NonePast k cs → length cs ≤ total k cs) → length (c ∷ cs) ≤ total k (c ∷ cs)
    go (yes l) f =
        let i = f (λ d h. sym (times_away d c cs (omega arith)) ∙ n d h) in
        let t = total_one k c cs l in
        omega arith
    go (no l) f = let z = n c (omega arith) in let t = times_here c cs in absurd (omega arith)

pub thrice_ends : (k : ℕ) (cs : List ℕ) → NonePast k cs → ((d : ℕ) → times d cs ≤ 3) → length cs ≤ 3 * k
thrice_ends k cs n h = let i = length_total k cs n in let t = total_le k cs h in omega arith
