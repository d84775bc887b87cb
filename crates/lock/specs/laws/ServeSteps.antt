-- The ways that SERVE can go, as cases to take apart: first steps (a) and (b), then step (c).
use Rattle.std.specs.Prelude.{ℕ, ◌<◌, Bool, true, false, ◌≡◌, refl, ◌⊎◌}
use Rattle.std.proofs.Common.{sym, ap, ◌∙◌, inl, inr, ⊎_elim, arith}
use Rattle.std.proofs.Math.Decide.{ℕ_discrete, dec_lt}
use Rattle.coreset.specs.Set.{has, without_core}
use Rattle.coreset.specs.laws.Members.{has_with_other, has_without_other, has_empty}
use Rattle.lock.specs.declared.Lock.{Lock}
use Rattle.lock.specs.Serve.{
  unmarked_of,
  freed_of,
  vacated_of,
  settled_of,
  left_of,
  locked_for,
  displaced_of,
  blocked_of,
  claimed_of,
  admitted_of,
  serve_by,
  serve_of,
}
use Rattle.lock.specs.laws.ServeCases.{
  settled_none,
  settled_some,
  left_gives_up,
  claimed_free,
  claimed_same,
  claimed_ahead,
  claimed_behind,
  admitted_none,
  admitted_some,
  serve_core,
  serve_beyond,
}

-- (a) and (b), where t is c's first ready thread, of gang g: the lock is freed, or kept by another core
pub data Left (t g : ℕ) (l : Lock) (c : ℕ) : Lock → Type 0 where
  freed : without_core l.locked c ≡ 0 → Left t g l c (freed_of (vacated_of (unmarked_of l c) c))
  kept : (without_core l.locked c ≡ 0 → ⊥) → Left t g l c (vacated_of (unmarked_of l c) c)

left_way : (t g : ℕ) (l : Lock) (c : ℕ) → Left t g l c (left_of (unmarked_of l c) c t g)
left_way t g l c = rw (left_gives_up (unmarked_of l c) c t g) (go (ℕ_discrete (without_core l.locked c) 0))
  where
    go : Dec (without_core l.locked c ≡ 0) → Left t g l c (settled_of (vacated_of (unmarked_of l c) c))
    go (yes e) = rw (settled_none (vacated_of (unmarked_of l c) c) e) (freed e)
    go (no e) = rw (settled_some (vacated_of (unmarked_of l c) c) e) (kept e)

-- (c), for thread t of gang g, ahead of the holder where a: nobody is ready, the lock is free or its own gang's, it is seized, or c is blocked
pub data Admitted (t g : ℕ) (a : Bool) (m : Lock) (c : ℕ) : Lock → Type 0 where
  none : t ≡ 255 → Admitted t g a m c m
  took : (t ≡ 255 → ⊥) → (m.holder ≡ 255) ⊎ (m.holder ≡ g) → Admitted t g a m c (locked_for m c t g)
  seized : (t ≡ 255 → ⊥) → (m.holder ≡ 255 → ⊥) → (m.holder ≡ g → ⊥) → a ≡ true → Admitted t g a m c (locked_for (displaced_of m) c t g)
  blocked : (t ≡ 255 → ⊥) → (m.holder ≡ 255 → ⊥) → (m.holder ≡ g → ⊥) → a ≡ false → Admitted t g a m c (blocked_of m c)

module _ (t g : ℕ) (a : Bool) (m : Lock) (c : ℕ) where
  claimed_way : (t ≡ 255 → ⊥) → Admitted t g a m c (claimed_of m c t g a)
  claimed_way n = go (ℕ_discrete m.holder 255) (ℕ_discrete m.holder g) a refl
    where
      go : Dec (m.holder ≡ 255) → Dec (m.holder ≡ g) → (x : Bool) → a ≡ x → Admitted t g a m c (claimed_of m c t g a)
      go (yes e) d x p = rw (claimed_free m c t g a e) (took n (inl e))
      go (no e) (yes d) x p = rw (claimed_same m c t g a e d) (took n (inr d))
      go (no e) (no d) true p = rw (claimed_ahead m c t g a e d p) (seized n e d p)
      go (no e) (no d) false p = rw (claimed_behind m c t g a e d p) (blocked n e d p)

  admitted_way : Admitted t g a m c (admitted_of m c t g a)
  admitted_way = go (ℕ_discrete t 255)
    where
      go : Dec (t ≡ 255) → Admitted t g a m c (admitted_of m c t g a)
      go (yes e) = rw (admitted_none m c t g a e) (none e)
      go (no e) = rw (admitted_some m c t g a e) (claimed_way e)

-- ---- what holds of each way that SERVE can go holds of SERVE

pub serve_way : (ahead : ℕ → Bool) (l : Lock) (c t g : ℕ) (P : Lock → Type 0)
    → ((m r : Lock) → Left t g l c m → Admitted t g (ahead m.holder) m c r → P r) → P (serve_by ahead l c t g)
unfolding serve_by
serve_way ahead l c t g P h = h _ _ (left_way t g l c) (admitted_way t g _ _ c)

-- past the 32 cores it leaves the lock as it came
pub serve_of_way : (l : Lock) (c t g : ℕ) (a : Bool) (P : Lock → Type 0) → P l
    → ((m r : Lock) → Left t g l c m → Admitted t g a m c r → P r) → P (serve_of l c t g a)
serve_of_way l c t g a P p h = go (dec_lt c 32)
  where
    go : Dec (c < 32) → P (serve_of l c t g a)
    go (yes i) = rw (serve_core l c t g a i) (h _ _ (left_way t g l c) (admitted_way t g a _ c))
    go (no i) = rw (serve_beyond l c t g a (omega arith)) p

-- ---- a gang may as well be held against the holder from before: step (b) keeps it or frees the lock, and of a free lock (c) asks no order

left_holder : {t g : ℕ} {l : Lock} {c : ℕ} {m : Lock} → Left t g l c m → (m.holder ≡ 255) ⊎ (m.holder ≡ l.holder)
left_holder (freed e) = inl refl
left_holder (kept e) = inr refl

order_unasked : (l : Lock) (c t g : ℕ) (a b : Bool) → l.holder ≡ 255 → admitted_of l c t g a ≡ admitted_of l c t g b
order_unasked l c t g a b h = go (ℕ_discrete t 255)
  where
    go : Dec (t ≡ 255) → admitted_of l c t g a ≡ admitted_of l c t g b
    go (yes e) = admitted_none l c t g a e ∙ sym (admitted_none l c t g b e)
    go (no n) =
        admitted_some l c t g a n ∙ claimed_free l c t g a h ∙ sym (claimed_free l c t g b h) ∙ sym (admitted_some l c t g b n)

pub serve_by_order : (ahead : ℕ → Bool) (l : Lock) (c t g : ℕ) → c < 32 → serve_by ahead l c t g ≡ serve_of l c t g (ahead l.holder)
unfolding serve_by
serve_by_order ahead l c t g i =
    ⊎_elim (order_unasked m c t g _ _) (ap (λ (h : ℕ). admitted_of m c t g (ahead h))) (left_holder (left_way t g l c))
    ∙ sym (serve_core l c t g (ahead l.holder) i)
  where
    m : Lock
    m = left_of (unmarked_of l c) c t g

-- ---- who owes then

-- either nobody else is made to owe, or no other core is locked
pub newly : {t g : ℕ} {a : Bool} {l : Lock} {c : ℕ} {m r : Lock} → Left t g l c m → Admitted t g a m c r
    → ((d : ℕ) → (d ≡ c → ⊥) → has r.owing d ≡ has l.owing d) ⊎ ((d : ℕ) → (d ≡ c → ⊥) → has r.locked d ≡ false)
newly (freed e) (none p) = inr (λ d nd. ap (λ (x : ℕ). has x d) e ∙ has_empty d)
newly {c = c} (freed e) (took n h) = inr (λ d nd. has_with_other _ c d nd ∙ ap (λ (x : ℕ). has x d) e ∙ has_empty d)
newly {c = c} (freed e) (seized n h k s) = inr (λ d nd. has_with_other 0 c d nd ∙ has_empty d)
newly (freed e) (blocked n h k s) = inr (λ d nd. ap (λ (x : ℕ). has x d) e ∙ has_empty d)
newly {l = l} {c = c} (kept e) (none p) = inl (λ d nd. has_without_other l.owing c d nd)
newly {l = l} {c = c} (kept e) (took n h) = inl (λ d nd. has_without_other l.owing c d nd)
newly {c = c} (kept e) (seized n h k s) = inr (λ d nd. has_with_other 0 c d nd ∙ has_empty d)
newly {l = l} {c = c} (kept e) (blocked n h k s) = inl (λ d nd. has_without_other l.owing c d nd)
