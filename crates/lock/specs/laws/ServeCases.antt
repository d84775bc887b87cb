-- What each rule of SERVE comes to, case by case: what the code's branches and the laws of SERVE go by.
use Rattle.std.specs.Prelude.{ℕ, ◌<◌, ◌≤◌, Bool, true, false, ◌≡◌, refl}
use Rattle.std.proofs.Common.{eq-eqb, ne_eqb, lt-ltb, le-ltb}
use Rattle.lock.specs.declared.Lock.{Lock}
use Rattle.lock.specs.Serve.{
  unmarked_of,
  freed_of,
  vacated_of,
  settled_of,
  left_of,
  locked_for,
  displaced_of,
  blocked_of,
  claimed_of,
  admitted_of,
  serve_by,
  serve_of,
}

-- ---- step (b)

pub settled_none : (l : Lock) → l.locked ≡ 0 → settled_of l ≡ freed_of l
unfolding settled_of
settled_none l h = rw (eq-eqb l.locked 0 h)

pub settled_some : (l : Lock) → (l.locked ≡ 0 → ⊥) → settled_of l ≡ l
unfolding settled_of
settled_some l h = rw (ne_eqb l.locked 0 h)

pub left_gives_up : (l : Lock) (c t g : ℕ) → left_of l c t g ≡ settled_of (vacated_of l c)
unfolding left_of
left_gives_up l c t g = refl

-- ---- step (c)

module _ (l : Lock) (c t g : ℕ) (a : Bool) where
  pub claimed_free : l.holder ≡ 255 → claimed_of l c t g a ≡ locked_for l c t g
  unfolding claimed_of
  claimed_free h = rw (eq-eqb l.holder 255 h)

  pub claimed_same : (l.holder ≡ 255 → ⊥) → l.holder ≡ g → claimed_of l c t g a ≡ locked_for l c t g
  unfolding claimed_of
  claimed_same h e = rw (ne_eqb l.holder 255 h, eq-eqb l.holder g e)

  pub claimed_ahead : (l.holder ≡ 255 → ⊥) → (l.holder ≡ g → ⊥) → a ≡ true
      → claimed_of l c t g a ≡ locked_for (displaced_of l) c t g
  unfolding claimed_of
  claimed_ahead h e p = rw (ne_eqb l.holder 255 h, ne_eqb l.holder g e, p)

  pub claimed_behind : (l.holder ≡ 255 → ⊥) → (l.holder ≡ g → ⊥) → a ≡ false → claimed_of l c t g a ≡ blocked_of l c
  unfolding claimed_of
  claimed_behind h e p = rw (ne_eqb l.holder 255 h, ne_eqb l.holder g e, p)

  pub admitted_none : t ≡ 255 → admitted_of l c t g a ≡ l
  unfolding admitted_of
  admitted_none h = rw (eq-eqb t 255 h)

  pub admitted_some : (t ≡ 255 → ⊥) → admitted_of l c t g a ≡ claimed_of l c t g a
  unfolding admitted_of
  admitted_some h = rw (ne_eqb t 255 h)

  -- ---- the three steps

  pub serve_core : c < 32 → serve_of l c t g a ≡ admitted_of (left_of (unmarked_of l c) c t g) c t g a
  unfolding serve_of serve_by
  serve_core h = rw (lt-ltb c 32 h)

  pub serve_beyond : 32 ≤ c → serve_of l c t g a ≡ l
  unfolding serve_of
  serve_beyond h = rw (le-ltb c 32 h)
