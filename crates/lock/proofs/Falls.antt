-- Each service of an owing core takes from that core's count, and adds to no other's.
use Rattle.std.specs.Prelude.{ℕ, Bool, true, false, ◌≡◌, refl, ◌⊎◌}
use Rattle.std.proofs.Common.{sym, ap, ◌∙◌, inl, inr, ⊎_elim}
use Rattle.std.specs.Int.Bits.{bit_or, or_zero_r}
use Rattle.coreset.specs.Set.{has, without_core}
use Rattle.coreset.specs.laws.Members.{has_with_other, has_without_other, has_empty, or_other, without_empty, without_absent}
use Rattle.ranges.specs.laws.Logic.{clash, is_false, at_or_away}
use Rattle.lock.specs.declared.Lock.{Lock}
use Rattle.lock.specs.World.{World, first_gang, serve}
use Rattle.lock.specs.Good.{Good}
use Rattle.lock.specs.laws.Good.{locked_gang}
use Rattle.lock.specs.laws.ServeSteps.{Left, freed, kept, Admitted, none, took, seized, blocked, serve_way, newly}
use Rattle.lock.specs.ServicesLeft.{no_locked_owes, may_take, services_left}
use Rattle.lock.specs.laws.ServicesLeft.{
  served_before,
  other_before,
  served_clear,
  other_clear,
  no_locked_owes_lem,
  make_no_locked_owes,
  takes_ready,
  takes_free,
  takes_held,
  takes_not,
  takes_over,
}
use Rattle.lock.specs.Falls.{Falls}
use Rattle.lock.proofs.Paid.{paid}

-- SERVE c in the world W, from l by way of m to r
abbrev LeftIn : World → Lock → ℕ → Lock → Type 0
LeftIn W l c m = Left (W.first c) (first_gang W c) l c m

abbrev AdmittedIn : World → Lock → ℕ → Lock → Type 0
AdmittedIn W m c r = Admitted (W.first c) (first_gang W c) (W.higher (first_gang W c) m.holder) m c r

-- ---- where a locked core owes

falls_before : (W : World) (l : Lock) (c : ℕ) (m r : Lock) → has l.owing c ≡ true → no_locked_owes l ≡ false
    → LeftIn W l c m → AdmittedIn W m c r → Falls W l c r
unfolding services_left
falls_before W l c m r o z a b = record {
  here = rw (z, o) (served_before (no_locked_owes r) (has r.owing c) (may_take W r.holder c) (has r.locked c)
      (may_take W l.holder c) (has l.locked c) (paid a b));
  there = λ d nd. rw z (other_before (no_locked_owes r) (has r.owing d) (may_take W r.holder d) (has r.locked d)
      (has l.owing d) (may_take W l.holder d) (has l.locked d)
      (λ z' p. ⊎_elim (λ w. sym (w d nd) ∙ p) (λ w. absurd (clash (alone w) z')) (newly a b)));
}
  where
    alone : ((d : ℕ) → (d ≡ c → ⊥) → has r.locked d ≡ false) → no_locked_owes r ≡ true
    alone w = make_no_locked_owes r (at_or_away (λ (e : ℕ). has r.locked e ≡ true → has r.owing e ≡ false) c
        (λ q. paid a b) (λ e ne q. absurd (clash q (w e ne))))

-- ---- where no locked core owes

-- then (a) and (b) change nothing but c itself, which is not locked
record Quiet (l : Lock) (c : ℕ) (m : Lock) : Type 0 where
  holds : m.holder ≡ l.holder
  locks : (d : ℕ) → has m.locked d ≡ has l.locked d
  owes : (d : ℕ) → (d ≡ c → ⊥) → has m.owing d ≡ has l.owing d
  unlocked : has l.locked c ≡ false

quiet : (W : World) (l : Lock) (c : ℕ) (m : Lock) → Good W l → has l.locked c ≡ false → LeftIn W l c m → Quiet l c m
quiet W l c m G f (freed e) = record {
  holds = sym (G.held.busy none_locked);
  locks = λ d. ap (λ (x : ℕ). has x d) (without_absent l.locked c f);
  owes = λ d nd.
      ap (λ (x : ℕ). has x d) (ap (bit_or (without_core l.owing c)) none_blocked ∙ or_zero_r _) ∙ has_without_other l.owing c d nd;
  unlocked = f;
}
  where
    none_locked : l.locked ≡ 0
    none_locked = sym (without_absent l.locked c f) ∙ e

    none_blocked : without_core l.blocked c ≡ 0
    none_blocked = ap (λ (x : ℕ). without_core x c) (G.idle (G.held.busy none_locked)) ∙ without_empty c
quiet W l c m G f (kept e) = record {
  holds = refl;
  locks = λ d. ap (λ (x : ℕ). has x d) (without_absent l.locked c f);
  owes = λ d nd. has_without_other l.owing c d nd;
  unlocked = f;
}

asym : (W : World) (g h : ℕ) → W.higher g h ≡ true → W.higher h g ≡ false
asym W g h a = is_false _ (λ b. clash (W.strict.trans g h g a b) (W.strict.irrefl g))

module _ (W : World) (l : Lock) (c : ℕ) (m : Lock) (Q : Quiet l c m) where
  -- a core that comes to be locked was one that may take the lock
  locked_takes : {r : Lock} → AdmittedIn W m c r → has r.locked c ≡ true → may_take W l.holder c ≡ true
  locked_takes (none e) p = absurd (clash p (Q.locks c ∙ Q.unlocked))
  locked_takes (took n (inl e)) p = takes_free W l.holder c n (sym Q.holds ∙ e)
  locked_takes (took n (inr e)) p =
      takes_held W l.holder c n (ap (λ (h : ℕ). W.higher h (first_gang W c)) (sym Q.holds ∙ e) ∙ W.strict.irrefl _)
  locked_takes (seized n h k s) p =
      takes_held W l.holder c n (ap (λ (h : ℕ). W.higher h (first_gang W c)) (sym Q.holds) ∙ asym W _ _ s)
  locked_takes (blocked n h k s) p = absurd (clash p (Q.locks c ∙ Q.unlocked))

  -- another core that is locked then was locked already
  still_locked : {r : Lock} → AdmittedIn W m c r → (d : ℕ) → (d ≡ c → ⊥) → has r.locked d ≡ true → has l.locked d ≡ true
  still_locked (none e) d nd p = sym (Q.locks d) ∙ p
  still_locked (took n e) d nd p = sym (Q.locks d) ∙ sym (has_with_other m.locked c d nd) ∙ p
  still_locked (seized n h k s) d nd p = absurd (clash p (has_with_other 0 c d nd ∙ has_empty d))
  still_locked (blocked n h k s) d nd p = sym (Q.locks d) ∙ p

-- another core that owes then, owed already and is no nearer to the lock, or was locked and is displaced for good
abbrev Owed : World → Lock → Lock → ℕ → Type 0
Owed W l r d =
    ((has l.owing d ≡ true) × (may_take W r.holder d ≡ true → may_take W l.holder d ≡ true))
    ⊎ ((has l.locked d ≡ true) × (may_take W r.holder d ≡ false))

still_owing : (W : World) (l : Lock) (c : ℕ) (m r : Lock) → Good W l → Quiet l c m → AdmittedIn W m c r
    → (d : ℕ) → (d ≡ c → ⊥) → has r.owing d ≡ true → Owed W l r d
still_owing W l c m r G Q (none e) d nd p = inl (sym (Q.owes d nd) ∙ p, λ k. ap (λ (h : ℕ). may_take W h d) (sym Q.holds) ∙ k)
still_owing W l c m r G Q (took n (inl e)) d nd p =
    inl (sym (Q.owes d nd) ∙ p, λ k. takes_free W l.holder d (takes_ready W _ d k) (sym Q.holds ∙ e))
still_owing W l c m r G Q (took n (inr e)) d nd p =
    inl (sym (Q.owes d nd) ∙ p, λ k. ap (λ (h : ℕ). may_take W h d) (sym Q.holds ∙ e) ∙ k)
still_owing W l c m r G Q (seized n h u s) d nd p = go (has l.owing d) refl
  where
    over : W.higher (first_gang W c) l.holder ≡ true
    over = ap (W.higher (first_gang W c)) (sym Q.holds) ∙ s

    go : (x : Bool) → has l.owing d ≡ x → Owed W l r d
    go true e = inl (
      e,
      λ k. takes_held W l.holder d (takes_ready W _ d k)
          (is_false _ (λ a. clash (W.strict.trans _ _ _ over a) (takes_over W (first_gang W c) d (W.a_gang _) k))),
    )
    go false e =
        let ld : has l.locked d ≡ true = sym (Q.locks d) ∙ or_other m.owing m.locked d p (Q.owes d nd ∙ e) in
        let gd : first_gang W d ≡ l.holder = locked_gang W l d (G.stands d e) ld in
        inr (ld, takes_not W (first_gang W c) d (W.a_gang _) (ap (W.higher (first_gang W c)) gd ∙ over))
still_owing W l c m r G Q (blocked n h u s) d nd p =
    inl (sym (Q.owes d nd) ∙ p, λ k. ap (λ (h : ℕ). may_take W h d) (sym Q.holds) ∙ k)

falls_clear : (W : World) (l : Lock) (c : ℕ) (m r : Lock) → Good W l → has l.owing c ≡ true → no_locked_owes l ≡ true
    → LeftIn W l c m → AdmittedIn W m c r → Falls W l c r
unfolding services_left
falls_clear W l c m r G o z a b = record {
  here = rw (z, o, zr) (served_clear (has r.owing c) (may_take W r.holder c) (has r.locked c)
      (may_take W l.holder c) (has l.locked c) (paid a b) (locked_takes W l c m Q b));
  there = λ d nd. rw (z, zr) (other_clear (has r.owing d) (may_take W r.holder d) (has r.locked d)
      (has l.owing d) (may_take W l.holder d) (has l.locked d)
      (still_locked W l c m Q b d nd) (still_owing W l c m r G Q b d nd));
}
  where
    cl : (d : ℕ) → has l.locked d ≡ true → has l.owing d ≡ false
    cl = no_locked_owes_lem l z

    Q : Quiet l c m
    Q = quiet W l c m G (is_false (has l.locked c) (λ p. clash o (cl c p))) a

    zr : no_locked_owes r ≡ true
    zr = make_no_locked_owes r (at_or_away (λ (e : ℕ). has r.locked e ≡ true → has r.owing e ≡ false) c (λ q. paid a b)
        (λ e ne q. ⊎_elim (λ w. w e ne ∙ cl e (still_locked W l c m Q b e ne q)) (λ w. absurd (clash q (w e ne))) (newly a b)))

-- ---- in either case

pub falls : (W : World) (l : Lock) (c : ℕ) → Good W l → has l.owing c ≡ true → Falls W l c (serve W l c)
falls W l c G o = serve_way _ l c _ _ (Falls W l c) (λ m r a b. go m r a b (no_locked_owes l) refl)
  where
    go : (m r : Lock) → LeftIn W l c m → AdmittedIn W m c r → (x : Bool) → no_locked_owes l ≡ x → Falls W l c r
    go m r a b true z = falls_clear W l c m r G o z a b
    go m r a b false z = falls_before W l c m r o z a b
