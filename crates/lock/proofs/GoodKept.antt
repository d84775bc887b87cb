-- SERVE keeps what holds of the lock at every reached state, by way of what holds after steps (a) and (b).
use Rattle.std.specs.Prelude.{ℕ, ◌<◌, Bool, true, false, ◌≡◌, refl, length, get_or}
use Rattle.std.proofs.Common.{sym, ap, ◌∙◌, subst, inl, inr, arith, length-set, get_or-set_same, get_or-set_other}
use Rattle.coreset.specs.Set.{has, without_core}
use Rattle.coreset.specs.laws.Members.{has_with_same, has_with_other, has_without_same, has_without_other, has_empty, or_none, without_empty}
use Rattle.ranges.specs.Range.{NoneOr}
use Rattle.ranges.specs.laws.Logic.{at_or_away}
use Rattle.lock.specs.declared.Lock.{Lock}
use Rattle.lock.specs.Serve.{unmarked_of, freed_of, vacated_of, locked_for, displaced_of, blocked_of}
use Rattle.lock.specs.laws.ServeSteps.{Left, freed, kept, Admitted, none, took, seized, blocked, serve_way}
use Rattle.lock.specs.HeldWhenLocked.{HeldWhenLocked}
use Rattle.lock.specs.laws.Held.{held_left, held_locked}
use Rattle.lock.specs.World.{World, Ready, first_gang, serve}
use Rattle.lock.specs.Good.{Stands, StandsIn, Good}

-- good but for core c, which is about to be admitted
record GoodBut (W : World) (l : Lock) (c : ℕ) : Type 0 where
  held : HeldWhenLocked l
  holder_in : NoneOr W.gangs l.holder
  idle : l.holder ≡ 255 → l.blocked ≡ 0
  room : length l.occupant ≡ 32
  away : (d : ℕ) → (d ≡ c → ⊥) → has l.owing d ≡ false → StandsIn W l d
  unlocked : has l.locked c ≡ false
  unblocked : has l.blocked c ≡ false
  empty : get_or l.occupant c 255 ≡ 255

-- d stands as it did where nothing about it changed
same : (W : World) (h d : ℕ) {x x' y y' : Bool} {o o' : ℕ} → x' ≡ x → y' ≡ y → o' ≡ o → Stands W h d x y o → Stands W h d x' y' o'
same W h d p q r s = rw (p, q, r) s

-- a core that is neither locked nor blocked stands so under any holder
resting : (W : World) (h h' d : ℕ) {x y : Bool} {o : ℕ} → x ≡ false → y ≡ false → Stands W h d x y o → Stands W h' d false false o
resting W h h' d p q s = rw (p, q) at s

-- an unlocked core stands so where a gang ahead of the holder takes the lock
lifted : (W : World) (h g d : ℕ) {x : Bool} (y : Bool) (o : ℕ) → W.higher g h ≡ true → x ≡ false
    → Stands W h d x y o → Stands W g d false y o
lifted W h g d true o a p s = let z : Stands W h d false true o = rw p at s in (z.0, W.strict.trans g h _ a z.1, z.2)
lifted W h g d false o a p s = rw p at s

-- ---- step (c)

-- what c's taking of the lock leaves to show: how each other core stands then
good_locked : (W : World) (l : Lock) (c : ℕ) → c < 32 → Ready W c → length l.occupant ≡ 32 → has l.blocked c ≡ false
    → ((d : ℕ) → (d ≡ c → ⊥) → has l.owing d ≡ false
    → Stands W (first_gang W c) d (has l.locked d) (has l.blocked d) (get_or l.occupant d 255))
    → Good W (locked_for l c (W.first c) (first_gang W c))
good_locked W l c cl ne room b away = record {
  held = held_locked l c t g (W.a_gang t);
  holder_in = λ w. W.real t;
  idle = λ w. absurd (W.a_gang t w);
  room = simp length-set room;
  stands = at_or_away (λ (d : ℕ). has l.owing d ≡ false → StandsIn W (locked_for l c (W.first c) (first_gang W c)) d) c
      (λ o. same W g c (has_with_same l.locked c) b (get_or-set_same l.occupant c t 255 (omega arith)) (ne, refl, refl, refl))
      (λ d nd o. same W g d (has_with_other l.locked c d nd) refl (get_or-set_other l.occupant c d t 255 nd) (away d nd o));
}
  where
    t : ℕ
    t = W.first c

    g : ℕ
    g = first_gang W c

module _ (W : World) (m : Lock) (c : ℕ) (cl : c < 32) (G : GoodBut W m c) where
  abbrev t : ℕ
  t = W.first c

  abbrev g : ℕ
  g = first_gang W c

  good_none : W.first c ≡ 255 → Good W m
  good_none e = record {
    held = G.held;
    holder_in = G.holder_in;
    idle = G.idle;
    room = G.room;
    stands = at_or_away (λ (d : ℕ). has m.owing d ≡ false → StandsIn W m d) c
        (λ o. same W m.holder c G.unlocked G.unblocked G.empty (e, refl)) G.away;
  }

  good_open : Ready W c → m.holder ≡ 255 → Good W (locked_for m c t g)
  good_open ne e = good_locked W m c cl ne G.room G.unblocked (λ d nd o.
      let ld : has m.locked d ≡ false = ap (λ (x : ℕ). has x d) (G.held.free e) ∙ has_empty d in
      let bd : has m.blocked d ≡ false = ap (λ (x : ℕ). has x d) (G.idle e) ∙ has_empty d in
      same W g d ld bd refl (resting W m.holder g d ld bd (G.away d nd o)))

  good_same : Ready W c → m.holder ≡ g → Good W (locked_for m c t g)
  good_same ne e = good_locked W m c cl ne G.room G.unblocked (λ d nd o.
      subst (λ (h : ℕ). Stands W h d (has m.locked d) (has m.blocked d) (get_or m.occupant d 255)) e (G.away d nd o))

  good_ahead : Ready W c → W.higher g m.holder ≡ true → Good W (locked_for (displaced_of m) c t g)
  good_ahead ne a = good_locked W (displaced_of m) c cl ne G.room G.unblocked (λ d nd o.
      let u = or_none m.owing m.locked d o in
      same W g d (has_empty d) refl refl
      (lifted W m.holder g d (has m.blocked d) (get_or m.occupant d 255) a u.1 (G.away d nd u.0)))

  good_behind : Ready W c → (m.holder ≡ 255 → ⊥) → (m.holder ≡ g → ⊥) → W.higher g m.holder ≡ false → Good W (blocked_of m c)
  good_behind ne h e a = record {
    held = record { free = G.held.free; busy = G.held.busy };
    holder_in = G.holder_in;
    idle = λ w. absurd (h w);
    room = G.room;
    stands = at_or_away (λ (d : ℕ). has m.owing d ≡ false → StandsIn W (blocked_of m c) d) c
        (λ o. same W m.holder c G.unlocked (has_with_same m.blocked c) G.empty
        (ne, W.strict.total g m.holder (W.real t) (G.holder_in h) (λ w. e (sym w)) a, refl))
        (λ d nd o. rw (has_with_other m.blocked c d nd) (G.away d nd o));
  }

  good_admitted : {r : Lock} → Admitted t g (W.higher g m.holder) m c r → Good W r
  good_admitted (none e) = good_none e
  good_admitted (took n (inl e)) = good_open n e
  good_admitted (took n (inr e)) = good_same n e
  good_admitted (seized n h k a) = good_ahead n a
  good_admitted (blocked n h k a) = good_behind n h k a

-- ---- steps (a) and (b)

module _ (W : World) (l : Lock) (c : ℕ) (cl : c < 32) (G : Good W l) where
  in_room : c < length l.occupant
  in_room = let e : length l.occupant ≡ 32 = G.room in omega arith

  good_freed : without_core l.locked c ≡ 0 → GoodBut W (freed_of (vacated_of (unmarked_of l c) c)) c
  good_freed e = record {
    held = held_left {t = 0} {g = 0} (freed e) G.held;
    holder_in = λ w. absurd (w refl);
    idle = λ w. refl;
    room = simp length-set G.room;
    away = λ d ne o.
        let u = or_none (without_core l.owing c) (without_core l.blocked c) d o in
        let od : has l.owing d ≡ false = sym (has_without_other l.owing c d ne) ∙ u.0 in
        let bd : has l.blocked d ≡ false = sym (has_without_other l.blocked c d ne) ∙ u.1 in
        let nl : has (without_core l.locked c) d ≡ false = ap (λ (m : ℕ). has m d) e ∙ has_empty d in
        let ld : has l.locked d ≡ false = sym (has_without_other l.locked c d ne) ∙ nl in
        same W 255 d nl (has_empty d) (get_or-set_other l.occupant c d 255 255 ne) (resting W l.holder 255 d ld bd (G.stands d od));
    unlocked = has_without_same l.locked c;
    unblocked = has_empty c;
    empty = get_or-set_same l.occupant c 255 255 in_room;
  }

  good_kept : (without_core l.locked c ≡ 0 → ⊥) → GoodBut W (vacated_of (unmarked_of l c) c) c
  good_kept e = record {
    held = held_left {t = 0} {g = 0} (kept e) G.held;
    holder_in = G.holder_in;
    idle = λ w. ap (λ (m : ℕ). without_core m c) (G.idle w) ∙ without_empty c;
    room = simp length-set G.room;
    away = λ d ne o.
        same W l.holder d (has_without_other l.locked c d ne) (has_without_other l.blocked c d ne)
        (get_or-set_other l.occupant c d 255 255 ne)
        (G.stands d (sym (has_without_other l.owing c d ne) ∙ o));
    unlocked = has_without_same l.locked c;
    unblocked = has_without_same l.blocked c;
    empty = get_or-set_same l.occupant c 255 255 in_room;
  }

  good_way : (m r : Lock) → Left (W.first c) (first_gang W c) l c m
      → Admitted (W.first c) (first_gang W c) (W.higher (first_gang W c) m.holder) m c r → Good W r
  good_way m r (freed e) b = good_admitted W _ c cl (good_freed e) b
  good_way m r (kept e) b = good_admitted W _ c cl (good_kept e) b

pub good_serve : (W : World) (l : Lock) (c : ℕ) → c < 32 → Good W l → Good W (serve W l c)
good_serve W l c cl G = serve_way _ l c _ _ (Good W) (good_way W l c cl G)
