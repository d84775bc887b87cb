-- SERVE keeps the lock well formed, whatever the order of gangs: clause by clause.
use Rattle.std.specs.Prelude.{ℕ, ◌<◌, ◌≤◌, Bool, ◌≡◌, refl, List, length, get_or, set}
use Rattle.std.proofs.Common.{sym, ap, ◌∙◌, subst, arith, pow_pos, get_or-set_same, get_or-set_other}
use Rattle.std.proofs.lemmas.Nat.{or_lt}
use Rattle.coreset.specs.Set.{without_core}
use Rattle.coreset.specs.laws.Members.{has_below, all_below, with_lt, without_lt, without_empty}
use Rattle.ranges.specs.Range.{NoneOr}
use Rattle.ranges.specs.laws.Logic.{at_or_away}
use Rattle.lock.specs.declared.Lock.{Lock}
use Rattle.lock.specs.Serve.{serve_of}
use Rattle.lock.specs.laws.ServeSteps.{Left, freed, kept, Admitted, none, took, seized, blocked, serve_of_way}
use Rattle.lock.proofs.HeldKept.{held_serve}
use Rattle.lock.specs.laws.Occupants.{left_room}
use Rattle.lock.proofs.Occupants.{serve_occupants}
use Rattle.lock.specs.LockRules.{Pins, pin_gang, occupant_of}
use Rattle.lock.specs.LockOk.{Pinned, LockOk, Masks}
use Rattle.lock.specs.laws.LockKept.{Handed}

-- ---- "core sets name only existing cores": sets of k cores stay so

module _ (k : ℕ) {t g : ℕ} {l : Lock} {c : ℕ} (i : c < k) where
  left_masks : {m : Lock} → Left t g l c m → Masks k l → Masks k m
  left_masks (freed e) M = record {
    locked_fits = without_lt k l.locked c i M.locked_fits;
    blocked_fits = pow_pos k;
    owing_fits = or_lt k _ _ (without_lt k l.owing c i M.owing_fits) (without_lt k l.blocked c i M.blocked_fits);
  }
  left_masks (kept e) M = record {
    locked_fits = without_lt k l.locked c i M.locked_fits;
    blocked_fits = without_lt k l.blocked c i M.blocked_fits;
    owing_fits = without_lt k l.owing c i M.owing_fits;
  }

  admitted_masks : {a : Bool} {r : Lock} → Admitted t g a l c r → Masks k l → Masks k r
  admitted_masks (none e) M = M
  admitted_masks (took n h) M = record {
    locked_fits = with_lt k l.locked c i M.locked_fits;
    blocked_fits = M.blocked_fits;
    owing_fits = M.owing_fits;
  }
  admitted_masks (seized n h q s) M = record {
    locked_fits = with_lt k 0 c i (pow_pos k);
    blocked_fits = M.blocked_fits;
    owing_fits = or_lt k _ _ M.owing_fits M.locked_fits;
  }
  admitted_masks (blocked n h q s) M = record {
    locked_fits = M.locked_fits;
    blocked_fits = with_lt k l.blocked c i M.blocked_fits;
    owing_fits = M.owing_fits;
  }

pub serve_masks : (k : ℕ) (l : Lock) (c t g : ℕ) (a : Bool) → c < k → Masks k l → Masks k (serve_of l c t g a)
serve_masks k l c t g a i M = serve_of_way l c t g a (Masks k) M (λ m r b s. admitted_masks k i s (left_masks k i b M))

-- ---- "occupants are pinned to their core"

abbrev Seated : Pins → Lock → Type 0
Seated p l = (d : ℕ) → Pinned p d (occupant_of l d)

-- a place that is given to nobody, or to a thread that is pinned there
seat : (p : Pins) (xs : List ℕ) (c t : ℕ) → c < length xs → Pinned p c t → ((d : ℕ) → Pinned p d (get_or xs d 255))
    → (d : ℕ) → Pinned p d (get_or (set xs c t) d 255)
seat p xs c t i q H = at_or_away (λ (d : ℕ). Pinned p d (get_or (set xs c t) d 255)) c
    (subst (Pinned p c) (sym (get_or-set_same xs c t 255 i)) q)
    (λ d nd. subst (Pinned p d) (sym (get_or-set_other xs c d t 255 nd)) (H d))

left_seated : (p : Pins) {t g : ℕ} {l : Lock} {c : ℕ} {m : Lock} → c < length l.occupant → Left t g l c m → Seated p l → Seated p m
left_seated p {l = l} {c = c} i (freed e) H = seat p l.occupant c 255 i (λ ne. absurd (ne refl)) H
left_seated p {l = l} {c = c} i (kept e) H = seat p l.occupant c 255 i (λ ne. absurd (ne refl)) H

admitted_seated : (p : Pins) {t g : ℕ} {a : Bool} {m : Lock} {c : ℕ} {r : Lock} → c < length m.occupant → Pinned p c t
    → Admitted t g a m c r → Seated p m → Seated p r
admitted_seated p i q (none e) H = H
admitted_seated p {t = t} {m = m} {c = c} i q (took n h) H = seat p m.occupant c t i q H
admitted_seated p {t = t} {m = m} {c = c} i q (seized n h k s) H = seat p m.occupant c t i q H
admitted_seated p i q (blocked n h k s) H = H

-- ---- "holder 255 for none", "no core blocked while the lock is free"

record Free (n : ℕ) (l : Lock) : Type 0 where
  holder_in : NoneOr n l.holder
  idle : l.holder ≡ 255 → l.blocked ≡ 0

left_free : (n : ℕ) {t g : ℕ} {l : Lock} {c : ℕ} {m : Lock} → Left t g l c m → Free n l → Free n m
left_free n (freed e) F = record { holder_in = λ ne. absurd (ne refl); idle = λ w. refl }
left_free n {c = c} (kept e) F = record {
  holder_in = F.holder_in;
  idle = λ w. ap (λ (x : ℕ). without_core x c) (F.idle w) ∙ without_empty c;
}

admitted_free : (n : ℕ) {t g : ℕ} {a : Bool} {m : Lock} {c : ℕ} {r : Lock} → ((t ≡ 255 → ⊥) → (g < n) × (g ≡ 255 → ⊥))
    → Admitted t g a m c r → Free n m → Free n r
admitted_free n q (none e) F = F
admitted_free n q (took ne h) F = record { holder_in = λ w. (q ne).0; idle = λ w. absurd ((q ne).1 w) }
admitted_free n q (seized ne h k s) F = record { holder_in = λ w. (q ne).0; idle = λ w. absurd ((q ne).1 w) }
admitted_free n q (blocked ne h k s) F = record { holder_in = F.holder_in; idle = λ w. absurd (h w) }

-- ---- the whole

ok_masks : (p : Pins) (l : Lock) → LockOk p l → Masks p.cores l
ok_masks p l L = record {
  locked_fits = all_below p.cores l.locked (λ d. (L.core d).locked_in);
  blocked_fits = all_below p.cores l.blocked (λ d. (L.core d).blocked_in);
  owing_fits = all_below p.cores l.owing (λ d. (L.core d).owing_in);
}

pub kept_serve : (p : Pins) (l : Lock) (c t : ℕ) (a : Bool) → c < p.cores → p.cores ≤ 32 → p.gangs ≤ 32 → length l.occupant ≡ 32
    → Handed p c t → LockOk p l → LockOk p (serve_of l c t (pin_gang p t) a)
kept_serve p l c t a i cores gangs room handed L = record {
  held = held_serve l c t g a (λ ne. (gang ne).1) L.held;
  holder_in = free.holder_in;
  idle = free.idle;
  core = λ d. record {
    locked_in = has_below p.cores r.locked d masks.locked_fits;
    blocked_in = has_below p.cores r.blocked d masks.blocked_fits;
    owing_in = has_below p.cores r.owing d masks.owing_fits;
    pinned = seated d;
    ours = serve_occupants (pin_gang p) l c t a in_room L.held (λ e. (L.core e).ours) d;
  };
}
  where
    g : ℕ
    g = pin_gang p t

    r : Lock
    r = serve_of l c t (pin_gang p t) a

    in_room : c < length l.occupant
    in_room = omega arith

    gang : (t ≡ 255 → ⊥) → (pin_gang p t < p.gangs) × (pin_gang p t ≡ 255 → ⊥)
    gang ne = let h = (handed ne).2 in (h, λ e. omega arith)

    masks : Masks p.cores r
    masks = serve_masks p.cores l c t g a i (ok_masks p l L)

    seated : Seated p r
    seated = serve_of_way l c t g a (Seated p) (λ d. (L.core d).pinned) (λ m r b s.
        admitted_seated p (subst (λ (n : ℕ). c < n) (sym (left_room b)) in_room) (λ ne. let h = handed ne in (h.0, h.1, i)) s
        (left_seated p in_room b (λ d. (L.core d).pinned)))

    free : Free p.gangs r
    free =
        let F : Free p.gangs l = record { holder_in = L.holder_in; idle = L.idle } in
        serve_of_way l c t g a (Free p.gangs) F (λ m r b s. admitted_free p.gangs gang s (left_free p.gangs b F))
