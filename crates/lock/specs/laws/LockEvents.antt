-- An event keeps what holds of the lock, where each core that may stand otherwise then owes: the world before and the world after may differ.
use Rattle.std.specs.Prelude.{ℕ, ◌<◌, Bool, true, false, ◌≡◌, refl, get_or}
use Rattle.std.proofs.Common.{sym, ◌∙◌, subst}
use Rattle.coreset.specs.Set.{has, within_width}
use Rattle.coreset.specs.laws.Members.{within_absent}
use Rattle.ranges.specs.Range.{NoneOr}
use Rattle.lock.specs.declared.Lock.{Lock}
use Rattle.lock.specs.Serve.{owe_of, with_owing}
use Rattle.lock.specs.World.{World, first_gang}
use Rattle.lock.specs.Good.{Stands, Good}

-- core d has the same first ready thread in W' as in W: of the same gang where d is locked, behind the holder still where it is blocked
pub record Unmoved (W W' : World) (l : Lock) (d : ℕ) : Type 0 where
  pub first : W.first d ≡ W'.first d
  pub gang : has l.locked d ≡ true → first_gang W d ≡ first_gang W' d
  pub behind : has l.blocked d ≡ true → W.higher l.holder (first_gang W d) ≡ true → W'.higher l.holder (first_gang W' d) ≡ true

-- where the order of gangs and each thread's gang are the same, the first ready thread is all that matters
pub same_order : (W W' : World) (l : Lock) (d : ℕ) → W.higher ≡ W'.higher → W.gang ≡ W'.gang → W.first d ≡ W'.first d → Unmoved W W' l d
same_order W W' l d p q e = record { first = e; gang = λ k. its_gang; behind = λ b h. ahead ∙ h }
  where
    its_gang : first_gang W d ≡ first_gang W' d
    its_gang = cc

    ahead : W'.higher l.holder (first_gang W' d) ≡ W.higher l.holder (first_gang W d)
    ahead = cc

module _ (W W' : World) (l : Lock) where
  -- so it stands as it did
  stands_still : (d : ℕ) (x y : Bool) (o : ℕ) → has l.locked d ≡ x → has l.blocked d ≡ y → Unmoved W W' l d
      → Stands W l.holder d x y o → Stands W' l.holder d x y o
  stands_still d true y o k b U s = (λ w. s.0 (U.first ∙ w), sym (U.gang k) ∙ s.1, s.2 ∙ U.first, s.3)
  stands_still d false true o k b U s = (λ w. s.0 (U.first ∙ w), U.behind b s.1, s.2)
  stands_still d false false o k b U s = (sym U.first ∙ s.0, s.1)

  -- each core that does not owe afterwards did not owe before, and is unmoved
  pub good_event : (m : ℕ) → W.gangs ≡ W'.gangs → ((d : ℕ) → has m d ≡ false → (has l.owing d ≡ false) × Unmoved W W' l d)
      → Good W l → Good W' (with_owing l m)
  good_event m n h G = record {
    held = record { free = G.held.free; busy = G.held.busy };
    holder_in = subst (λ (k : ℕ). NoneOr k l.holder) n G.holder_in;
    idle = G.idle;
    room = G.room;
    stands = λ d o.
        let u = h d o in
        stands_still d (has l.locked d) (has l.blocked d) (get_or l.occupant d 255) refl refl u.1 (G.stands d u.0);
  }

  -- the event of one thread: its own core owes, and every other core is unmoved
  pub good_owe : (c : ℕ) → c < 32 → W.gangs ≡ W'.gangs → ((d : ℕ) → (d ≡ c → ⊥) → Unmoved W W' l d) → Good W l → Good W' (owe_of l c)
  good_owe c i n h G =
      good_event (within_width 32 l.owing c) n (λ d o. let u = within_absent 32 l.owing c d i o in (u.1, h d u.0)) G
