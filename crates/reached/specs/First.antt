-- "A core's first ready thread", by the laws of the order alone: a core has one exactly where a ready thread is pinned to it, and none there is
-- of a gang ahead of its gang.
use Rattle.std.specs.Prelude.{ℕ, ◌<◌, true, ◌≡◌, ◌⊎◌}
use Rattle.std.proofs.Common.{ap, inl, inr, arith}
use Rattle.std.proofs.Math.Decide.{ℕ_discrete}
use Rattle.pick.specs.laws.Pick.{IsFirst}
use Rattle.table.specs.Numbers.{ready}
use Rattle.table.specs.Order.{standing, before}
use Rattle.table.specs.laws.Order.{before_not_behind}
use Rattle.table.specs.laws.First.{standing_is, make_standing, first_ready_is}
use Rattle.table.specs.laws.Table.{gangs_total}
use Rattle.table.specs.TableOk.{TableOk}
use Rattle.system.specs.declared.System.{System}
use Rattle.system.specs.System.{state_in, core_in, gang_in, lineup_in, first_in, ahead_in}
use Rattle.reached.specs.Reached.{Accepted}
use Rattle.reached.specs.Formed.{accepted_table_ok, accepted_threads}

-- thread t is ready
abbrev pub ReadyThread : System → ℕ → Type 0
ReadyThread s t = (t < s.table.sizes.threads) × (state_in s t ≡ ready)

-- core d has a first ready thread
abbrev pub HasFirst : System → ℕ → Type 0
HasFirst s d = first_in s d ≡ 255 → ⊥

-- the gang of core d's first ready thread
abbrev pub first_gang_in : System → ℕ → ℕ
first_gang_in s d = gang_in s (first_in s d)

module _ (s : System) (a : Accepted s.table) (d : ℕ) where
  is_first : IsFirst (standing (lineup_in s) d) (before (lineup_in s)) s.table.sizes.threads (first_in s d)
  is_first = first_ready_is (lineup_in s) d (let l = accepted_threads s.table a in omega arith)

  -- it is a ready thread, pinned there
  pub first_is_ready : HasFirst s d → ReadyThread s (first_in s d)
  first_is_ready h = (is_first.inside h, (standing_is (lineup_in s) d (first_in s d) (is_first.stands h)).0)

  pub first_pinned : HasFirst s d → core_in s (first_in s d) ≡ d
  first_pinned h = (standing_is (lineup_in s) d (first_in s d) (is_first.stands h)).1

  -- where a ready thread is pinned to d, d has one,
  pub ready_has_first : (t : ℕ) → ReadyThread s t → core_in s t ≡ d → HasFirst s d
  ready_has_first t r p none = is_first.none none t r.0 (make_standing (lineup_in s) d t r.1 p)

  -- and where none is, d has none
  pub none_first : ((t : ℕ) → ReadyThread s t → core_in s t ≡ d → ⊥) → first_in s d ≡ 255
  none_first none = go (ℕ_discrete (first_in s d) 255)
    where
      go : Dec (first_in s d ≡ 255) → first_in s d ≡ 255
      go (yes e) = e
      go (no h) = absurd (none (first_in s d) (first_is_ready h) (first_pinned h))

  -- a ready thread there is of its gang, or of a gang that its gang is ahead of
  pub first_not_behind : (t : ℕ) → ReadyThread s t → core_in s t ≡ d
      → (gang_in s t ≡ first_gang_in s d) ⊎ (ahead_in s (first_gang_in s d) (gang_in s t) ≡ true)
  first_not_behind t r p = go (ℕ_discrete (gang_in s t) (first_gang_in s d))
    where
      ok : TableOk s.table
      ok = accepted_table_ok s.table a

      h : HasFirst s d
      h = ready_has_first t r p

      least : (t ≡ first_in s d → ⊥) → before (lineup_in s) (first_in s d) t ≡ true
      least = is_first.least h t r.0 (make_standing (lineup_in s) d t r.1 p)

      go : Dec (gang_in s t ≡ first_gang_in s d) → (gang_in s t ≡ first_gang_in s d) ⊎ (ahead_in s (first_gang_in s d) (gang_in s t) ≡ true)
      go (yes e) = inl e
      go (no ne) =
          inr (gangs_total s.table ok s.state (gang_in s t) (first_gang_in s d)
          (ok.gang_there t r.0) (ok.gang_there (first_in s d) (is_first.inside h)) ne
          (before_not_behind (lineup_in s) (first_in s d) t (least (λ e. ne (ap (gang_in s) e)))))
