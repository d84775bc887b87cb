-- Document 01, the allowance: "A core is stopped when it has no occupant, the lock is held, and its true sum is at least the holder's budget."
use Rattle.std.specs.Prelude.{ℕ, ◌+◌, min, Bool, not, ◌&&◌, List, eqb, leb, get_or}

-- "transactions u32, at most 1,000,000", and the most that a count is kept at
abbrev pub max_traffic : ℕ
max_traffic = 1000000

-- "kept as the smaller of 1,000,000 and the true sum"
unfoldable pub sum_of : ℕ → ℕ → ℕ
sum_of kept transactions = min max_traffic (kept + transactions)

-- the budget that an idle core is held to: the holder's
unfoldable pub holder_budget : List ℕ → ℕ → ℕ
holder_budget budget holder = get_or budget holder 0

-- core c is stopped, by its kept count. "A free lock stops nobody"
unfoldable pub stopped_at : List ℕ → ℕ → List ℕ → List ℕ → ℕ → Bool
stopped_at occupant holder budget kept c =
    eqb (get_or occupant c 255) 255 && (not (eqb holder 255) && leb (holder_budget budget holder) (get_or kept c 0))
