-- Document 01, "Well formed", of the threads' states and of the kept counts.
use Rattle.std.specs.Prelude.{ℕ, Bool, cond, List, eqb, ltb, leb, get_or}
use Rattle.lists.specs.Bounded.{Bounded}
use Rattle.ranges.specs.Range.{every}
use Rattle.table.specs.Numbers.{finished, waiting, max_cores, max_threads}
use Rattle.state.specs.Allowance.{max_traffic}

-- "Each thread is finished .., ready or waiting"; "unused places zero"
unfoldable pub state_ok : ℕ → ℕ → ℕ → Bool
state_ok threads t x = cond (ltb t threads) (leb x waiting) (eqb x finished)

abbrev pub state_place : ℕ → List ℕ → ℕ → Bool
state_place threads state t = state_ok threads t (get_or state t 0)

unfoldable pub states_ok : ℕ → List ℕ → Bool
states_ok threads state = every max_threads (state_place threads state)

-- "counts at most 1,000,000"; "unused places zero"
unfoldable pub count_ok : ℕ → ℕ → ℕ → Bool
count_ok cores c x = cond (ltb c cores) (leb x max_traffic) (eqb x 0)

abbrev pub count_place : ℕ → List ℕ → ℕ → Bool
count_place cores kept c = count_ok cores c (get_or kept c 0)

unfoldable pub counts_ok : ℕ → List ℕ → Bool
counts_ok cores kept = every max_cores (count_place cores kept)

-- ---- the same as facts

-- each of the n threads is finished, ready or waiting, and every other place is zero
abbrev pub StatesOk : ℕ → List ℕ → Type 0
StatesOk threads state = Bounded threads waiting state

-- each of the n cores has a count of at most 1,000,000, and every other place is zero
abbrev pub CountsOk : ℕ → List ℕ → Type 0
CountsOk cores kept = Bounded cores max_traffic kept
