-- Document 01, of threads: "A thread is running when it is its core's occupant and is ready"; a gang's threads together.
-- Over the lists of each thread's state, core and gang, whatever their lengths.
use Rattle.std.specs.Prelude.{ℕ, zero, suc, Bool, true, cond, ◌&&◌, List, eqb, get_or, set}
use Rattle.coreset.specs.Set.{within_width}
use Rattle.ranges.specs.Range.{every}
use Rattle.table.specs.Numbers.{finished, ready}
use Rattle.table.specs.Order.{gang_of, core_of}

-- "it is its core's occupant and is ready"
unfoldable pub is_running : List ℕ → List ℕ → List ℕ → ℕ → Bool
is_running state core occupant t = eqb (get_or state t 0) ready && eqb (get_or occupant (core_of core t) 255) t

-- thread t is finished, if it is gang g's
unfoldable pub finished_in : List ℕ → List ℕ → ℕ → ℕ → Bool
finished_in state gang g t = cond (eqb (gang_of gang t) g) (eqb (get_or state t 0) finished) true

-- "all its threads are finished": gang g's, of the first n
unfoldable pub all_finished : List ℕ → List ℕ → ℕ → ℕ → Bool
all_finished state gang g n = every n (finished_in state gang g)

-- "all become ready": gang g's, of the first n
unfoldable pub readied : List ℕ → ℕ → ℕ → List ℕ → List ℕ
readied gang g zero state = state
readied gang g (suc n) state = cond (eqb (gang_of gang n) g) (set (readied gang g n state) n ready) (readied gang g n state)

-- "their cores owe": those of gang g's threads, of the first n
unfoldable pub owed_by : List ℕ → List ℕ → ℕ → ℕ → ℕ → ℕ
owed_by core gang g zero owing = owing
owed_by core gang g (suc n) owing =
    cond (eqb (gang_of gang n) g) (within_width 32 (owed_by core gang g n owing) (core_of core n)) (owed_by core gang g n owing)
