-- The bytes of a table's records, and of document 01's worked table.
use Rattle.std.specs.Prelude.{ℕ, ◌+◌, List, [], ◌∷◌, ◌++◌, length}
use Rattle.wire.specs.Kinds.{kind_cores, kind_gang, kind_thread}
use Rattle.wire.specs.Number.{two, four}

-- "A record is a length (u16), a kind (u16), then a payload"; the "length counts kind and payload"
abbrev pub record_bytes : ℕ → List ℕ → List ℕ
record_bytes kind payload = two (2 + length payload) (two kind payload)

abbrev pub cores_bytes : ℕ → List ℕ
cores_bytes n = record_bytes kind_cores (n ∷ [])

abbrev pub gang_bytes : ℕ → ℕ → List ℕ
gang_bytes priority budget = record_bytes kind_gang (priority ∷ four budget [])

abbrev pub thread_bytes : ℕ → ℕ → List ℕ
thread_bytes g c = record_bytes kind_thread (g ∷ c ∷ [])

-- "CORES 3; GANG 10, 100; GANG 20, 0; threads (gang, core) (0,0), (0,1), (1,2)"
abbrev pub worked_table : List ℕ
worked_table = cores_bytes 3 ++ gang_bytes 10 100 ++ gang_bytes 20 0 ++ thread_bytes 0 0 ++ thread_bytes 0 1 ++ thread_bytes 1 2
