-- The inputs of the worked table, record by record.
use Rattle.std.specs.Prelude.{ℕ, List, [], ◌∷◌, ◌++◌}
use Rattle.wire.specs.Kinds.{kind_release, kind_finish, kind_wake, kind_serve, kind_traffic}
use Rattle.wire.specs.Number.{four}
use Rattle.reading.specs.WorkedTable.{record_bytes, cores_bytes, gang_bytes, thread_bytes, worked_table}

abbrev release : ℕ → List ℕ
release g = record_bytes kind_release (g ∷ [])

abbrev finish : ℕ → List ℕ
finish t = record_bytes kind_finish (t ∷ [])

abbrev wake : ℕ → List ℕ
wake t = record_bytes kind_wake (t ∷ [])

abbrev serve : ℕ → List ℕ
serve c = record_bytes kind_serve (c ∷ [])

abbrev traffic : ℕ → ℕ → List ℕ
traffic c n = record_bytes kind_traffic (c ∷ four n [])

-- document 01, "Input: CORES 3; GANG 10, 100; .. WAKE 1"
abbrev pub document01 : List ℕ
document01 =
    worked_table
    ++ release 0 ++ serve 0 ++ traffic 2 100 ++ release 1 ++ serve 2 ++ serve 1 ++ release 0
    ++ finish 0 ++ serve 0 ++ finish 2 ++ serve 2 ++ serve 1 ++ wake 1

-- document 01, "Three services": "cores 0, 1, 2 owe; core 0 is locked for a finished gang of priority 30; cores 1 and 2 have ready
-- threads of priority 10 and 20"
abbrev all_owe : List ℕ
all_owe =
    cores_bytes 3
    ++ gang_bytes 30 0 ++ gang_bytes 10 0 ++ gang_bytes 20 0
    ++ thread_bytes 0 0 ++ thread_bytes 1 1 ++ thread_bytes 2 2
    ++ release 0 ++ serve 0 ++ finish 0 ++ release 1 ++ release 2

-- "Order 1, 0, 1, 2, 1"
abbrev pub first_order : List ℕ
first_order = all_owe ++ serve 1 ++ serve 0 ++ serve 1 ++ serve 2 ++ serve 1

-- "Order 2, 1, 0, 2, 1"
abbrev pub second_order : List ℕ
second_order = all_owe ++ serve 2 ++ serve 1 ++ serve 0 ++ serve 2 ++ serve 1
