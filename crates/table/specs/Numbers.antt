-- Document 01, "Numbers", and the states of a thread, by name.
use Rattle.std.specs.Prelude.{ℕ}

abbrev pub max_cores : ℕ
max_cores = 32

abbrev pub max_gangs : ℕ
max_gangs = 32

abbrev pub max_threads : ℕ
max_threads = 128

abbrev pub top_priority : ℕ
top_priority = 99

abbrev pub max_budget : ℕ
max_budget = 1000000

-- "Each thread is finished (at first), ready or waiting": 0, 1, 2
abbrev pub finished : ℕ
finished = 0

abbrev pub ready : ℕ
ready = 1

abbrev pub waiting : ℕ
waiting = 2
