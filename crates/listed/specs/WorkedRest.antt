-- The state in which both orders of "Three services" rest: "core 2 locked, core 1 blocked".
use Rattle.std.specs.Prelude.{ℕ, ◌-◌, List, ◌∷◌, replicate}
use Rattle.table.specs.Numbers.{max_cores, max_gangs, max_threads, finished, ready}
use Rattle.system.specs.declared.System.{System}

-- core 1 and core 2 alone, each as a set
abbrev pub core_one : ℕ
core_one = 2

abbrev pub core_two : ℕ
core_two = 4

-- no occupant
abbrev none : ℕ
none = 255

-- three places in use, and the others unused
abbrev three : ℕ → ℕ → ℕ → ℕ → ℕ → List ℕ
three room unused a b c = a ∷ b ∷ c ∷ replicate (room - 3) unused

abbrev pub at_rest : System
at_rest = record {
  table = record {
    sizes = record { cores = 3; gangs = 3; threads = 3 };
    priority = three max_gangs 0 30 10 20;
    budget = replicate max_gangs 0;
    gang = three max_threads 0 0 1 2;
    core = three max_threads 0 0 1 2;
  };
  state = three max_threads 0 finished ready ready;
  ledger = record {
    number = three max_gangs 0 1 1 1;
    served = three max_gangs 0 1 1 1;
    skipped = replicate max_gangs 0;
    job = three max_gangs 0 1 1 1;
  };
  lock = record {
    holder = 2;
    locked = core_two;
    blocked = core_one;
    owing = 0;
    occupant = three max_cores none none none 2;
  };
  kept = replicate max_cores 0;
}
