-- A place within a text counts the bytes before it.
use Rattle.std.specs.Prelude.{ℕ, ◌≤◌, List, length}
use Rattle.std.proofs.Common.{sym, length-take-le}
use Rattle.edges.specs.Counts.{IsPrefixLen}

pub count_fits_lem : (n : ℕ) (xs : List ℕ) → n ≤ length xs → IsPrefixLen n xs
count_fits_lem n xs within = (within, sym (length-take-le n xs within))
