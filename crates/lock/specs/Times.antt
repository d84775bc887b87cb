-- How often a core is served, of the cores that are served one after the other.
use Rattle.std.specs.Prelude.{ℕ, suc, cond, List, [], ◌∷◌, eqb}

-- how often d stands in the list
unfoldable pub times : ℕ → List ℕ → ℕ
times d [] = 0
times d (c ∷ cs) = cond (eqb d c) (suc (times d cs)) (times d cs)
