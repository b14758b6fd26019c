-- The keys of what a plan makes for the array with a name (this project's own rule): they begin with `_cubed/` and the name.
use Rattle.std.specs.Prelude.{ℕ, List, ◌++◌, codes}
use Rattle.std.specs.Fmt.{decimal}

-- the key of the record of the plan that makes the array with this name
abbrev pub record_key_of : List ℕ → List ℕ
record_key_of name = codes "_cubed/" ++ name ++ codes "/plan.json"

-- what the keys of array number k begin with, of the arrays that the plan makes besides the one with this name
abbrev pub made_prefix_of : List ℕ → ℕ → List ℕ
made_prefix_of name k = codes "_cubed/" ++ name ++ codes "/" ++ decimal k
