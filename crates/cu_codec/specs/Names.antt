-- Whose key a key is: this project's own rule, that an array's keys begin with its name and a slash.
use Rattle.std.specs.Prelude.{◌≡◌, ◌≢◌, ℕ, List, ◌++◌, All, codes}

-- a name of an array has no slash
abbrev pub HasNoSlash : List ℕ → Type 0
HasNoSlash name = All (λ b. b ≢ 47) name

-- the key is one of the array with this name
abbrev pub IsKeyOf : List ℕ → List ℕ → Type 0
IsKeyOf name key = (rest : List ℕ) × (key ≡ name ++ codes "/" ++ rest)
