-- The places of numbers in a list.
use Rattle.std.specs.List.{list_any}
use Rattle.std.specs.Prelude.{ℕ, suc, ◌==◌, Bool, List, [], ◌∷◌, if◌then◌else◌}

-- the first place of a number in a list, and its length if it doesn't stand there
abbrev pub number_in : List ℕ → ℕ → ℕ
number_in [] a = 0
number_in (x ∷ xs) a = if x == a then 0 else suc (number_in xs a)

-- whether a number stands in a list
abbrev pub stands_in : List ℕ → ℕ → Bool
stands_in xs a = list_any (λ b. b == a) xs
