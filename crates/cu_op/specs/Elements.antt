-- Elements of arrays by their numbers.
use Rattle.std.specs.Prelude.{ℕ, ℤ, List, Option}

-- for each array number and index an element, where there is one
abbrev pub Elements : Type 0
Elements = ℕ → List ℕ → Option ℤ
