-- What a loop makes that takes one number at a time.
use Rattle.std.specs.Prelude.{ℕ, ◌<◌, List, [], ◌∷◌, ℤ}
use Rattle.cu_num.specs.Wrap.{wrapped}
use Rattle.cu_num.specs.declared.types.Dtype.{Dtype}
use Rattle.cu_num.specs.declared.folds.FoldKind.{FoldKind}
use Rattle.cu_num.specs.declared.folds.FoldKind.TheVariants.{Min, Max}
use Rattle.cu_reduce.specs.Kinds.{combined}

-- from a first number on, each combination wrapped to the type of the result
abbrev pub running : FoldKind → Dtype → ℤ → List ℤ → ℤ
running kind acc first [] = first
running kind acc first (x ∷ xs) = running kind acc (wrapped acc (combined kind first x)) xs

-- least and greatest numbers are of at least one element
abbrev pub IsEnough : FoldKind → ℕ → Type 0
IsEnough Min n = 0 < n
IsEnough Max n = 0 < n
IsEnough kind n = Unit {0}
