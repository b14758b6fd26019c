-- What is kept of the elements on the way of a reduction.
use Rattle.std.specs.Prelude.{◌≡◌, ◌<◌, ◌⊎◌, ℕ, ℤ, List, [], ◌∷◌, Bool, true, false, length, map, slice_index}
use Rattle.cu_num.specs.Wrap.{wrapped}
use Rattle.cu_num.specs.declared.types.Dtype.{Dtype}
use Rattle.cu_num.specs.declared.folds.FoldKind.{FoldKind}
use Rattle.cu_num.specs.declared.folds.FoldKind.TheVariants as fold
use Rattle.cu_shape.specs.Index.{sums}
use Rattle.cu_reduce.specs.Folds.{fold_of, exact_sum, exact_product}

-- sums and products are wrapped on the way, which changes nothing; the others are exact
abbrev pub kept_of : FoldKind → Dtype → List ℤ → ℤ
kept_of fold.Sum t xs = wrapped t (exact_sum xs)
kept_of fold.Prod t xs = wrapped t (exact_product xs)
kept_of kind t xs = fold_of kind xs

-- the test says that there are no elements
abbrev pub IsNone : List ℤ → Bool → Type 0
IsNone [] none = none ≡ true
IsNone (x ∷ xs) none = none ≡ false

-- on each axis the first number is 0 or one index alone is taken
abbrev pub IsFirstOrSingle : List ℕ → List ℕ → Type 0
IsFirstOrSingle start sizes = (k : ℕ) → k < length start → (slice_index start k ≡ 0) ⊎ (slice_index sizes k ≡ 1)

-- the elements at so many indices from a first one on
abbrev pub elements_along : (List ℕ → ℤ) → List ℕ → List (List ℕ) → List ℤ
elements_along element start steps = map (λ step. element (sums start step)) steps
