-- What is made of all elements of a list, exactly (Python array API, "Statistical Functions", "Utility Functions").
use Rattle.std.specs.Prelude.{ℤ, pos, ◌+ℤ◌, ◌*ℤ◌, List, [], ◌∷◌, Option, Some, option_map, option_and_then}
use Rattle.std.specs.Int.{int_min, int_max}
use Rattle.std.specs.List.{list_any, list_all}
use Rattle.cu_num.specs.Scalar.{truth_number, is_nonzero}
use Rattle.cu_num.specs.Wrap.{wrapped}
use Rattle.cu_num.specs.declared.folds.FoldKind.{FoldKind}
use Rattle.cu_num.specs.declared.folds.FoldKind.TheVariants.{Sum, Prod, Min, Max, Any, All}
use Rattle.cu_num.specs.declared.types.Dtype.{Dtype}

-- nothing sums to 0 and multiplies to 1
abbrev pub exact_sum : List ℤ → ℤ
exact_sum [] = pos 0
exact_sum (x ∷ xs) = x +ℤ exact_sum xs

abbrev pub exact_product : List ℤ → ℤ
exact_product [] = pos 1
exact_product (x ∷ xs) = x *ℤ exact_product xs

-- the least and the greatest; of nothing it is 0, which no expression asks for
abbrev pub least_of : List ℤ → ℤ
least_of [] = pos 0
least_of (x ∷ []) = x
least_of (x ∷ xs) = int_min x (least_of xs)

abbrev pub greatest_of : List ℤ → ℤ
greatest_of [] = pos 0
greatest_of (x ∷ []) = x
greatest_of (x ∷ xs) = int_max x (greatest_of xs)

-- any of nothing is false, all of nothing is true
abbrev pub fold_of : FoldKind → List ℤ → ℤ
fold_of Sum xs = exact_sum xs
fold_of Prod xs = exact_product xs
fold_of Min xs = least_of xs
fold_of Max xs = greatest_of xs
fold_of Any xs = truth_number (list_any is_nonzero xs)
fold_of All xs = truth_number (list_all is_nonzero xs)

-- ---- of elements that may be missing

-- the elements, where none is missing
abbrev pub all_some : {A : Type 0} → List (Option A) → Option (List A)
all_some [] = Some []
all_some (x ∷ xs) = option_and_then (λ y. option_map (λ ys. y ∷ ys) (all_some xs)) x

-- what is made of them, wrapped once to the type of the result
abbrev pub reduced_to : FoldKind → Dtype → List (Option ℤ) → Option ℤ
reduced_to kind acc xs = option_map (λ ys. wrapped acc (fold_of kind ys)) (all_some xs)
