-- The kinds of reductions (Python array API, "Statistical Functions", "Utility Functions"): each has a unit and a combination of two
-- exact numbers.
use Rattle.std.specs.Prelude.{◌≡◌, ℕ, List, ℤ, pos, ◌+ℤ◌, ◌*ℤ◌, ◌&&◌, ◌||◌}
use Rattle.std.specs.Int.{int_min, int_max}
use Rattle.cu_num.specs.Dtype.{least, greatest, InRange, IsInteger}
use Rattle.cu_num.specs.Scalar.{truth_number, is_nonzero}
use Rattle.cu_num.specs.declared.types.Dtype.{Dtype}
use Rattle.cu_num.specs.declared.types.Dtype.TheVariants.{Bool}
use Rattle.cu_num.specs.declared.folds.FoldKind.{FoldKind}
use Rattle.cu_num.specs.declared.folds.FoldKind.TheVariants.{Sum, Prod, Min, Max, Any, All}
use Rattle.cu_reduce.specs.Groups.{Groups, HasElements}

-- What is made of nothing. Of least and greatest numbers it is this project's rule: a group without elements has it, and no
-- reduction over axes asks for it.
abbrev pub unit_of : FoldKind → Dtype → ℤ
unit_of Sum acc = pos 0
unit_of Prod acc = pos 1
unit_of Min acc = greatest acc
unit_of Max acc = least acc
unit_of Any acc = pos 0
unit_of All acc = pos 1

abbrev pub combined : FoldKind → ℤ → ℤ → ℤ
combined Sum x y = x +ℤ y
combined Prod x y = x *ℤ y
combined Min x y = int_min x y
combined Max x y = int_max x y
combined Any x y = truth_number (is_nonzero x || is_nonzero y)
combined All x y = truth_number (is_nonzero x && is_nonzero y)

-- Elements of type t are reduced in type acc: sums and products in an integer type, least and greatest numbers in the elements' own,
-- any and all in that of truth values.
abbrev pub Accumulates : FoldKind → Dtype → Dtype → Type 0
Accumulates Sum t acc = IsInteger acc
Accumulates Prod t acc = IsInteger acc
Accumulates Min t acc = acc ≡ t
Accumulates Max t acc = acc ≡ t
Accumulates Any t acc = acc ≡ Bool
Accumulates All t acc = acc ≡ Bool

-- a number that the kind takes: least and greatest numbers are not wrapped, so it has the type's range
abbrev pub IsTaken : FoldKind → Dtype → ℤ → Type 0
IsTaken Min acc x = InRange acc x
IsTaken Max acc x = InRange acc x
IsTaken kind acc x = Unit {0}

-- least and greatest numbers are of at least one element
abbrev pub HasEnough : FoldKind → Groups → List ℕ → Type 0
HasEnough Min gs shape = HasElements gs shape
HasEnough Max gs shape = HasElements gs shape
HasEnough kind gs shape = Unit {0}
