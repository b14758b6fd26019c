-- The typing of arrays that are joined along an axis (Python array API, "Manipulation Functions": `concat`, `stack`; the
-- chunk shapes and the order of the faults are this project's rules).
use Rattle.std.specs.Prelude.{ℕ, ◌+◌, ◌==◌, ℤ, List, [], ◌∷◌, length, sum_by, slice_index, slice_set, insert, Bool, Option, Some, option_and_then, Result}
use Rattle.std.specs.List.{list_all}
use Rattle.std.specs.Cmp.Lexicographic.{pointwise}
use Rattle.cu_result.specs.Results.{◌>>=◌, check, need}
use Rattle.cu_num.specs.Promotion.{promotion}
use Rattle.cu_num.specs.declared.types.Dtype.{Dtype}
use Rattle.cu_node.specs.Axes.{axis_of}
use Rattle.cu_node.specs.Fault.{fault}
use Rattle.cu_node.specs.Info.{info_at}
use Rattle.cu_node.specs.Limited.{limited}
use Rattle.cu_node.specs.declared.faults.FaultCode.TheVariants.{Promote, Axis, Shape}
use Rattle.cu_node.specs.declared.faults.NodeFault.{NodeFault}
use Rattle.cu_node.specs.declared.info.NodeInfo.{NodeInfo}

-- the type to which arrays are promoted from the left, after those of type t
abbrev pub promoted_from : Dtype → List NodeInfo → Option Dtype
promoted_from t [] = Some t
promoted_from t (i ∷ is) = option_and_then (λ p. promoted_from p is) (promotion t i.dtype)

-- the type to which the arrays are promoted
abbrev pub promoted : List NodeInfo → Option Dtype
promoted is = promoted_from (info_at is 0).dtype is

-- shapes that are equal
abbrev pub same_shape : List ℕ → List ℕ → Bool
same_shape = pointwise ◌==◌

-- shapes of one rank whose sizes are equal on each axis but this
abbrev pub same_off : ℕ → List ℕ → List ℕ → Bool
same_off axis a b = same_shape (slice_set a axis 0) (slice_set b axis 0)

-- the arrays one behind the other along an axis, as arrays of type t
abbrev pub concat_along : Dtype → ℕ → List NodeInfo → Result NodeInfo NodeFault
concat_along t axis args = let first = info_at args 0 in do
  _ ← check (list_all (λ i. same_off axis first.dims i.dims) args) (fault Shape)
  limited t (slice_set first.dims axis (sum_by (λ i. slice_index i.dims axis) args)) first.chunk

abbrev pub typed_concat : List NodeInfo → ℤ → Result NodeInfo NodeFault
typed_concat args number = do
  t ← need (promoted args) (fault Promote)
  axis ← need (axis_of number (length (info_at args 0).dims)) (fault Axis)
  concat_along t axis args

-- the arrays one behind the other along a new axis, as arrays of type t
abbrev pub stack_along : Dtype → ℕ → List NodeInfo → Result NodeInfo NodeFault
stack_along t axis args = let first = info_at args 0 in do
  _ ← check (list_all (λ i. same_shape first.dims i.dims) args) (fault Shape)
  limited t (insert first.dims axis (length args)) (insert first.chunk axis 1)

abbrev pub typed_stack : List NodeInfo → ℤ → Result NodeInfo NodeFault
typed_stack args number = do
  t ← need (promoted args) (fault Promote)
  axis ← need (axis_of number (length (info_at args 0).dims + 1)) (fault Axis)
  stack_along t axis args
