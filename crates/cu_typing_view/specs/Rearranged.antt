-- The typing of views whose axes are moved or turned (Python array API, "Manipulation Functions": `permute_dims`, `flip`, `roll`;
-- "Linear Algebra Functions": `tril`, `triu`; the chunk shapes and the order of the faults are this project's rules).
use Rattle.std.specs.Prelude.{ℕ, ◌==◌, nat_le, ℤ, pos, int_le, ◌&&◌, Bool, true, List, length, map, slice_index, Option, Some, None, is_some, Result}
use Rattle.std.specs.List.{list_all}
use Rattle.cu_result.specs.Results.{◌>>=◌, check}
use Rattle.cu_shape.specs.Slice.{at_least_zero}
use Rattle.cu_node.specs.Axes.{marked_of}
use Rattle.cu_node.specs.Fault.{fault}
use Rattle.cu_node.specs.Limited.{limited}
use Rattle.cu_node.specs.declared.faults.FaultCode.TheVariants.{Axis}
use Rattle.cu_node.specs.declared.faults.NodeFault.{NodeFault}
use Rattle.cu_node.specs.declared.info.NodeInfo.{NodeInfo}

-- an array with the shape and chunk shape of another
abbrev pub typed_same : NodeInfo → Result NodeInfo NodeFault
typed_same a = limited a.dtype a.dims a.chunk

-- the lower or upper triangle of the last two axes
abbrev pub typed_triangle : NodeInfo → Result NodeInfo NodeFault
typed_triangle a = do
  _ ← check (nat_le 2 (length a.dims)) (fault Axis)
  typed_same a

-- each axis once, none counted from the end
abbrev pub is_permutation : ℕ → List ℤ → Bool
is_permutation rank axes = length axes == rank && (list_all (λ d. int_le (pos 0) d) axes && is_some (marked_of rank axes))

-- the numbers of these axes, in their order
abbrev pub permuted_sizes : List ℤ → List ℕ → List ℕ
permuted_sizes axes xs = map (λ d. slice_index xs (at_least_zero d)) axes

abbrev pub typed_permute : NodeInfo → List ℤ → Result NodeInfo NodeFault
typed_permute a axes = do
  _ ← check (is_permutation (length a.dims) axes) (fault Axis)
  limited a.dtype (permuted_sizes axes a.dims) (permuted_sizes axes a.chunk)

-- distinct axes, or all of them where there is no list
abbrev pub are_axes : ℕ → Option (List ℤ) → Bool
are_axes rank None = true
are_axes rank (Some axes) = is_some (marked_of rank axes)

-- the order of the elements along axes is turned round
abbrev pub typed_flip : NodeInfo → Option (List ℤ) → Result NodeInfo NodeFault
typed_flip a axes = do
  _ ← check (are_axes (length a.dims) axes) (fault Axis)
  typed_same a

-- the elements are moved along axes, the last ones to the front
abbrev pub typed_roll : NodeInfo → List ℤ → List ℤ → Result NodeInfo NodeFault
typed_roll a shifts axes = do
  _ ← check (length shifts == length axes && are_axes (length a.dims) (Some axes)) (fault Axis)
  typed_same a
