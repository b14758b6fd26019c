-- The typing of prefix sums (Python array API 2023.12, `cumulative_sum`) and of groups by labels (this project's own operators), both
-- along one axis. The types that are accepted, the chunk sizes and the order of the faults are this project's rules.
use Rattle.std.specs.Prelude.{ℕ, ◌==◌, nat_le, ◌&&◌, if◌then◌else◌, ℤ, List, [], ◌∷◌, length, slice_index, slice_set, Option, Some, None, Result}
use Rattle.std.specs.Prelude.{Bool as Test}
use Rattle.cu_result.specs.Results.{◌>>=◌, check, need}
use Rattle.cu_num.specs.Dtype.{is_integer}
use Rattle.cu_num.specs.Fold.{fold_type}
use Rattle.cu_num.specs.declared.folds.FoldKind.{FoldKind}
use Rattle.cu_num.specs.declared.folds.FoldKind.TheVariants.{Sum}
use Rattle.cu_node.specs.Axes.{axis_of}
use Rattle.cu_node.specs.Fault.{fault, fault_at}
use Rattle.cu_node.specs.Limited.{limit, is_chunk_within, limited, limited_beside}
use Rattle.cu_node.specs.declared.faults.FaultCode.TheVariants.{Kind, Axis, Shape}
use Rattle.cu_node.specs.declared.faults.NodeFault.{NodeFault}
use Rattle.cu_node.specs.declared.info.NodeInfo.{NodeInfo}

-- the axis along which is summed: the one that is named, or the only one there is
abbrev pub summed_axis : ℕ → Option ℤ → Option ℕ
summed_axis rank (Some d) = axis_of d rank
summed_axis rank None = if rank == 1 then Some 0 else None

abbrev pub typed_cumulative : Option ℤ → NodeInfo → Result NodeInfo NodeFault
typed_cumulative axis i = do
  _ ← check (is_integer i.dtype) (fault Kind)
  _ ← need (summed_axis (length i.dims) axis) (fault Axis)
  limited (fold_type Sum i.dtype) i.dims i.chunk

-- there is a label for each place of the axis
abbrev pub are_labels : NodeInfo → ℕ → NodeInfo → Test
are_labels i axis labels =
    length labels.dims == 1 && slice_index labels.dims 0 == slice_index i.dims axis

-- the aligned chunk of the labels: that of the array on the axis
abbrev pub labels_aligned : NodeInfo → ℕ → List ℕ
labels_aligned i axis = slice_index i.chunk axis ∷ []

-- an array of groups has at most 5 axes
abbrev pub grouped_array : FoldKind → ℕ → ℕ → NodeInfo → NodeInfo → Result NodeInfo NodeFault
grouped_array kind groups axis i labels = do
  _ ← check (nat_le (length i.dims) 5) (limit 1)
  limited_beside (is_chunk_within labels.dtype (labels_aligned i axis)) (fold_type kind i.dtype)
      (slice_set i.dims axis groups) (slice_set i.chunk axis groups)

abbrev pub typed_groups : FoldKind → ℤ → ℕ → NodeInfo → NodeInfo → Result NodeInfo NodeFault
typed_groups kind number groups i labels = do
  _ ← check (is_integer i.dtype && is_integer labels.dtype) (fault Kind)
  axis ← need (axis_of number (length i.dims)) (fault Axis)
  _ ← check (are_labels i axis labels) (fault_at Shape axis)
  grouped_array kind groups axis i labels
