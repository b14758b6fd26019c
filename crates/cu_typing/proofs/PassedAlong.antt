-- What the arguments of an accepted prefix sum and of an accepted reduction by labels have passed.
use Rattle.std.proofs.Common.{◌≡◌, ℕ, ℤ, length, Option, Some, Ok}
use Rattle.std.specs.Prelude.{◌&&◌, nat_le, slice_set}
use Rattle.std.proofs.lemmas.Bool.{and_parts, leb-true}
use Rattle.cu_result.specs.Results.{◌>>=◌, check, need}
use Rattle.cu_result.proofs.ResultSteps.{check_step_ok, need_step_ok}
use Rattle.cu_num.specs.Dtype.{is_integer}
use Rattle.cu_num.specs.Fold.{fold_type}
use Rattle.cu_num.specs.declared.folds.FoldKind.{FoldKind}
use Rattle.cu_num.specs.declared.folds.FoldKind.TheVariants.{Sum}
use Rattle.cu_node.specs.Axes.{axis_of}
use Rattle.cu_node.specs.Fault.{fault, fault_at}
use Rattle.cu_node.specs.Limited.{limit, is_chunk_within, limited, limited_beside}
use Rattle.cu_node.proofs.KeptLimits.{given, beside_kept}
use Rattle.cu_node.specs.declared.faults.FaultCode.TheVariants.{Kind, Axis, Shape}
use Rattle.cu_node.specs.declared.info.NodeInfo.{NodeInfo}
use Rattle.cu_typing.specs.Accepted.{IsAcceptedCumulative, IsAcceptedGroups}
use Rattle.cu_typing.specs.Along.{summed_axis, typed_cumulative, are_labels, labels_aligned, grouped_array, typed_groups}

pub cumulative_passed : (axis : Option ℤ) (i r : NodeInfo) → typed_cumulative axis i ≡ Ok r
    → (place : ℕ) × IsAcceptedCumulative axis i place r
cumulative_passed axis i r h =
    let t = fold_type Sum i.dtype in
    let a = check_step_ok (is_integer i.dtype) (fault Kind)
    (λ _. need (summed_axis (length i.dims) axis) (fault Axis) >>= λ _. limited t i.dims i.chunk) r h in
    let b = need_step_ok (summed_axis (length i.dims) axis) (fault Axis) (λ _. limited t i.dims i.chunk) r a.1 in
    (b.0, record { accepted = a.0; named = b.1; array = given _ t i.dims i.chunk r b.2 })

pub groups_passed : (kind : FoldKind) (number : ℤ) (groups : ℕ) (i labels r : NodeInfo)
    → typed_groups kind number groups i labels ≡ Ok r
    → (axis : ℕ) × ((axis_of number (length i.dims) ≡ Some axis) × IsAcceptedGroups kind groups axis i labels r)
groups_passed kind number groups i labels r h =
    let t = fold_type kind i.dtype in
    let a = check_step_ok (is_integer i.dtype && is_integer labels.dtype) (fault Kind)
    (λ _. need (axis_of number (length i.dims)) (fault Axis) >>= λ axis. check (are_labels i axis labels) (fault_at Shape axis) >>= λ _. grouped_array kind groups axis i labels) r h in
    let b = need_step_ok (axis_of number (length i.dims)) (fault Axis)
    (λ axis. check (are_labels i axis labels) (fault_at Shape axis) >>= λ _. grouped_array kind groups axis i labels) r a.1 in
    let axis = b.0 in
    let c = check_step_ok (are_labels i axis labels) (fault_at Shape axis) (λ _. grouped_array kind groups axis i labels) r b.2 in
    let beside = is_chunk_within labels.dtype (labels_aligned i axis) in
    let d = check_step_ok (nat_le (length i.dims) 5) (limit 1)
    (λ _. limited_beside beside t (slice_set i.dims axis groups) (slice_set i.chunk axis groups)) r c.1 in
    let types = and_parts _ _ a.0 in (
      axis,
      (
        b.1,
        record {
          accepted = types.0;
          labels_type = types.1;
          labelled = c.0;
          short = leb-true _ _ d.0;
          within = beside_kept beside t (slice_set i.dims axis groups) (slice_set i.chunk axis groups) r d.1;
          array = given beside t (slice_set i.dims axis groups) (slice_set i.chunk axis groups) r d.1;
        },
      ),
    )
