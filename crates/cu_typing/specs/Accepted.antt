-- What an accepted node's arguments have passed.
use Rattle.std.specs.Prelude.{◌≡◌, ℕ, ◌+◌, ◌-◌, ◌<◌, ◌≤◌, ◌==◌, ◌&&◌, ◌⊎◌, Bool, true, false, ℤ, List, length, slice_index, slice_set, All, Option, Some, Ok}
use Rattle.cu_num.specs.Dtype.{is_integer}
use Rattle.cu_num.specs.Fold.{fold_type}
use Rattle.cu_num.specs.Promotion.{promotion}
use Rattle.cu_num.specs.declared.folds.FoldKind.{FoldKind}
use Rattle.cu_num.specs.declared.folds.FoldKind.TheVariants.{Sum}
use Rattle.cu_num.specs.declared.types.Dtype.{Dtype}
use Rattle.cu_shape.specs.Index.{product}
use Rattle.cu_node.specs.declared.element_op.ElementOp.{ElementOp}
use Rattle.cu_node.specs.Info.{info_of}
use Rattle.cu_node.specs.Limited.{is_chunk_within}
use Rattle.cu_node.specs.declared.info.NodeInfo.{NodeInfo}
use Rattle.cu_typing.specs.Along.{summed_axis, are_labels, labels_aligned}
use Rattle.cu_typing.specs.Joined.{arrays_of, joined_shape, joined_chunk, aligned_chunk}
use Rattle.cu_typing.specs.Matmul.{left_summed, right_summed, leading_arrays, left_aligned, right_aligned, product_shape, product_chunk}
use Rattle.cu_typing.specs.Reduction.{ReductionRule, marks_of, reduced_sizes, kept_sizes}
use Rattle.cu_typing.specs.Types.{accepts_arguments, shared_type, result_type}
use Rattle.cu_typing.specs.declared.argument.Argument.{Argument}

-- Each axis of a shape, counted from the last, has the result's size or is stretched (Python array API, "Broadcasting").
pub record GoesInto (shape result : List ℕ) : Type 0 where
  pub rank : length shape ≤ length result
  pub axes : (k : ℕ) → k < length shape → (slice_index shape k ≡ slice_index result (k + (length result - length shape))) ⊎ (slice_index shape k ≡ 1)

-- what the arguments of an elementwise function have passed whose type is t together
pub record IsElementwise (op : ElementOp) (args : List Argument) (t : Dtype) (result : NodeInfo) : Type 0 where
  pub accepted : accepts_arguments op args ≡ true
  pub shared : shared_type op args ≡ Ok t
  pub dtype : result.dtype ≡ result_type op t
  pub shape : joined_shape (arrays_of args) ≡ Ok result.dims
  pub chunk : result.chunk ≡ joined_chunk result.dims (arrays_of args)
  pub broadcast : All (λ i. GoesInto i.dims result.dims) (arrays_of args)
  pub within : All (λ i. is_chunk_within i.dtype (aligned_chunk result.dims result.chunk i) ≡ true) (arrays_of args)

-- what a reduction's argument has passed, whose reduced axes are these
pub record IsAcceptedReduction (rule : ReductionRule) (axes : Option (List ℤ)) (keepdims : Bool) (i : NodeInfo) (marks : List Bool) (result : NodeInfo) : Type 0 where
  pub accepted : rule.accepts ≡ true
  pub named : marks_of (length i.dims) axes ≡ Some marks
  pub elements : (rule.needs_element && product (reduced_sizes i.dims marks) == 0) ≡ false
  pub array : result ≡ info_of rule.dtype (kept_sizes keepdims i.dims marks) (kept_sizes keepdims i.chunk marks)

-- what the operands of a matrix product have passed, whose leading axes have these sizes together
pub record IsAcceptedProduct (l r : NodeInfo) (t : Dtype) (lead : List ℕ) (result : NodeInfo) : Type 0 where
  pub left_type : is_integer l.dtype ≡ true
  pub right_type : is_integer r.dtype ≡ true
  pub promoted : promotion l.dtype r.dtype ≡ Some t
  pub left_rank : 0 < length l.dims
  pub right_rank : 0 < length r.dims
  pub leading : joined_shape (leading_arrays l r) ≡ Ok lead
  pub broadcast : All (λ i. GoesInto i.dims lead) (leading_arrays l r)
  pub inner : left_summed l.dims ≡ right_summed r.dims
  pub short : length (product_shape lead l r) ≤ 5
  pub left_within : is_chunk_within l.dtype (left_aligned lead l r) ≡ true
  pub right_within : is_chunk_within r.dtype (right_aligned lead l r) ≡ true
  pub array : result ≡ info_of t (product_shape lead l r) (product_chunk lead l r)

-- what the argument of a prefix sum has passed, whose axis is this
pub record IsAcceptedCumulative (axis : Option ℤ) (i : NodeInfo) (place : ℕ) (result : NodeInfo) : Type 0 where
  pub accepted : is_integer i.dtype ≡ true
  pub named : summed_axis (length i.dims) axis ≡ Some place
  pub array : result ≡ info_of (fold_type Sum i.dtype) i.dims i.chunk

-- what an array and its labels have passed that are reduced to so many groups along an axis
pub record IsAcceptedGroups (kind : FoldKind) (groups axis : ℕ) (i labels result : NodeInfo) : Type 0 where
  pub accepted : is_integer i.dtype ≡ true
  pub labels_type : is_integer labels.dtype ≡ true
  pub labelled : are_labels i axis labels ≡ true
  pub short : length i.dims ≤ 5
  pub within : is_chunk_within labels.dtype (labels_aligned i axis) ≡ true
  pub array : result ≡ info_of (fold_type kind i.dtype) (slice_set i.dims axis groups) (slice_set i.chunk axis groups)
