-- The memory of reductions, of searches for places and of products of matrices, in bytes (this project's own rule). `reserved` are the
-- bytes that are kept for everything else, `split_every` is how many partial results a task merges, `made` and `source` tell of the
-- node's array and of its argument's.
use Rattle.std.specs.Prelude.{◌≡◌, ℕ, ◌+◌, ◌-◌, true, false, ℤ, List, [], ◌∷◌, ◌++◌, length, take, slice_get, replicate, Option, Some, option_and_then, unwrap_or}
use Rattle.cu_origin.specs.declared.axes.Axes.{Axes}
use Rattle.cu_form.specs.declared.args.Arg.{Arg}
use Rattle.cu_node.specs.Axes.{axis_of}
use Rattle.cu_node.specs.Info.{info_at, no_info, chunk_bytes}
use Rattle.cu_node.specs.Limited.{is_chunk_within}
use Rattle.cu_node.specs.declared.info.NodeInfo.{NodeInfo}
use Rattle.cu_typing.specs.Joined.{aligned_chunk}
use Rattle.cu_num.specs.declared.types.Dtype.TheVariants.{Int64}
use Rattle.cu_typing.specs.Matmul.{rows, columns, leading_array, left_summed}
use Rattle.cu_typing.specs.Reduction.{marks_of}
use Rattle.cu_tree.specs.Marks.{marked_axes, sought_axes}
use Rattle.cu_tree.specs.Needs.{with_merges, fold_need, merge_need, pair_fold_need, pair_merge_need, product_need}
pub use Rattle.cu_tree.specs.Outlines.{value_bytes}
use Rattle.cu_tree.specs.Partials.{partial_chunk_from, reduction_rounds, product_rounds}
use Rattle.cu_copy.specs.Copies.{in_chunks, rechunked}
use Rattle.cu_copy.specs.declared.copies.Rechunk.{Rechunk}

-- the array that an argument names, and that of an argument by its place; where there is none, a bool of rank 0
abbrev pub array_from : List NodeInfo → Option Arg → NodeInfo
array_from infos (Some (Arg.Node n)) = info_at infos n
array_from infos arg = no_info

abbrev pub array_of : List NodeInfo → List Arg → ℕ → NodeInfo
array_of infos args at = array_from infos (slice_get args at)

-- the axes that are reduced; where the list names no axes of an array, none
abbrev pub reduced_axes : ℕ → Option (List ℤ) → Axes
reduced_axes rank axes = marked_axes (unwrap_or (marks_of rank axes) (replicate 6 false))

-- the axis along which a place is sought, none where it is sought in the whole array
abbrev pub sought_axis : ℕ → Option ℤ → Option ℕ
sought_axis rank axis = option_and_then (λ d. axis_of d rank) axis

-- the axes that a reduction of this source reduces, and those along which a place is sought in it
abbrev pub axes_reduced : NodeInfo → Option (List ℤ) → Axes
axes_reduced source axes = reduced_axes (length source.dims) axes

abbrev pub axes_sought : NodeInfo → Option ℤ → Axes
axes_sought source axis = sought_axes (sought_axis (length source.dims) axis)

-- ---- memory

abbrev pub reduction_need : ℕ → ℕ → NodeInfo → NodeInfo → Axes → ℕ
reduction_need reserved split_every made source axes =
    with_merges (reduction_rounds axes split_every source) (fold_need reserved (chunk_bytes source) (chunk_bytes made))
    (merge_need reserved split_every (chunk_bytes made))

abbrev pub place_need : ℕ → ℕ → NodeInfo → NodeInfo → Axes → ℕ
place_need reserved split_every made source axes =
    with_merges (reduction_rounds axes split_every source)
    (pair_fold_need reserved (chunk_bytes source) (value_bytes made source) (chunk_bytes made)) (pair_merge_need reserved split_every (value_bytes made source) (chunk_bytes made))

-- of operands in the chunks that are wanted of them, of which the inner chunks are those of the left operand
abbrev pub matmul_need : ℕ → ℕ → NodeInfo → Rechunk → Rechunk → ℕ
matmul_need reserved split_every made left right =
    with_merges (product_rounds split_every left.source made) (product_need reserved (chunk_bytes (rechunked left)) (chunk_bytes (rechunked right)) (chunk_bytes made))
    (merge_need reserved split_every (chunk_bytes made))

-- ---- operands before the matrix

-- how many axes of the product come before its matrix
abbrev pub leading_count : NodeInfo → NodeInfo → NodeInfo → ℕ
leading_count made left right = length made.dims - (length (rows left.dims) + length (columns right.dims))

-- an operand's chunk on the axes before its matrix: the product's, or its own where it is stretched
abbrev pub leading_aligned : NodeInfo → ℕ → NodeInfo → List ℕ
leading_aligned made count operand = aligned_chunk (take count made.dims) (take count made.chunk) (leading_array operand)

-- the operands of a product: before the matrix as for elementwise functions; the rows and the inner chunks are the left's, the columns the
-- right's
abbrev pub left_wanted : NodeInfo → NodeInfo → NodeInfo → Rechunk
left_wanted made left right = in_chunks left (leading_aligned made (leading_count made left right) left ++ rows left.chunk ++ left_summed left.chunk ∷ [])

abbrev pub right_wanted : NodeInfo → NodeInfo → NodeInfo → Rechunk
right_wanted made left right = in_chunks right (leading_aligned made (leading_count made left right) right ++ left_summed left.chunk ∷ [] ++ columns right.chunk)

-- ---- partial results, to whose chunks typing sees

-- those of a reduction keep the limit of bytes
abbrev pub IsFoldWithin : NodeInfo → NodeInfo → Option (List ℤ) → Type 0
IsFoldWithin made source axes = is_chunk_within made.dtype (partial_chunk_from (axes_reduced source axes) 0 source.chunk) ≡ true

-- and those of a search, which are places
abbrev pub IsSearchWithin : NodeInfo → NodeInfo → Option ℤ → Type 0
IsSearchWithin made source axis =
    (made.dtype ≡ Int64) × (is_chunk_within Int64 (partial_chunk_from (axes_sought source axis) 0 source.chunk) ≡ true)
