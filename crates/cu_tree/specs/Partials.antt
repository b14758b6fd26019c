-- The arrays of partial results of a reduction (this project's own rule): the first has one for each chunk of the source, and each round of
-- merges makes a further one.
use Rattle.std.specs.Prelude.{ℕ, ◌+◌, ◌-◌, ◌*◌, ◌^◌, ◌≤◌, List, [], ◌∷◌, ◌++◌, length, max, slice_index, slice_set, if◌then◌else◌}
use Rattle.std.specs.Int.{div_ceil}
use Rattle.cu_num.specs.Dtype.{size_of}
use Rattle.cu_num.specs.declared.types.Dtype.{Dtype}
use Rattle.cu_shape.specs.Counts.{counts_of, at_least_one}
use Rattle.cu_shape.specs.Index.{product}
use Rattle.cu_reduce.specs.Groups.{groups_of, group_counts}
use Rattle.cu_grid.specs.Grid.{IsGrid}
use Rattle.cu_origin.specs.Pull.{has_axis}
use Rattle.cu_origin.specs.declared.axes.Axes.{Axes}
use Rattle.cu_node.specs.Info.{info_of}
use Rattle.cu_node.specs.declared.info.NodeInfo.{NodeInfo}
use Rattle.cu_tree.specs.declared.round.Round.{Round}
use Rattle.cu_tree.specs.Rounds.{axis_rounds, rounds_of, AreRounds}

-- ---- of a reduction along some axes

-- how many partial results there are on an axis of n elements in chunks of c: one for each chunk, at least one, where it is reduced
abbrev pub partial_size : Axes → ℕ → ℕ → ℕ → ℕ
partial_size axes axis n c = if has_axis axes axis then max 1 (div_ceil n c) else n

-- chunks of one along a reduced axis, and the source's along one that is kept, for the axes from number `first` on
abbrev pub partial_chunk_from : Axes → ℕ → List ℕ → List ℕ
partial_chunk_from axes first [] = []
partial_chunk_from axes first (c ∷ cs) = (if has_axis axes first then 1 else c) ∷ partial_chunk_from axes (first + 1) cs

-- The first array, of this type: along a reduced axis as many as the source has chunks, at least one, and the source's size along one that
-- is kept.
abbrev pub first_partial : Dtype → Axes → NodeInfo → NodeInfo
first_partial t axes source = info_of t (group_counts (groups_of (has_axis axes) source.chunk) source.dims) (partial_chunk_from axes 0 source.chunk)

abbrev pub reduction_rounds : Axes → ℕ → NodeInfo → List Round
reduction_rounds axes split_every source = rounds_of axes split_every (counts_of source.dims source.chunk)

-- ---- of a product of matrices

-- how many chunks the inner axis has, the last of the left operand
abbrev pub inner_count : NodeInfo → ℕ
inner_count left = div_ceil (slice_index left.dims (length left.dims - 1)) (slice_index left.chunk (length left.chunk - 1))

-- the first array: that of the product with one more, last axis that numbers the chunks of the inner axis
abbrev pub product_partial : NodeInfo → NodeInfo → NodeInfo
product_partial left made = info_of made.dtype (made.dims ++ max 1 (inner_count left) ∷ []) (made.chunk ++ 1 ∷ [])

abbrev pub product_rounds : ℕ → NodeInfo → NodeInfo → List Round
product_rounds split_every left made = axis_rounds split_every (length made.dims) (inner_count left) (inner_count left)

-- ---- after a round

-- the array after a round
abbrev pub merged : Round → NodeInfo → NodeInfo
merged r i = info_of i.dtype (slice_set i.dims r.axis r.to) i.chunk

-- the array that an operation writes, behind which these rounds follow: the last writes the node's own
abbrev pub written_before : List Round → NodeInfo → NodeInfo → NodeInfo
written_before [] partial made = made
written_before (r ∷ rs) partial made = partial

-- how many chunks an array has; one with an axis of size 0 has none
abbrev pub chunks_of : NodeInfo → ℕ
chunks_of i = product (counts_of i.dims i.chunk)

-- ---- what they keep

-- these rounds merge the partial results of an array, along some axes and in groups of some size
pub record AreMerges (partial : NodeInfo) (rounds : List Round) : Type 0 where
  pub axes : Axes
  pub split_every : ℕ
  pub groups : 2 ≤ split_every
  pub rule : AreRounds axes split_every partial.dims rounds

-- an array inside a plan: a grid, at most 2^32 chunks, an axis of size 0 counting as one, and at most 2^28 bytes in a chunk
pub record IsMiddle (i : NodeInfo) : Type 0 where
  pub grid : IsGrid (record { shape = i.dims; chunk = i.chunk })
  pub chunks : product (at_least_one (counts_of i.dims i.chunk)) ≤ 2 ^ 32
  pub bytes : product i.chunk * size_of i.dtype ≤ 2 ^ 28
