-- The outlines of nodes (this project's own rule): what is told of the operations of a node before their arrays have numbers, in order. What
-- a node costs is told by its outline alone.
use Rattle.std.specs.Prelude.{◌≡◌, ℕ, ◌*◌, ◌≤◌, nat_lt, if◌then◌else◌, List, [], ◌∷◌, ◌++◌, All, flat_map, length, map, Option, None, Some, sum_by}
use Rattle.cu_num.specs.Dtype.{size_of}
use Rattle.cu_num.specs.declared.types.Dtype.{Dtype}
use Rattle.cu_num.specs.declared.types.Dtype.TheVariants.{Int64}
use Rattle.cu_shape.specs.Counts.{largest}
use Rattle.cu_shape.specs.Index.{product}
use Rattle.cu_origin.specs.declared.axes.Axes.{Axes}
use Rattle.cu_node.specs.Info.{info_of, chunk_bytes}
use Rattle.cu_node.specs.declared.info.NodeInfo.{NodeInfo}
use Rattle.cu_tree.specs.Needs.{fold_bytes, merge_bytes, pair_fold_bytes, pair_merge_bytes, product_bytes}
use Rattle.cu_tree.specs.Partials.{chunks_of, first_partial, merged, product_partial, product_rounds, reduction_rounds, written_before, IsMiddle}
use Rattle.cu_tree.specs.Sums.{carry_bytes, cumulative_rounds, sums_array, sums_count}
use Rattle.cu_tree.specs.declared.outline.Outlined.{Outlined}
use Rattle.cu_tree.specs.declared.round.Round.{Round}

-- ---- what an outline comes to

-- values before the result
abbrev pub with_values : Option NodeInfo → NodeInfo → List NodeInfo
with_values None made = made ∷ []
with_values (Some values) made = values ∷ made ∷ []

abbrev pub outlined_arrays : Outlined → List NodeInfo
outlined_arrays o = with_values o.values o.made

abbrev pub outline_arrays : List Outlined → List NodeInfo
outline_arrays os = flat_map outlined_arrays os

-- a task for each chunk of the result
abbrev pub outlined_tasks : Outlined → ℕ
outlined_tasks o = chunks_of o.made

abbrev pub outline_tasks : List Outlined → ℕ
outline_tasks os = sum_by outlined_tasks os

-- the chunks that are stored
abbrev pub outline_cells : List Outlined → ℕ
outline_cells os = sum_by chunks_of (outline_arrays os)

-- the most bytes of a task, besides those that are reserved
abbrev pub outline_bytes : List Outlined → ℕ
outline_bytes os = largest (map (λ o. o.bytes) os)

-- an operation with one array
abbrev pub plain : NodeInfo → ℕ → Outlined
plain made bytes = record { values = None; made = made; bytes = bytes }

-- ---- an operation and merges behind it

-- what is stored beside partial results, behind which these rounds follow: nothing beside the last
abbrev pub stored : {A : Type 0} → List Round → A → Option A
stored [] values = None
stored (r ∷ rs) values = Some values

-- values of this type, where a search has them
abbrev pub values_before : Option Dtype → List Round → NodeInfo → Option NodeInfo
values_before None rs partial = None
values_before (Some t) rs partial = stored rs (info_of t partial.dims partial.chunk)

-- an operation that makes these partial results, behind which these rounds follow
abbrev pub partial_outlined : Option Dtype → ℕ → NodeInfo → List Round → NodeInfo → Outlined
partial_outlined values bytes partial rs made = record { values = values_before values rs partial; made = written_before rs partial made; bytes = bytes }

-- a merge for each round, behind these partial results
abbrev pub merges_outline : Option Dtype → ℕ → NodeInfo → List Round → NodeInfo → List Outlined
merges_outline values bytes partial [] made = []
merges_outline values bytes partial (r ∷ rs) made = partial_outlined values bytes (merged r partial) rs made ∷ merges_outline values bytes (merged r partial) rs made

-- of so many bytes first, and so many each merge
abbrev pub chain_outline : Option Dtype → ℕ → ℕ → NodeInfo → List Round → NodeInfo → List Outlined
chain_outline values first merge partial rs made = partial_outlined values first partial rs made ∷ merges_outline values merge partial rs made

-- ---- by the form

abbrev pub reduction_outline : ℕ → NodeInfo → NodeInfo → Axes → List Outlined
reduction_outline split_every made source axes =
    chain_outline None (fold_bytes (chunk_bytes source) (chunk_bytes made)) (merge_bytes split_every (chunk_bytes made)) (first_partial made.dtype axes source)
    (reduction_rounds axes split_every source) made

-- the bytes of the values of a chunk of places, which has as many elements as one of the result
abbrev pub value_bytes : NodeInfo → NodeInfo → ℕ
value_bytes made source = product made.chunk * size_of source.dtype

-- of a search for places
abbrev pub search_outline : ℕ → NodeInfo → NodeInfo → Axes → List Outlined
search_outline split_every made source axes =
    chain_outline (Some source.dtype) (pair_fold_bytes (chunk_bytes source) (value_bytes made source) (chunk_bytes made))
    (pair_merge_bytes split_every (value_bytes made source) (chunk_bytes made)) (first_partial Int64 axes source) (reduction_rounds axes split_every source) made

-- of a product of chunks of so many bytes, and of groups by labels: a part for each chunk of the inner axis of `left`
abbrev pub product_outline : ℕ → NodeInfo → NodeInfo → ℕ → ℕ → List Outlined
product_outline split_every made left left_bytes right_bytes =
    chain_outline None (product_bytes left_bytes right_bytes (chunk_bytes made)) (merge_bytes split_every (chunk_bytes made)) (product_partial left made)
    (product_rounds split_every left made) made

-- ---- prefix sums

abbrev pub sum_merges_outline : ℕ → NodeInfo → List Round → List Outlined
sum_merges_outline bytes sums [] = []
sum_merges_outline bytes sums (r ∷ rs) = plain (merged r sums) bytes ∷ sum_merges_outline bytes (merged r sums) rs

-- a carry for each array of sums, the last first
abbrev pub carries_outline : ℕ → NodeInfo → List Round → List Outlined
carries_outline bytes sums [] = plain sums bytes ∷ []
carries_outline bytes sums (r ∷ rs) = carries_outline bytes (merged r sums) rs ++ plain sums bytes ∷ []

-- of an axis with several chunks: a fold, merges of its sums, carries, and a scan with what is carried in
abbrev pub sums_outline : ℕ → NodeInfo → NodeInfo → NodeInfo → List Round → List Outlined
sums_outline split_every made source sums rs =
    plain sums (fold_bytes (chunk_bytes source) (chunk_bytes sums))
    ∷ (sum_merges_outline (merge_bytes split_every (chunk_bytes sums)) sums rs
    ++ (carries_outline (carry_bytes split_every (chunk_bytes sums)) sums rs ++ plain made (product_bytes (chunk_bytes source) (chunk_bytes sums) (chunk_bytes made)) ∷ []))

-- a scan alone where there is at most one chunk on the axis
abbrev pub cumulative_outline : ℕ → NodeInfo → NodeInfo → ℕ → List Outlined
cumulative_outline split_every made source axis =
    if nat_lt 1 (sums_count made source axis)
    then sums_outline split_every made source (sums_array made source axis) (cumulative_rounds split_every made source axis)
    else plain made (fold_bytes (chunk_bytes source) (chunk_bytes made)) ∷ []

-- ---- what they keep

-- The arrays keep the limits of an array inside a plan, the last of them is this one, and there are at most 33 operations.
pub record IsOutline (made : NodeInfo) (os : List Outlined) : Type 0 where
  pub kept : All IsMiddle (outline_arrays os)
  pub ends : (rest : List NodeInfo) × (outline_arrays os ≡ rest ++ made ∷ [])
  pub few : length os ≤ 33
