-- What folds and merges share: regions and chunks of a source that is reduced in groups.
use Rattle.cu_num.specs.declared.folds.FoldKind.{FoldKind}
use Rattle.cu_op.specs.Arrays.{grid_at, grid_counts, type_at}
use Rattle.cu_op.specs.Chunks.{chunk_where, chunks_in_box, walk}
use Rattle.cu_op.specs.Partial.{merge_groups, partial_grid, IsSqueezed, partial_lo, partial_hi}
use Rattle.cu_op.specs.declared.cells.Cell.{Cell}
use Rattle.cu_op.specs.declared.layout.ArrayInfo.{ArrayInfo}
use Rattle.cu_op.specs.declared.walks.Walk.{Walk}
use Rattle.cu_reduce.specs.Groups.{Groups}
use Rattle.cu_reduce.specs.Kinds.{Accumulates, HasEnough}
use Rattle.cu_shape.specs.Index.{place_of, index_at}
use Rattle.std.specs.Prelude.{ℕ, ◌<◌, ◌≤◌, List, length, slice_set}

-- the coordinate of a chunk of partial results with a 0 on each axis of the source that they lack, which changes no row-major place
abbrev pub source_coord : List ArrayInfo → Groups → ℕ → ℕ → List ℕ → List ℕ
source_coord arrays groups source out c = index_at (grid_counts (partial_grid groups (grid_at arrays source))) (place_of (grid_counts (grid_at arrays out)) c)

-- of a source that is reduced in groups the region from which a region of the results is made
abbrev pub partial_walk : List ArrayInfo → Groups → ℕ → ℕ → List ℕ → List ℕ → Walk
partial_walk arrays gs source out lo hi = walk source (partial_lo arrays gs source out lo) (partial_hi arrays gs source out hi)

-- the results stand in the grid of partial results, which may lack axes of size 1, and have the type of the kind
pub record FoldFits (arrays : List ArrayInfo) (kind : FoldKind) (gs : Groups) (source out : ℕ) : Type 0 where
  pub result : IsSqueezed (partial_grid gs (grid_at arrays source)) (grid_at arrays out)
  pub types : Accumulates kind (type_at arrays source) (type_at arrays out)
  pub enough : HasEnough kind gs (grid_at arrays source).shape

-- of a source whose chunks are reduced one by one
abbrev pub reduced_chunk : List ArrayInfo → Groups → ℕ → ℕ → List ℕ → List Cell
reduced_chunk arrays groups source out c = chunk_where arrays source (source_coord arrays groups source out c)

-- Of partial results that are merged: the chunks that have a place from `group * j` to below `group * (j + 1)` on the merged axis, with j the
-- coordinate on it, and the coordinate itself elsewhere. They stand in chunks of one on that axis, so these are the chunks of those numbers.
abbrev pub merged_chunks : List ArrayInfo → ℕ → ℕ → ℕ → ℕ → List ℕ → List Cell
merged_chunks arrays axis group source out c =
    chunks_in_box arrays source (slice_set (grid_at arrays source).chunk axis group) (source_coord arrays (merge_groups axis group (grid_at arrays source)) source out c)

-- a merge goes along an axis of its source in groups of at least one
pub record IsMergeAlong (arrays : List ArrayInfo) (axis group source : ℕ) : Type 0 where
  pub along : axis < length (grid_at arrays source).shape
  pub some : 0 < group
  pub few : group ≤ 65536
