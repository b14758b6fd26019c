-- The steps of a search for places (this project's own rule): in each chunk of the source the least or the greatest elements and their
-- places are found, and a merge for each round finds the best of them. The last step stores no values.
use Rattle.std.specs.Prelude.{◌≡◌, ℕ, ◌+◌, List, [], ◌∷◌}
use Rattle.cu_num.specs.declared.types.Dtype.TheVariants.{Int64}
use Rattle.cu_reduce.specs.Groups.{HasElements}
use Rattle.cu_op.specs.Places.{HasPlaceAxis}
use Rattle.cu_op.specs.Partial.{partial_grid, IsSqueezed}
use Rattle.cu_op.specs.declared.operation.Op.TheVariants.{PairFold, PairMerge}
use Rattle.cu_node.specs.Info.{IsInfo, chunk_bytes}
use Rattle.cu_node.specs.declared.info.NodeInfo.{NodeInfo}
use Rattle.cu_tree.specs.Marks.{sought_axes}
use Rattle.cu_tree.specs.Needs.{pair_fold_need, pair_merge_need}
pub use Rattle.cu_tree.specs.Outlines.{stored}
use Rattle.cu_tree.specs.Outlines.{value_bytes}
use Rattle.cu_tree.specs.Partials.{first_partial, reduction_rounds, merged, written_before}
use Rattle.cu_tree.specs.declared.round.Round.{Round}
use Rattle.cu_lower_reduce.specs.Reductions.{whole_groups}
use Rattle.cu_lower_reduce.specs.Steps.{grid_of}
use Rattle.cu_lower_reduce.specs.declared.search.Search.{Search}
use Rattle.cu_lower_reduce.specs.declared.step.Setting.{Setting}
use Rattle.cu_lower_reduce.specs.declared.step.Step.{Step}

-- ---- where values are stored: in each step but the last

-- the number of the places, where the step's first array has this one
abbrev pub places_number : List Round → ℕ → ℕ
places_number [] next = next
places_number (r ∷ rs) next = next + 1

-- the bytes of a chunk of values, which has as many elements as one of the result
abbrev pub value_chunk_bytes : Search → ℕ
value_chunk_bytes x = value_bytes x.made x.from

-- A merge for each round, from array number `source` on: it has these values, and the next one these places.
abbrev pub pair_merges : Setting → Search → ℕ → NodeInfo → NodeInfo → List Round → List Step
pair_merges s x source values places [] = []
pair_merges s x source values places (r ∷ rs) =
    record {
      op = PairMerge x.least r.axis s.split_every source (source + 1) (stored rs (source + 2)) (places_number rs (source + 2));
      values = stored rs (merged r values);
      made = written_before rs (merged r places) x.made;
      need = pair_merge_need s.reserved s.split_every (value_chunk_bytes x) (chunk_bytes x.made);
    } ∷ pair_merges s x (source + 2) (merged r values) (merged r places) rs

-- the search in chunks, and the merges
abbrev pub pairs_found : Setting → Search → NodeInfo → NodeInfo → List Round → List Step
pairs_found s x values places rs =
    record {
      op = PairFold x.least x.axis x.source (stored rs s.first) (places_number rs s.first);
      values = stored rs values;
      made = written_before rs places x.made;
      need = pair_fold_need s.reserved (chunk_bytes x.from) (value_chunk_bytes x) (chunk_bytes x.made);
    } ∷ pair_merges s x s.first values places rs

abbrev pub search_steps : Setting → Search → List Step
search_steps s x =
    pairs_found s x (first_partial x.from.dtype (sought_axes x.axis) x.from) (first_partial Int64 (sought_axes x.axis) x.from) (reduction_rounds (sought_axes x.axis) s.split_every x.from)

-- ---- what is sought

-- The result has one element along each axis that is sought, in a chunk of one, or lacks the axis; no such axis is empty.
pub record IsSearch (x : Search) : Type 0 where
  pub from : IsInfo x.from
  pub made : IsInfo x.made
  pub along : HasPlaceAxis x.axis x.from.dims
  pub result : IsSqueezed (partial_grid (whole_groups (sought_axes x.axis) x.from.dims) (grid_of x.from)) (grid_of x.made)
  pub places : x.made.dtype ≡ Int64
  pub enough : HasElements (whole_groups (sought_axes x.axis) x.from.dims) x.from.dims
