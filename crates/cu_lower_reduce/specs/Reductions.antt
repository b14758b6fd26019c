-- The steps of a reduction (this project's own rule): a fold of each chunk of the source, and a merge for each round.
use Rattle.std.specs.Prelude.{ℕ, ◌+◌, List, [], ◌∷◌, None}
use Rattle.cu_num.specs.declared.folds.FoldKind.{FoldKind}
use Rattle.cu_reduce.specs.Groups.{Groups, groups_of, group_of, group_indices}
use Rattle.cu_reduce.specs.Kinds.{Accumulates, HasEnough}
use Rattle.cu_origin.specs.Pull.{has_axis}
use Rattle.cu_origin.specs.declared.axes.Axes.{Axes}
use Rattle.cu_op.specs.Partial.{partial_grid, IsSqueezed}
use Rattle.cu_op.specs.declared.operation.Op.TheVariants.{Fold, Merge}
use Rattle.cu_node.specs.Info.{IsInfo, chunk_bytes}
use Rattle.cu_node.specs.declared.info.NodeInfo.{NodeInfo}
use Rattle.cu_tree.specs.Needs.{fold_need, merge_need}
use Rattle.cu_tree.specs.Partials.{first_partial, reduction_rounds, merged, written_before}
use Rattle.cu_tree.specs.declared.round.Round.{Round}
use Rattle.cu_lower_reduce.specs.Steps.{grid_of}
use Rattle.cu_lower_reduce.specs.declared.reduction.Reduction.{Reduction}
use Rattle.cu_lower_reduce.specs.declared.step.Setting.{Setting}
use Rattle.cu_lower_reduce.specs.declared.step.Step.{Step}

-- the merge of a round over array number `source`, which makes such an array, for a node that is made so
abbrev pub merge_head : Setting → FoldKind → NodeInfo → ℕ → Round → NodeInfo → Step
merge_head s kind made source r next = record {
  op = Merge kind r.axis s.split_every source (source + 1);
  values = None;
  made = next;
  need = merge_need s.reserved s.split_every (chunk_bytes made);
}

-- A merge for each round, from array number `source` on, which has these partial results; each makes the next array, and the last the
-- node's own.
abbrev pub merges : Setting → FoldKind → NodeInfo → ℕ → NodeInfo → List Round → List Step
merges s kind made source partial [] = []
merges s kind made source partial (r ∷ rs) =
    merge_head s kind made source r (written_before rs (merged r partial) made)
    ∷ merges s kind made (source + 1) (merged r partial) rs

-- the fold, where rounds of merges follow, and the merges
abbrev pub fold_head : Setting → Reduction → NodeInfo → List Round → Step
fold_head s x partial rs = record {
  op = Fold x.kind x.axes x.source s.first;
  values = None;
  made = written_before rs partial x.made;
  need = fold_need s.reserved (chunk_bytes x.from) (chunk_bytes x.made);
}

abbrev pub folded : Setting → Reduction → NodeInfo → List Round → List Step
folded s x partial rs =
    fold_head s x partial rs ∷ merges s x.kind x.made s.first partial rs

abbrev pub reduction_steps : Setting → Reduction → List Step
reduction_steps s x = folded s x (first_partial x.made.dtype x.axes x.from) (reduction_rounds x.axes s.split_every x.from)

-- ---- what is reduced

-- each reduced axis of an array as one whole group
abbrev pub whole_groups : Axes → List ℕ → Groups
whole_groups axes shape = groups_of (has_axis axes) shape

-- the indices of the array from which the result's element at an index is made
abbrev pub reduced_indices : Axes → List ℕ → List ℕ → List ℕ → List (List ℕ)
reduced_indices axes shape result idx = group_indices (whole_groups axes shape) shape (group_of (whole_groups axes shape) shape result idx)

-- The result has one element along each reduced axis, in a chunk of one, or lacks the axis; the type is the kind's.
pub record IsReduction (x : Reduction) : Type 0 where
  pub from : IsInfo x.from
  pub made : IsInfo x.made
  pub result : IsSqueezed (partial_grid (whole_groups x.axes x.from.dims) (grid_of x.from)) (grid_of x.made)
  pub types : Accumulates x.kind x.from.dtype x.made.dtype
  pub enough : HasEnough x.kind (whole_groups x.axes x.from.dims) x.from.dims
