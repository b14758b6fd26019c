-- The steps of a fold by labels (this project's own rule): the groups of each chunk of the axis, and a merge for each round. Their partial
-- results are numbered by one more axis, as those of a product are.
use Rattle.std.specs.Prelude.{◌≡◌, ◌⊎◌, ℕ, ◌<◌, ◌≤◌, ◌^◌, List, [], ◌∷◌, length, slice_index, slice_set, None, ℤ, Option}
use Rattle.std.specs.List.{range_with_len}
use Rattle.cu_num.specs.Dtype.{IsInteger}
use Rattle.cu_num.specs.declared.folds.FoldKind.TheVariants.{Sum, Min}
use Rattle.cu_reduce.specs.Kinds.{Accumulates}
use Rattle.cu_reduce.specs.Labels.{Labelled, marked}
use Rattle.cu_op.specs.declared.operation.Op.{Op}
use Rattle.cu_op.specs.declared.operation.Op.TheVariants.{GroupFold}
use Rattle.cu_node.specs.Info.{IsInfo, chunk_bytes}
use Rattle.cu_node.specs.declared.info.NodeInfo.{NodeInfo}
use Rattle.cu_tree.specs.Needs.{product_need}
use Rattle.cu_tree.specs.Partials.{product_partial, product_rounds, written_before}
use Rattle.cu_tree.specs.declared.round.Round.{Round}
use Rattle.cu_lower_reduce.specs.Reductions.{merges}
use Rattle.cu_lower_reduce.specs.declared.grouped.Grouped.{Grouped}
use Rattle.cu_lower_reduce.specs.declared.step.Setting.{Setting}
use Rattle.cu_lower_reduce.specs.declared.step.Step.{Step}

-- the fold by labels, into array number `out`
abbrev pub grouped_fold : Grouped → ℕ → Op
grouped_fold x out = GroupFold x.kind x.axis x.groups x.source x.labels out

-- the groups of each chunk
abbrev pub chunk_groups_step : Setting → Grouped → NodeInfo → List Round → Step
chunk_groups_step s x partial rs = record {
  op = grouped_fold x s.first;
  values = None;
  made = written_before rs partial x.made;
  need = product_need s.reserved (chunk_bytes x.source_info) (chunk_bytes x.labels_info) (chunk_bytes x.made);
}

-- and the merges
abbrev pub labels_folded : Setting → Grouped → NodeInfo → List Round → List Step
labels_folded s x partial rs = chunk_groups_step s x partial rs ∷ merges s x.kind x.made s.first partial rs

abbrev pub grouped_steps : Setting → Grouped → List Step
grouped_steps s x = labels_folded s x (product_partial x.labels_info x.made) (product_rounds s.split_every x.labels_info x.made)

-- ---- what is grouped

-- the elements along the axis through an index of the result, with their labels
abbrev pub labelled_line : Grouped → (List ℕ → Option ℤ) → (List ℕ → Option ℤ) → List ℕ → List (Option Labelled)
labelled_line x source labels idx =
    marked (λ k. labels (k ∷ [])) (λ k. source (slice_set idx x.axis k)) (range_with_len 0 (slice_index x.source_info.dims x.axis))

-- The labels go along an axis of the source, in its chunks; the result has the groups there, in one chunk, and as many axes. The kind is a
-- sum or the least number.
pub record IsGrouped (x : Grouped) : Type 0 where
  pub source : IsInfo x.source_info
  pub made : IsInfo x.made
  pub kinds : (x.kind ≡ Sum) ⊎ (x.kind ≡ Min)
  pub along : x.axis < length x.source_info.dims
  pub some : 0 < x.groups
  pub few : x.groups ≤ 65536
  pub integer : IsInteger x.source_info.dtype
  pub types : Accumulates x.kind x.source_info.dtype x.made.dtype
  pub label_type : IsInteger x.labels_info.dtype
  pub label_sizes : x.labels_info.dims ≡ slice_index x.source_info.dims x.axis ∷ []
  pub label_chunk : x.labels_info.chunk ≡ slice_index x.source_info.chunk x.axis ∷ []
  pub label_bytes : chunk_bytes x.labels_info ≤ 2 ^ 28
  pub short : length x.made.dims ≤ 5
  pub shape : x.made.dims ≡ slice_set x.source_info.dims x.axis x.groups
  pub chunk : x.made.chunk ≡ slice_set x.source_info.chunk x.axis x.groups
