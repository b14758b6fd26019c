-- The steps of a node are operations of its outline.
use Rattle.std.proofs.Common.{ℕ, ◌+◌, ◌*◌, ◌≤◌, ◌^◌, Bool, true, false, if◌then◌else◌, nat_lt, List, [], ◌∷◌, ◌++◌, length, None, Some, refl, subst, arith}
use Rattle.cu_num.specs.Dtype.{size_of}
use Rattle.cu_num.specs.declared.types.Dtype.{Dtype}
use Rattle.cu_num.specs.declared.folds.FoldKind.{FoldKind}
use Rattle.cu_num.specs.declared.folds.FoldKind.TheVariants.{Sum}
use Rattle.cu_shape.specs.Index.{product}
use Rattle.cu_node.specs.Info.{chunk_bytes}
use Rattle.cu_node.specs.declared.info.NodeInfo.{NodeInfo}
use Rattle.cu_tree.specs.Marks.{sought_axes}
use Rattle.cu_tree.specs.Needs.{fold_bytes, fold_need, merge_bytes, pair_merge_bytes, product_bytes}
use Rattle.cu_tree.specs.Outlines.{carries_outline, cumulative_outline, merges_outline, plain, product_outline, reduction_outline, search_outline, sum_merges_outline, sums_outline, value_bytes}
use Rattle.cu_tree.specs.Partials.{first_partial, merged, partial_chunk_from, product_partial, product_rounds, reduction_rounds}
use Rattle.cu_tree.specs.Sums.{carry_bytes, cumulative_rounds, sums_array, sums_count}
use Rattle.cu_tree.specs.declared.outline.Outlined.{Outlined}
use Rattle.cu_tree.specs.declared.round.Round.{Round}
use Rattle.cu_tree.proofs.Outlines.{cumulative_is, product_is, reduction_is, search_is}
use Rattle.cu_lower_reduce.specs.Cumulative.{carried_step, cumulative_steps, first_carry, last_scan, scanned_step, sum_carries, sum_merges, summed_steps, IsCumulative}
use Rattle.cu_lower_reduce.specs.Grouped.{grouped_steps, IsGrouped}
use Rattle.cu_lower_reduce.specs.Partials.{IsSetting}
use Rattle.cu_lower_reduce.specs.Products.{product_steps, IsProduct}
use Rattle.cu_lower_reduce.specs.Reductions.{merges, reduction_steps, IsReduction}
use Rattle.cu_lower_reduce.specs.Searches.{pair_merges, search_steps, IsSearch}
use Rattle.cu_lower_reduce.specs.Steps.{AreOutlined, ComeTo}
use Rattle.cu_lower_reduce.specs.declared.cumulative.Cumulative.{Cumulative}
use Rattle.cu_lower_reduce.specs.declared.grouped.Grouped.{Grouped}
use Rattle.cu_lower_reduce.specs.declared.product.Product.{Product}
use Rattle.cu_lower_reduce.specs.declared.reduction.Reduction.{Reduction}
use Rattle.cu_lower_reduce.specs.declared.search.Search.{Search}
use Rattle.cu_lower_reduce.specs.declared.step.Setting.{Setting}
use Rattle.cu_lower_reduce.specs.declared.step.Step.{Step}
use Rattle.cu_lower_reduce.proofs.Firsts.{first_bytes}
use Rattle.cu_lower_reduce.proofs.GroupSteps.{labels_kept, labels_rank}
use Rattle.cu_lower_reduce.proofs.Searching.{typed, first_places}

-- ---- step by step

outlined_join : (reserved : ℕ) (os qs : List Outlined) (xs ys : List Step) → AreOutlined reserved os xs → AreOutlined reserved qs ys → AreOutlined reserved (os ++ qs) (xs ++ ys)
outlined_join reserved [] qs [] ys h k = k
outlined_join reserved [] qs (x ∷ xs) ys h k = absurd h
outlined_join reserved (o ∷ os) qs [] ys h k = absurd h
outlined_join reserved (o ∷ os) qs (x ∷ xs) ys h k = (h.0, outlined_join reserved os qs xs ys h.1 k)

outlined_merges : (s : Setting) (kind : FoldKind) (made : NodeInfo) (source : ℕ) (i : NodeInfo) (rs : List Round)
    → AreOutlined s.reserved (merges_outline None (merge_bytes s.split_every (chunk_bytes made)) i rs made) (merges s kind made source i rs)
outlined_merges s kind made source i [] = tt
outlined_merges s kind made source i (r ∷ rs) = ((refl, refl), outlined_merges s kind made (source + 1) (merged r i) rs)

outlined_pairs : (s : Setting) (x : Search) (source : ℕ) (i : NodeInfo) (rs : List Round)
    → AreOutlined s.reserved (merges_outline (Some x.from.dtype) (pair_merge_bytes s.split_every (value_bytes x.made x.from) (chunk_bytes x.made)) i rs x.made) (pair_merges s x source (typed x.from.dtype i) i rs)
outlined_pairs s x source i [] = tt
outlined_pairs s x source i (r ∷ rs) = ((refl, refl), outlined_pairs s x (source + 2) (merged r i) rs)

outlined_sum_merges : (s : Setting) (source : ℕ) (i : NodeInfo) (rs : List Round) → AreOutlined s.reserved (sum_merges_outline (merge_bytes s.split_every (chunk_bytes i)) i rs) (sum_merges s source i rs)
outlined_sum_merges s source i [] = tt
outlined_sum_merges s source i (r ∷ rs) = ((refl, refl), outlined_sum_merges s (source + 1) (merged r i) rs)

outlined_carries : (s : Setting) (axis source : ℕ) (i : NodeInfo) (rs : List Round) (next : ℕ)
    → AreOutlined s.reserved (carries_outline (carry_bytes s.split_every (chunk_bytes i)) i rs) (sum_carries s axis source i rs next)
outlined_carries s axis source i [] next = ((refl, refl), tt)
outlined_carries s axis source i (r ∷ rs) next =
    outlined_join s.reserved (carries_outline (carry_bytes s.split_every (chunk_bytes i)) (merged r i) rs) (plain i (carry_bytes s.split_every (chunk_bytes i)) ∷ []) (sum_carries s axis (source + 1) (merged r i) rs next)
    (carried_step s axis source i (Some (next + length rs)) (next + length rs + 1) ∷ []) (outlined_carries s axis (source + 1) (merged r i) rs next) ((refl, refl), tt)

outlined_sums : (s : Setting) (x : Cumulative) (i : NodeInfo) (rs : List Round) → AreOutlined s.reserved (sums_outline s.split_every x.made x.from i rs) (summed_steps s x i rs)
outlined_sums s x i rs =
    let carries = carries_outline (carry_bytes s.split_every (chunk_bytes i)) i rs in
    let last = plain x.made (product_bytes (chunk_bytes x.from) (chunk_bytes i) (chunk_bytes x.made)) in (
      (refl, refl),
      outlined_join s.reserved (sum_merges_outline (merge_bytes s.split_every (chunk_bytes i)) i rs) (carries ++ last ∷ []) (sum_merges s s.first i rs)
          (sum_carries s x.axis s.first i rs (first_carry s rs) ++ last_scan s x i rs ∷ []) (outlined_sum_merges s s.first i rs)
          (outlined_join s.reserved carries (last ∷ []) (sum_carries s x.axis s.first i rs (first_carry s rs)) (last_scan s x i rs ∷ []) (outlined_carries s x.axis s.first i rs (first_carry s rs)) ((refl, refl), tt)),
    )

outlined_by : (several : Bool) (s : Setting) (x : Cumulative) (i : NodeInfo) (rs : List Round)
    → AreOutlined s.reserved (if several then sums_outline s.split_every x.made x.from i rs else plain x.made (fold_bytes (chunk_bytes x.from) (chunk_bytes x.made)) ∷ [])
    (if several then summed_steps s x i rs else scanned_step x None s.first (fold_need s.reserved (chunk_bytes x.from) (chunk_bytes x.made)) ∷ [])
outlined_by true s x i rs = outlined_sums s x i rs
outlined_by false s x i rs = ((refl, refl), tt)

-- ---- by the form

pub reduction_comes : (s : Setting) (x : Reduction) → IsSetting s → IsReduction x → ComeTo s.reserved (reduction_outline s.split_every x.made x.from x.axes) x.made (reduction_steps s x)
reduction_comes s x k h = record {
  outlined = ((refl, refl), outlined_merges s x.kind x.made s.first (first_partial x.made.dtype x.axes x.from) (reduction_rounds x.axes s.split_every x.from));
  is_outline = reduction_is s.split_every _ _ x.made x.from x.axes k.several h.made h.from (first_bytes x.axes x.from x.made h.from h.made h.result);
}

pub search_comes : (s : Setting) (x : Search) → IsSetting s → IsSearch x → ComeTo s.reserved (search_outline s.split_every x.made x.from (sought_axes x.axis)) x.made (search_steps s x)
search_comes s x k h = record {
  outlined = ((refl, refl), outlined_pairs s x s.first (first_places x) (reduction_rounds (sought_axes x.axis) s.split_every x.from));
  is_outline = search_is s.split_every _ _ x.made x.from (sought_axes x.axis) k.several h.made h.from
      (subst (λ (t : Dtype). product (partial_chunk_from (sought_axes x.axis) 0 x.from.chunk) * size_of t ≤ 2 ^ 28) h.places (first_bytes (sought_axes x.axis) x.from x.made h.from h.made h.result));
}

pub product_comes : (s : Setting) (x : Product) → IsSetting s → IsProduct x
    → ComeTo s.reserved (product_outline s.split_every x.made x.left_info (chunk_bytes x.left_info) (chunk_bytes x.right_info)) x.made (product_steps s x)
product_comes s x k h = record {
  outlined = ((refl, refl), outlined_merges s Sum x.made s.first (product_partial x.left_info x.made) (product_rounds s.split_every x.left_info x.made));
  is_outline = product_is s.split_every _ _ x.made x.left_info k.several h.made (let short = h.short in omega (arith, short)) h.left h.left_rank;
}

pub grouped_comes : (s : Setting) (x : Grouped) → IsSetting s → IsGrouped x
    → ComeTo s.reserved (product_outline s.split_every x.made x.labels_info (chunk_bytes x.source_info) (chunk_bytes x.labels_info)) x.made (grouped_steps s x)
grouped_comes s x k h = record {
  outlined = ((refl, refl), outlined_merges s x.kind x.made s.first (product_partial x.labels_info x.made) (product_rounds s.split_every x.labels_info x.made));
  is_outline = product_is s.split_every _ _ x.made x.labels_info k.several h.made (let short = h.short in omega (arith, short)) (labels_kept x h) (labels_rank x h);
}

pub cumulative_comes : (s : Setting) (x : Cumulative) → IsSetting s → IsCumulative x → ComeTo s.reserved (cumulative_outline s.split_every x.made x.from x.axis) x.made (cumulative_steps s x)
cumulative_comes s x k h = record {
  outlined = outlined_by (nat_lt 1 (sums_count x.made x.from x.axis)) s x (sums_array x.made x.from x.axis) (cumulative_rounds s.split_every x.made x.from x.axis);
  is_outline = cumulative_is s.split_every x.made x.from x.axis k.several h.summed;
}
