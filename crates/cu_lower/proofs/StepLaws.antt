-- The laws of the steps of a node: those of views, reductions, searches for places, products, prefix sums and groups by labels.
use Rattle.std.specs.Prelude.{◌≡◌, ◌<◌, ◌+◌, ◌∷◌, ◌++◌, [], ℕ, ℤ, true, List, All, Some, filter, length, map, slice_index, sum_by}
use Rattle.cu_copy.specs.Copies.{is_misaligned, rechunk_cells, rechunk_tasks, rechunked}
use Rattle.cu_copy.specs.declared.copies.Rechunk.{Rechunk}
use Rattle.cu_num.specs.Dtype.{InRange}
use Rattle.cu_num.specs.declared.folds.FoldKind.TheVariants.{Sum}
use Rattle.cu_shape.specs.Index.{IsInside}
use Rattle.cu_reduce.specs.Folds.{reduced_to}
use Rattle.cu_reduce.specs.Labels.{grouped_to}
use Rattle.cu_reduce.specs.Places.{best_in}
use Rattle.cu_reduce.specs.Prefix.{cumulative, line_through}
use Rattle.cu_node.specs.declared.info.NodeInfo.{NodeInfo}
use Rattle.cu_op.specs.Elements.{Elements}
use Rattle.cu_op.specs.Places.{counted_at, pair_part}
use Rattle.cu_op.specs.declared.layout.ArrayInfo.{ArrayInfo}
use Rattle.cu_form.specs.declared.form.Form.{Form}
use Rattle.cu_origin.specs.declared.pull.Pull.{Pull as View}
use Rattle.cu_tree.specs.Marks.{sought_axes}
use Rattle.cu_tree.specs.Outlines.{cumulative_outline, product_outline, reduction_outline, search_outline}
use Rattle.cu_lower_reduce.specs.Cumulative.{cumulative_steps, IsCumulative}
use Rattle.cu_lower_reduce.specs.Grouped.{grouped_steps, labelled_line, IsGrouped}
use Rattle.cu_lower_reduce.specs.Partials.{IsSetting}
use Rattle.cu_lower_reduce.specs.Products.{product_steps, inner_products, IsProduct}
use Rattle.cu_lower_reduce.specs.Reductions.{reduction_steps, reduced_indices, IsReduction}
use Rattle.cu_lower_reduce.specs.Searches.{search_steps, IsSearch}
use Rattle.cu_lower_reduce.specs.Steps.{HasInfo, HaveEach, HaveInfos, IsGiven, all_made, AreSteps, SolveSteps, last_made, ComeTo}
use Rattle.cu_lower_reduce.specs.Copies.{aligned_places, aligned_steps, copy_steps, AreCopies, AreOperands, IsStaged}
use Rattle.cu_lower_reduce.specs.declared.copy.CopySetting.{CopySetting}
use Rattle.cu_lower_reduce.specs.declared.cumulative.Cumulative.{Cumulative}
use Rattle.cu_lower_reduce.specs.declared.grouped.Grouped.{Grouped}
use Rattle.cu_lower_reduce.specs.declared.product.Product.{Product}
use Rattle.cu_lower_reduce.specs.declared.reduction.Reduction.{Reduction}
use Rattle.cu_lower_reduce.specs.declared.search.Search.{Search}
use Rattle.cu_lower_reduce.specs.declared.step.Setting.{Setting}
use Rattle.cu_lower_view.specs.Typed.{IsTypedView, IsPull}
use Rattle.cu_node.specs.Info.{chunk_bytes}

pub record ReductionLaw : Type 0 where
  pub steps : (arrays : List ArrayInfo) (s : Setting) (x : Reduction) → IsSetting s → IsReduction x → HasInfo arrays x.source x.from → HaveInfos arrays s.first (all_made (reduction_steps s x))
      → AreSteps arrays s.reserved (x.source ∷ []) s.first s.first (reduction_steps s x)
  pub sizes : (s : Setting) (x : Reduction) → IsSetting s → IsReduction x
      → ComeTo s.reserved (reduction_outline s.split_every x.made x.from x.axes) x.made (reduction_steps s x)
  pub value : (arrays : List ArrayInfo) (at : Elements) (s : Setting) (x : Reduction) → IsSetting s → IsReduction x → HasInfo arrays x.source x.from → HaveInfos arrays s.first (all_made (reduction_steps s x))
      → SolveSteps arrays at (reduction_steps s x) → ((i : List ℕ) (y : ℤ) → IsInside x.from.dims i → at x.source i ≡ Some y → InRange x.from.dtype y)
      → (idx : List ℕ) → IsInside x.made.dims idx
      → at (last_made s.first (reduction_steps s x)) idx ≡ reduced_to x.kind x.made.dtype (map (at x.source) (reduced_indices x.axes x.from.dims x.made.dims idx))

pub record SearchLaw : Type 0 where
  pub steps : (arrays : List ArrayInfo) (s : Setting) (x : Search) → IsSetting s → IsSearch x → HasInfo arrays x.source x.from → HaveInfos arrays s.first (all_made (search_steps s x))
      → AreSteps arrays s.reserved (x.source ∷ []) s.first s.first (search_steps s x)
  pub sizes : (s : Setting) (x : Search) → IsSetting s → IsSearch x
      → ComeTo s.reserved (search_outline s.split_every x.made x.from (sought_axes x.axis)) x.made (search_steps s x)
  pub value : (arrays : List ArrayInfo) (at : Elements) (s : Setting) (x : Search) → IsSetting s → IsSearch x → HasInfo arrays x.source x.from → HaveInfos arrays s.first (all_made (search_steps s x))
      → SolveSteps arrays at (search_steps s x) → (idx : List ℕ) → IsInside x.made.dims idx
      → at (last_made s.first (search_steps s x)) idx
      ≡ pair_part true (best_in x.least (map (counted_at x.from.dims x.axis (at x.source)) (reduced_indices (sought_axes x.axis) x.from.dims x.made.dims idx)))

pub record ProductLaw : Type 0 where
  pub steps : (arrays : List ArrayInfo) (s : Setting) (x : Product) → IsSetting s → IsProduct x → HasInfo arrays x.left x.left_info → HasInfo arrays x.right x.right_info
      → HaveInfos arrays s.first (all_made (product_steps s x)) → AreSteps arrays s.reserved (x.left ∷ x.right ∷ []) s.first s.first (product_steps s x)
  pub sizes : (s : Setting) (x : Product) → IsSetting s → IsProduct x
      → ComeTo s.reserved (product_outline s.split_every x.made x.left_info (chunk_bytes x.left_info) (chunk_bytes x.right_info)) x.made (product_steps s x)
  pub value : (arrays : List ArrayInfo) (at : Elements) (s : Setting) (x : Product) → IsSetting s → IsProduct x → HasInfo arrays x.left x.left_info → HasInfo arrays x.right x.right_info
      → HaveInfos arrays s.first (all_made (product_steps s x)) → SolveSteps arrays at (product_steps s x)
      → (idx : List ℕ) → IsInside x.made.dims idx
      → at (last_made s.first (product_steps s x)) idx ≡ reduced_to Sum x.made.dtype (inner_products x (at x.left) (at x.right) idx)

pub record CumulativeLaw : Type 0 where
  pub steps : (arrays : List ArrayInfo) (s : Setting) (x : Cumulative) → IsSetting s → IsCumulative x → x.source < s.first → HasInfo arrays x.source x.from → HaveInfos arrays s.first (all_made (cumulative_steps s x))
      → AreSteps arrays s.reserved (x.source ∷ []) s.first s.first (cumulative_steps s x)
  pub sizes : (s : Setting) (x : Cumulative) → IsSetting s → IsCumulative x
      → ComeTo s.reserved (cumulative_outline s.split_every x.made x.from x.axis) x.made (cumulative_steps s x)
  pub value : (arrays : List ArrayInfo) (at : Elements) (s : Setting) (x : Cumulative) → IsSetting s → IsCumulative x → HasInfo arrays x.source x.from → HaveInfos arrays s.first (all_made (cumulative_steps s x))
      → SolveSteps arrays at (cumulative_steps s x) → (idx : List ℕ) → IsInside x.made.dims idx
      → at (last_made s.first (cumulative_steps s x)) idx ≡ cumulative x.made.dtype (line_through (at x.source) x.axis idx) (slice_index idx x.axis)

pub record GroupedLaw : Type 0 where
  pub steps : (arrays : List ArrayInfo) (s : Setting) (x : Grouped) → IsSetting s → IsGrouped x → HasInfo arrays x.source x.source_info → HasInfo arrays x.labels x.labels_info
      → HaveInfos arrays s.first (all_made (grouped_steps s x)) → AreSteps arrays s.reserved (x.source ∷ x.labels ∷ []) s.first s.first (grouped_steps s x)
  pub sizes : (s : Setting) (x : Grouped) → IsSetting s → IsGrouped x
      → ComeTo s.reserved (product_outline s.split_every x.made x.labels_info (chunk_bytes x.source_info) (chunk_bytes x.labels_info)) x.made (grouped_steps s x)
  pub value : (arrays : List ArrayInfo) (at : Elements) (s : Setting) (x : Grouped) → IsSetting s → IsGrouped x → HasInfo arrays x.source x.source_info → HasInfo arrays x.labels x.labels_info
      → HaveInfos arrays s.first (all_made (grouped_steps s x)) → SolveSteps arrays at (grouped_steps s x)
      → ((i : List ℕ) (y : ℤ) → IsInside x.source_info.dims i → at x.source i ≡ Some y → InRange x.source_info.dtype y)
      → (idx : List ℕ) → IsInside x.made.dims idx
      → at (last_made s.first (grouped_steps s x)) idx ≡ grouped_to x.kind x.made.dtype (slice_index idx x.axis) (labelled_line x (at x.source) (at x.labels) idx)

pub record RechunkLaw : Type 0 where
  pub steps : (arrays : List ArrayInfo) (s : CopySetting) (source : ℕ) (r : Rechunk) → IsStaged s r → HasInfo arrays source r.source → HaveInfos arrays s.first (all_made (copy_steps s source r))
      → AreSteps arrays s.reserved (source ∷ []) s.first s.first (copy_steps s source r)
  pub last : (arrays : List ArrayInfo) (s : CopySetting) (source : ℕ) (r : Rechunk) → HaveInfos arrays s.first (all_made (copy_steps s source r)) → HasInfo arrays (last_made s.first (copy_steps s source r)) (rechunked r)
  pub ends : (s : CopySetting) (source : ℕ) (r : Rechunk) → (rest : List NodeInfo) × (all_made (copy_steps s source r) ≡ rest ++ rechunked r ∷ [])
  pub sizes : (s : CopySetting) (source : ℕ) (r : Rechunk) → IsStaged s r → AreCopies s 1 (rechunk_tasks s.most r) (rechunk_cells s.most r) (copy_steps s source r)
  pub value : (arrays : List ArrayInfo) (at : Elements) (s : CopySetting) (source : ℕ) (r : Rechunk) → SolveSteps arrays at (copy_steps s source r)
      → (idx : List ℕ) → at (last_made s.first (copy_steps s source r)) idx ≡ at source idx

pub record OperandsLaw : Type 0 where
  pub steps : (arrays : List ArrayInfo) (s : CopySetting) (sources : List ℕ) (rs : List Rechunk) → AreOperands s rs → HaveEach arrays sources (map (λ r. r.source) rs)
      → HaveInfos arrays s.first (all_made (aligned_steps s sources rs)) → AreSteps arrays s.reserved sources s.first s.first (aligned_steps s sources rs)
  pub places : (arrays : List ArrayInfo) (s : CopySetting) (sources : List ℕ) (rs : List Rechunk) → HaveEach arrays sources (map (λ r. r.source) rs)
      → HaveInfos arrays s.first (all_made (aligned_steps s sources rs)) → HaveEach arrays (aligned_places s sources rs) (map rechunked rs)
  pub given : (s : CopySetting) (sources : List ℕ) (rs : List Rechunk) → length sources ≡ length rs
      → All (IsGiven sources s.first (s.first + length (all_made (aligned_steps s sources rs)))) (aligned_places s sources rs)
  pub sizes : (s : CopySetting) (sources : List ℕ) (rs : List Rechunk) → AreOperands s rs → length sources ≡ length rs
      → AreCopies s (length (filter is_misaligned rs)) (sum_by (rechunk_tasks s.most) (filter is_misaligned rs)) (sum_by (rechunk_cells s.most) (filter is_misaligned rs)) (aligned_steps s sources rs)
  pub value : (arrays : List ArrayInfo) (at : Elements) (s : CopySetting) (sources : List ℕ) (rs : List Rechunk) (j : ℕ) → length sources ≡ length rs → j < length rs
      → SolveSteps arrays at (aligned_steps s sources rs) → (idx : List ℕ) → at (slice_index (aligned_places s sources rs) j) idx ≡ at (slice_index sources j) idx

-- each view that is typed has a pull, and the steps of the others keep what steps keep
pub record HaveLaws : Type 0 where
  pub pulls : (infos : List NodeInfo) (form : Form) (i : NodeInfo) → IsTypedView infos form i → (p : View) × IsPull infos form i p
  pub reductions : ReductionLaw
  pub searches : SearchLaw
  pub products : ProductLaw
  pub sums : CumulativeLaw
  pub groups : GroupedLaw
  pub rechunks : RechunkLaw
  pub operands : OperandsLaw
