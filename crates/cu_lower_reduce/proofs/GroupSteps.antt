-- A fold by labels as the first step, and its merges. What is merged stands in an array that no plan has: it has the result's axes and the
-- axis of the labels behind them.
use Rattle.std.proofs.Common.{◌≡◌, ℕ, zero, suc, ◌+◌, ◌-◌, ◌<◌, ◌≤◌, ◌^◌, List, [], ◌∷◌, ◌++◌, All, length, max, Some, slice_get, slice_index, slice_set, refl, ap, sym, ◌∙◌, subst, arith, inl, inr}
use Rattle.std.specs.Int.{div_ceil}
use Rattle.std.proofs.Math.ListN.{length-set}
use Rattle.std.proofs.Math.Seq.{get_or-append_seam}
use Rattle.std.proofs.lemmas.List.{length-append, append-nil}
use Rattle.std.proofs.lemmas.List.Elements.{All-get_or}
use Rattle.cu_num.specs.Dtype.{IsInteger}
use Rattle.cu_num.specs.declared.types.Dtype.{Dtype}
use Rattle.cu_grid.specs.Grid.{RegularGrid}
use Rattle.cu_shape.proofs.Products.{size_within}
use Rattle.cu_reduce.specs.Kinds.{Accumulates}
use Rattle.cu_origin.specs.declared.axes.Axes.{Axes}
use Rattle.cu_op.specs.Along.{size_on, chunk_on}
use Rattle.cu_op.specs.Arrays.{type_at}
use Rattle.cu_op.specs.Grouping.{label_chunks}
use Rattle.cu_op.specs.Matrix.{HasParts}
use Rattle.cu_op.specs.Operation.{Fits}
use Rattle.cu_op.specs.declared.layout.ArrayInfo.{ArrayInfo}
use Rattle.cu_node.specs.Info.{IsInfo, chunk_bytes}
use Rattle.cu_node.specs.declared.info.NodeInfo.{NodeInfo}
use Rattle.cu_tree.specs.Partials.{first_partial, inner_count, product_partial, product_rounds, written_before}
use Rattle.cu_tree.specs.declared.round.Round.{Round}
use Rattle.cu_tree.proofs.Orders.{of_product}
use Rattle.cu_tree.proofs.Sizes.{count_few}
use Rattle.cu_lower_reduce.specs.Grouped.{chunk_groups_step, grouped_fold, labels_folded, grouped_steps, IsGrouped}
use Rattle.cu_lower_reduce.specs.Partials.{IsSetting}
use Rattle.cu_lower_reduce.specs.Reductions.{merges}
use Rattle.cu_lower_reduce.specs.Steps.{HasInfo, HaveInfos, all_made, IsGiven, IsStep, AreSteps}
use Rattle.cu_lower_reduce.specs.declared.grouped.Grouped.{Grouped}
use Rattle.cu_lower_reduce.specs.declared.step.Setting.{Setting}
use Rattle.cu_lower_reduce.specs.declared.step.Step.{Step}
use Rattle.cu_lower_reduce.proofs.Chains.{length-merges}
use Rattle.cu_lower_reduce.proofs.Firsts.{behind}
use Rattle.cu_lower_reduce.proofs.Folds.{contains_first, written_bytes, merges_last, merges_number}
use Rattle.cu_lower_reduce.proofs.LastAxis.{axis_alone, longer, has_own, counts_last, chunk_last, longer_squeezed}
use Rattle.cu_lower_reduce.proofs.Lasts.{last_target}
use Rattle.cu_lower_reduce.proofs.Standing.{IsPartial, first_stands}
use Rattle.cu_lower_reduce.proofs.Stepping.{IsChain, IsTurn, room_of, chunks_in, accumulates_self, same_bytes, merges_hold}

-- ---- the axis and its labels

abbrev pub axis_size : Grouped → ℕ
axis_size x = slice_index x.source_info.dims x.axis

abbrev pub axis_chunk : Grouped → ℕ
axis_chunk x = slice_index x.source_info.chunk x.axis

pub chunk_positive : (x : Grouped) → IsGrouped x → 0 < axis_chunk x
chunk_positive x h = let r = h.source.ranks in let a = h.along in All-get_or (λ (c : ℕ). 0 < c) x.source_info.chunk x.axis 0 (omega arith) h.source.positive

-- the labels have as many chunks as the axis
pub same_count : (x : Grouped) → IsGrouped x → inner_count x.labels_info ≡ div_ceil (axis_size x) (axis_chunk x)
same_count x h j =
    div_ceil (slice_index (h.label_sizes j) (length (h.label_sizes j) - 1)) (slice_index (h.label_chunk j) (length (h.label_chunk j) - 1))

pub rank_same : (x : Grouped) → IsGrouped x → length x.source_info.dims ≡ length x.made.dims
rank_same x h = sym (ap length h.shape ∙ length-set x.source_info.dims x.axis x.groups)

-- the labels keep the limits of a node's array
pub labels_kept : (x : Grouped) → IsGrouped x → IsInfo x.labels_info
labels_kept x h = by_sizes x.labels_info h.label_sizes h.label_chunk h.label_bytes
  where
    one : All (λ (c : ℕ). 0 < c) (axis_chunk x ∷ [])
    one zero d l = chunk_positive x h
    one (suc k) d l = absurd (omega arith)

    by_sizes : (i : NodeInfo) → i.dims ≡ axis_size x ∷ [] → i.chunk ≡ axis_chunk x ∷ [] → chunk_bytes i ≤ 2 ^ 28 → IsInfo i
    by_sizes i d c b =
        let n = size_within x.source_info.dims x.axis h.along in
        let m = h.source.elements in
        let k = count_few x.source_info x.axis h.source h.along in
        record {
          ranks = rw (d, c) refl;
          short = rw d (omega arith);
          positive = subst (All (λ (c : ℕ). 0 < c)) (sym c) one;
          elements = rw d (omega (arith, n, m));
          chunks = rw (d, c) (omega (arith, k));
          bytes = b;
        }

pub labels_rank : (x : Grouped) → IsGrouped x → 1 ≤ length x.labels_info.dims
labels_rank x h = rw h.label_sizes (omega arith)

-- ---- the array of all elements with their labels

abbrev pub all_labelled : Grouped → NodeInfo
all_labelled x = longer x.made.dtype x.made.dims x.made.chunk (axis_size x) (axis_chunk x)

-- the axis along which it is reduced, and its partial results
abbrev pub labels_axis : Grouped → Axes
labels_axis x = axis_alone (length x.made.dims)

abbrev pub parts_of_labels : Grouped → NodeInfo
parts_of_labels x = product_partial x.labels_info x.made

-- what is known of them before the merges
abbrev pub IsGroupTurn : Setting → Grouped → List Round → Type 0
IsGroupTurn s x rounds = IsTurn s (labels_axis x) (all_labelled x) x.made (parts_of_labels x) rounds

pub labelled_ranks : (x : Grouped) → IsGrouped x → length (all_labelled x).chunk ≡ length (all_labelled x).dims
labelled_ranks x h =
    let r = h.made.ranks in
    let a = length-append x.made.dims (axis_size x ∷ []) in
    let b = length-append x.made.chunk (axis_chunk x ∷ []) in
    omega arith

-- its chunks along the axis are the partial results
pub first_groups : (x : Grouped) → IsGrouped x → first_partial x.made.dtype (labels_axis x) (all_labelled x) ≡ parts_of_labels x
first_groups x h =
    let z : length x.made.dims ≡ 0 + length x.made.dims = omega arith in
    let r = h.made.ranks in
    let counts = counts_last (length x.made.dims) 0 x.made.dims x.made.chunk (axis_size x) (axis_chunk x) r z ∙ ap (λ (m : ℕ). x.made.dims ++ max 1 m ∷ []) (sym (same_count x h)) in
    let chunks = chunk_last (length x.made.dims) 0 x.made.chunk (axis_chunk x) (omega arith) in
    (λ j. record { dtype = x.made.dtype; dims = counts j; chunk = chunks j })

pub grouped_chain : (s : Setting) (x : Grouped) → IsSetting s → IsGrouped x → IsChain s x.kind (labels_axis x) (all_labelled x) x.made
grouped_chain s x k h = record {
  several = k.several;
  few = (let f = k.few in omega arith);
  ranks = labelled_ranks x h;
  result = longer_squeezed x.made.dtype x.made.dims x.made.chunk (axis_size x) (axis_chunk x) x.made h.made.ranks refl refl;
  types = accumulates_self x.kind x.source_info.dtype x.made.dtype h.types;
}

pub grouped_turn : (s : Setting) (x : Grouped) → IsSetting s → IsGrouped x
    → IsGroupTurn s x (product_rounds s.split_every x.labels_info x.made)
grouped_turn s x k h = record {
  stands = subst (IsPartial (labels_axis x) (all_labelled x)) (first_groups x h) (first_stands x.made.dtype (labels_axis x) (all_labelled x) (labelled_ranks x h));
  dtype = refl;
  rule = of_product s.split_every x.labels_info x.made k.several;
}

-- ---- one part where no rounds follow

pub one_chunk : (s : Setting) (x : Grouped) → IsGrouped x → IsGroupTurn s x []
    → div_ceil (axis_size x) (axis_chunk x) ≤ 1
one_chunk s x h t =
    let n = inner_count x.labels_info in
    let l = length-append x.made.dims (max 1 (inner_count x.labels_info) ∷ []) in
    let few = t.rule (length x.made.dims) (omega arith) (has_own (length x.made.dims) (length x.made.dims) refl) in
    let e = get_or-append_seam x.made.dims (max 1 (inner_count x.labels_info)) [] 0 in
    let c = same_count x h in
    omega (arith, few, e, c)

-- ---- the fold fits

pub group_fits : (arrays : List ArrayInfo) (x : Grouped) (out : ℕ) (o : NodeInfo) (parts part_chunks : List ℕ) → IsGrouped x
    → HasInfo arrays x.source x.source_info → HasInfo arrays x.labels x.labels_info → HasInfo arrays out o
    → o.dtype ≡ x.made.dtype → o.dims ≡ x.made.dims ++ parts → o.chunk ≡ x.made.chunk ++ part_chunks
    → HasParts (div_ceil (axis_size x) (axis_chunk x)) parts part_chunks
    → Fits arrays (grouped_fold x out)
group_fits arrays x out o parts part_chunks h l r k t d c numbered = record {
  parts = parts;
  part_chunks = part_chunks;
  kinds = h.kinds;
  along = subst (λ (g : RegularGrid). x.axis < length g.shape) (sym l.grid) h.along;
  some = h.some;
  few = h.few;
  integer = subst IsInteger (sym l.dtype) h.integer;
  types = subst (λ (y : Dtype). Accumulates x.kind y (type_at arrays out)) (sym l.dtype) (subst (λ (y : Dtype). Accumulates x.kind x.source_info.dtype y) (sym (k.dtype ∙ t)) h.types);
  label_type = subst IsInteger (sym r.dtype) h.label_type;
  label_sizes = (λ j. (r.grid j).shape) ∙ h.label_sizes ∙ (λ j. size_on (sym l.grid j) x.axis ∷ []);
  label_chunk = (λ j. (r.grid j).chunk) ∙ h.label_chunk ∙ (λ j. chunk_on (sym l.grid j) x.axis ∷ []);
  numbered = subst (λ (g : RegularGrid). HasParts (label_chunks g x.axis) parts part_chunks) (sym l.grid) numbered;
  shape = (λ j. (k.grid j).shape) ∙ d ∙ ap (λ (ns : List ℕ). ns ++ parts) h.shape ∙ (λ j. slice_set (sym l.grid j).shape x.axis x.groups ++ parts);
  chunk = (λ j. (k.grid j).chunk) ∙ c ∙ ap (λ (ns : List ℕ). ns ++ part_chunks) h.chunk ∙ (λ j. slice_set (sym l.grid j).chunk x.axis x.groups ++ part_chunks);
}

first_fits : (arrays : List ArrayInfo) (s : Setting) (x : Grouped) (rs : List Round) → IsGrouped x → IsGroupTurn s x rs
    → HasInfo arrays x.source x.source_info → HasInfo arrays x.labels x.labels_info
    → HasInfo arrays s.first (written_before rs (parts_of_labels x) x.made)
    → Fits arrays (grouped_fold x s.first)
first_fits arrays s x [] h t l r o =
    group_fits arrays x s.first x.made [] [] h l r o refl (sym (append-nil x.made.dims)) (sym (append-nil x.made.chunk)) (inl (one_chunk s x h t, refl, refl))
first_fits arrays s x (p ∷ rs) h t l r o =
    group_fits arrays x s.first (parts_of_labels x) (max 1 (inner_count x.labels_info) ∷ []) (1 ∷ []) h l r o refl refl refl
    (inr (ap (λ (m : ℕ). max 1 m ∷ []) (same_count x h), refl))

group_holds : (arrays : List ArrayInfo) (s : Setting) (x : Grouped) (rs : List Round) → IsSetting s → IsGrouped x
    → IsGroupTurn s x rs
    → HasInfo arrays x.source x.source_info → HasInfo arrays x.labels x.labels_info
    → HasInfo arrays s.first (written_before rs (parts_of_labels x) x.made)
    → IsStep arrays s.reserved (x.source ∷ x.labels ∷ []) s.first s.first
    (chunk_groups_step s x (parts_of_labels x) rs)
group_holds arrays s x rs k h t l r o =
    let same = written_bytes rs (parts_of_labels x) x.made (same_bytes s x.kind (labels_axis x) (all_labelled x) x.made (parts_of_labels x) (grouped_chain s x k h) t.stands refl) in
    record {
      writes = refl;
      reads = reads;
      fits = first_fits arrays s x rs h t l r o;
      need = rw (room_of arrays x.source x.source_info l, room_of arrays x.labels x.labels_info r, room_of arrays s.first (written_before rs (parts_of_labels x) x.made) o, same) (omega arith);
      tasks = chunks_in arrays s.first (written_before rs (parts_of_labels x) x.made) o;
    }
  where
    reads : All (IsGiven (x.source ∷ x.labels ∷ []) s.first s.first) (x.source ∷ x.labels ∷ [])
    reads zero d b = inl (contains_first x.source (x.labels ∷ []))
    reads (suc zero) d b = inl (1, omega arith, refl)
    reads (suc (suc n)) d b = absurd (omega arith)

folded_hold : (arrays : List ArrayInfo) (s : Setting) (x : Grouped) (rs : List Round) → IsSetting s → IsGrouped x
    → IsGroupTurn s x rs
    → HasInfo arrays x.source x.source_info → HasInfo arrays x.labels x.labels_info
    → HaveInfos arrays s.first (all_made (labels_folded s x (parts_of_labels x) rs))
    → AreSteps arrays s.reserved (x.source ∷ x.labels ∷ []) s.first s.first (labels_folded s x (parts_of_labels x) rs)
folded_hold arrays s x [] k h t l r o = (group_holds arrays s x [] k h t l r o.0, tt)
folded_hold arrays s x (p ∷ rs) k h t l r o = (
  group_holds arrays s x (p ∷ rs) k h t l r o.0,
  merges_hold arrays s x.kind (labels_axis x) (all_labelled x) x.made (x.source ∷ x.labels ∷ []) s.first s.first (parts_of_labels x) (p ∷ rs) (grouped_chain s x k h) (omega arith) t o.0 o.1,
)

pub grouped_holds : (arrays : List ArrayInfo) (s : Setting) (x : Grouped) → IsSetting s → IsGrouped x
    → HasInfo arrays x.source x.source_info → HasInfo arrays x.labels x.labels_info
    → HaveInfos arrays s.first (all_made (grouped_steps s x))
    → AreSteps arrays s.reserved (x.source ∷ x.labels ∷ []) s.first s.first (grouped_steps s x)
grouped_holds arrays s x k h l r o = folded_hold arrays s x (product_rounds s.split_every x.labels_info x.made) k h (grouped_turn s x k h) l r o

-- ---- the last array

folded_last : (arrays : List ArrayInfo) (s : Setting) (x : Grouped) (i : NodeInfo) (rs : List Round)
    → HaveInfos arrays s.first (all_made (labels_folded s x i rs)) → HasInfo arrays (last_target (labels_folded s x i rs)) x.made
folded_last arrays s x i [] k = k.0
folded_last arrays s x i (r ∷ rs) k = merges_last arrays s x.kind x.made s.first i r rs k.1

pub grouped_last : (arrays : List ArrayInfo) (s : Setting) (x : Grouped) → HaveInfos arrays s.first (all_made (grouped_steps s x))
    → HasInfo arrays (last_target (grouped_steps s x)) x.made
grouped_last arrays s x k = folded_last arrays s x (parts_of_labels x) (product_rounds s.split_every x.labels_info x.made) k

folded_number : (s : Setting) (x : Grouped) (i : NodeInfo) (rs : List Round)
    → last_target (labels_folded s x i rs) + 1 ≡ s.first + length (all_made (labels_folded s x i rs))
folded_number s x i [] = refl
folded_number s x i (r ∷ rs) = let e = merges_number s x.kind x.made s.first i r rs in omega (arith, e)

pub grouped_number : (s : Setting) (x : Grouped) → last_target (grouped_steps s x) + 1 ≡ s.first + length (all_made (grouped_steps s x))
grouped_number s x = folded_number s x (parts_of_labels x) (product_rounds s.split_every x.labels_info x.made)

-- ---- the steps behind the first

pub grouped_behind : (s : Setting) (x : Grouped) (at : ℕ) (partial : NodeInfo) (rounds : List Round) (r : Step) → 0 < at
    → partial ≡ parts_of_labels x
    → rounds ≡ product_rounds s.split_every x.labels_info x.made
    → slice_get (merges s x.kind x.made s.first partial rounds) (at - 1) ≡ Some r → slice_get (grouped_steps s x) at ≡ Some r
grouped_behind s x at partial rounds r h p q e =
    let w = rw (p, q) at e in
    behind _ (merges s x.kind x.made s.first (parts_of_labels x) (product_rounds s.split_every x.labels_info x.made)) at h ∙ w

pub grouped_count : (s : Setting) (x : Grouped)
    → length (grouped_steps s x) ≡ length (product_rounds s.split_every x.labels_info x.made) + 1
grouped_count s x =
    let e = length-merges s x.kind x.made s.first (parts_of_labels x) (product_rounds s.split_every x.labels_info x.made) in
    omega (arith, e)
