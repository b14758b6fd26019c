-- A product of matrices as the first step, and its merges. The products that are summed stand in an array that no plan has: it has the
-- product's axes and the inner axis behind them.
use Rattle.std.proofs.Common.{◌≡◌, ℕ, zero, suc, ◌+◌, ◌≤◌, List, [], ◌∷◌, ◌++◌, All, length, max, None, Some, refl, ap, sym, ◌∙◌, subst, arith, inl, inr}
use Rattle.std.proofs.lemmas.List.{length-append, append-nil}
use Rattle.std.proofs.Math.Seq.{get_or-append_seam}
use Rattle.cu_num.specs.Dtype.{IsInteger}
use Rattle.cu_num.specs.Promotion.{promotion}
use Rattle.cu_num.specs.declared.folds.FoldKind.TheVariants.{Sum}
use Rattle.cu_grid.specs.Grid.{RegularGrid}
use Rattle.cu_op.specs.Matrix.{batch_rank, rows_of, columns_of, left_inner, right_inner, batch_grid, HasParts, inner_chunk_count as chunks_between}
use Rattle.cu_op.specs.Operation.{Fits}
use Rattle.cu_op.specs.Aligned.{IsAligned}
use Rattle.cu_op.specs.declared.layout.ArrayInfo.{ArrayInfo}
use Rattle.cu_op.specs.declared.operation.Op.TheVariants.{Mul}
use Rattle.cu_node.specs.declared.info.NodeInfo.{NodeInfo}
use Rattle.cu_tree.specs.Needs.{product_need}
use Rattle.cu_tree.specs.Partials.{first_partial, inner_count, product_partial, product_rounds, written_before}
use Rattle.cu_tree.specs.declared.round.Round.{Round}
use Rattle.cu_tree.proofs.Orders.{of_product}
use Rattle.cu_lower_reduce.specs.Partials.{IsSetting}
use Rattle.cu_lower_reduce.specs.Products.{multiplied, product_steps, IsProduct}
use Rattle.cu_lower_reduce.specs.Steps.{HasInfo, HaveInfos, all_made, IsGiven, IsStep, AreSteps}
use Rattle.cu_lower_reduce.specs.declared.product.Product.{Product}
use Rattle.cu_lower_reduce.specs.declared.step.Setting.{Setting}
use Rattle.cu_lower_reduce.proofs.Folds.{contains_first, written_bytes, merges_last, merges_number}
use Rattle.cu_lower_reduce.proofs.LastAxis.{axis_alone, longer, has_own, counts_last, chunk_last, longer_squeezed}
use Rattle.cu_lower_reduce.proofs.Lasts.{last_target}
use Rattle.cu_lower_reduce.proofs.Standing.{IsPartial, first_stands}
use Rattle.cu_lower_reduce.proofs.Stepping.{IsChain, IsTurn, room_of, chunks_in, same_bytes, merges_hold}
use Rattle.cu_node.specs.Info.{chunk_bytes}

-- ---- the array of all products

abbrev pub all_products : Product → NodeInfo
all_products x = longer x.made.dtype x.made.dims x.made.chunk (left_inner x.left_info.dims) (left_inner x.left_info.chunk)

pub product_ranks : (x : Product) → IsProduct x → length (all_products x).chunk ≡ length (all_products x).dims
product_ranks x h =
    let r = h.made.ranks in
    let a = length-append x.made.dims (left_inner x.left_info.dims ∷ []) in
    let b = length-append x.made.chunk (left_inner x.left_info.chunk ∷ []) in
    omega arith

-- its chunks along the inner axis are the partial results
pub first_products : (x : Product) → IsProduct x → first_partial x.made.dtype (axis_alone (length x.made.dims)) (all_products x) ≡ product_partial x.left_info x.made
first_products x h =
    let z : length x.made.dims ≡ 0 + length x.made.dims = omega arith in
    let r = h.made.ranks in
    let counts = counts_last (length x.made.dims) 0 x.made.dims x.made.chunk (left_inner x.left_info.dims) (left_inner x.left_info.chunk) r z in
    let chunks = chunk_last (length x.made.dims) 0 x.made.chunk (left_inner x.left_info.chunk) (omega arith) in
    (λ j. record { dtype = x.made.dtype; dims = counts j; chunk = chunks j })

pub product_chain : (s : Setting) (x : Product) → IsSetting s → IsProduct x → IsChain s Sum (axis_alone (length x.made.dims)) (all_products x) x.made
product_chain s x k h = record {
  several = k.several;
  few = (let f = k.few in omega arith);
  ranks = product_ranks x h;
  result = longer_squeezed x.made.dtype x.made.dims x.made.chunk (left_inner x.left_info.dims) (left_inner x.left_info.chunk) x.made h.made.ranks refl refl;
  types = h.integer;
}

pub product_turn : (s : Setting) (x : Product) → IsSetting s → IsProduct x → IsTurn s (axis_alone (length x.made.dims)) (all_products x) x.made (product_partial x.left_info x.made) (product_rounds s.split_every x.left_info x.made)
product_turn s x k h = record {
  stands = subst (IsPartial (axis_alone (length x.made.dims)) (all_products x)) (first_products x h) (first_stands x.made.dtype (axis_alone (length x.made.dims)) (all_products x) (product_ranks x h));
  dtype = refl;
  rule = of_product s.split_every x.left_info x.made k.several;
}

-- ---- one part where no rounds follow

pub one_part : (s : Setting) (x : Product) → IsTurn s (axis_alone (length x.made.dims)) (all_products x) x.made (product_partial x.left_info x.made) [] → inner_count x.left_info ≤ 1
one_part s x t =
    let n = inner_count x.left_info in
    let l = length-append x.made.dims (max 1 (inner_count x.left_info) ∷ []) in
    let few = t.rule (length x.made.dims) (omega arith) (has_own (length x.made.dims) (length x.made.dims) refl) in
    let e = get_or-append_seam x.made.dims (max 1 (inner_count x.left_info)) [] 0 in
    omega (arith, few, e)

-- ---- the product fits

pub mul_fits : (arrays : List ArrayInfo) (x : Product) (out : ℕ) (o : NodeInfo) (parts part_chunks : List ℕ) → IsProduct x → HasInfo arrays x.left x.left_info → HasInfo arrays x.right x.right_info → HasInfo arrays out o
    → o.dtype ≡ x.made.dtype → o.dims ≡ x.made.dims ++ parts → o.chunk ≡ x.made.chunk ++ part_chunks → HasParts (inner_count x.left_info) parts part_chunks → Fits arrays (Mul x.left x.right out)
mul_fits arrays x out o parts part_chunks h l r k t d c numbered = record {
  sizes = h.sizes;
  chunks = h.chunks;
  parts = parts;
  part_chunks = part_chunks;
  left_rank = subst (λ (g : RegularGrid). 1 ≤ length g.shape) (sym l.grid) h.left_rank;
  right_rank = subst (λ (g : RegularGrid). 1 ≤ length g.shape) (sym r.grid) h.right_rank;
  integer = subst IsInteger (sym (k.dtype ∙ t)) h.integer;
  types = (λ j. promotion (l.dtype j) (r.dtype j)) ∙ h.types ∙ ap Some (sym (k.dtype ∙ t));
  inner = (λ j. left_inner (l.grid j).shape) ∙ h.inner ∙ (λ j. right_inner (sym r.grid j).shape);
  inner_chunk = (λ j. left_inner (l.grid j).chunk) ∙ h.inner_chunk ∙ (λ j. right_inner (sym r.grid j).chunk);
  rank = h.rank ∙ (λ j. batch_rank (sym l.grid j).shape (sym r.grid j).shape);
  left_batch = subst (λ (g : RegularGrid). IsAligned (batch_grid g) (record { shape = h.sizes; chunk = h.chunks })) (sym l.grid) h.left_batch;
  right_batch = subst (λ (g : RegularGrid). IsAligned (batch_grid g) (record { shape = h.sizes; chunk = h.chunks })) (sym r.grid) h.right_batch;
  numbered = subst (λ (g : RegularGrid). HasParts (chunks_between g) parts part_chunks) (sym l.grid) numbered;
  shape = (λ j. (k.grid j).shape) ∙ d ∙ ap (λ (ns : List ℕ). ns ++ parts) h.shape ∙ (λ j. h.sizes ++ rows_of (sym l.grid j).shape ++ columns_of (sym r.grid j).shape ++ parts);
  chunk = (λ j. (k.grid j).chunk) ∙ c ∙ ap (λ (ns : List ℕ). ns ++ part_chunks) h.chunk ∙ (λ j. h.chunks ++ rows_of (sym l.grid j).chunk ++ columns_of (sym r.grid j).chunk ++ part_chunks);
}

first_fits : (arrays : List ArrayInfo) (s : Setting) (x : Product) (rs : List Round) → IsProduct x → IsTurn s (axis_alone (length x.made.dims)) (all_products x) x.made (product_partial x.left_info x.made) rs
    → HasInfo arrays x.left x.left_info → HasInfo arrays x.right x.right_info → HasInfo arrays s.first (written_before rs (product_partial x.left_info x.made) x.made) → Fits arrays (Mul x.left x.right s.first)
first_fits arrays s x [] h t l r o =
    mul_fits arrays x s.first x.made [] [] h l r o refl (sym (append-nil x.made.dims)) (sym (append-nil x.made.chunk)) (inl (one_part s x t, refl, refl))
first_fits arrays s x (p ∷ rs) h t l r o =
    mul_fits arrays x s.first (product_partial x.left_info x.made) (max 1 (inner_count x.left_info) ∷ []) (1 ∷ []) h l r o refl refl refl (inr (refl, refl))

mul_holds : (arrays : List ArrayInfo) (s : Setting) (x : Product) (rs : List Round) → IsSetting s → IsProduct x
    → IsTurn s (axis_alone (length x.made.dims)) (all_products x) x.made (product_partial x.left_info x.made) rs
    → HasInfo arrays x.left x.left_info → HasInfo arrays x.right x.right_info → HasInfo arrays s.first (written_before rs (product_partial x.left_info x.made) x.made)
    → IsStep arrays s.reserved (x.left ∷ x.right ∷ []) s.first s.first
    (record {
      op = Mul x.left x.right s.first;
      values = None;
      made = written_before rs (product_partial x.left_info x.made) x.made;
      need = product_need s.reserved (chunk_bytes x.left_info) (chunk_bytes x.right_info) (chunk_bytes x.made);
    })
mul_holds arrays s x rs k h t l r o =
    let same = written_bytes rs (product_partial x.left_info x.made) x.made (same_bytes s Sum (axis_alone (length x.made.dims)) (all_products x) x.made (product_partial x.left_info x.made) (product_chain s x k h) t.stands refl) in
    record {
      writes = refl;
      reads = reads;
      fits = first_fits arrays s x rs h t l r o;
      need = rw (room_of arrays x.left x.left_info l, room_of arrays x.right x.right_info r, room_of arrays s.first (written_before rs (product_partial x.left_info x.made) x.made) o, same) (omega arith);
      tasks = chunks_in arrays s.first (written_before rs (product_partial x.left_info x.made) x.made) o;
    }
  where
    reads : All (IsGiven (x.left ∷ x.right ∷ []) s.first s.first) (x.left ∷ x.right ∷ [])
    reads zero d b = inl (contains_first x.left (x.right ∷ []))
    reads (suc zero) d b = inl (1, omega arith, refl)
    reads (suc (suc n)) d b = absurd (omega arith)

multiplied_hold : (arrays : List ArrayInfo) (s : Setting) (x : Product) (rs : List Round) → IsSetting s → IsProduct x
    → IsTurn s (axis_alone (length x.made.dims)) (all_products x) x.made (product_partial x.left_info x.made) rs
    → HasInfo arrays x.left x.left_info → HasInfo arrays x.right x.right_info → HaveInfos arrays s.first (all_made (multiplied s x (product_partial x.left_info x.made) rs))
    → AreSteps arrays s.reserved (x.left ∷ x.right ∷ []) s.first s.first (multiplied s x (product_partial x.left_info x.made) rs)
multiplied_hold arrays s x [] k h t l r o = (mul_holds arrays s x [] k h t l r o.0, tt)
multiplied_hold arrays s x (p ∷ rs) k h t l r o = (
  mul_holds arrays s x (p ∷ rs) k h t l r o.0,
  merges_hold arrays s Sum (axis_alone (length x.made.dims)) (all_products x) x.made (x.left ∷ x.right ∷ []) s.first s.first (product_partial x.left_info x.made) (p ∷ rs) (product_chain s x k h) (omega arith) t o.0 o.1,
)

pub product_holds : (arrays : List ArrayInfo) (s : Setting) (x : Product) → IsSetting s → IsProduct x → HasInfo arrays x.left x.left_info → HasInfo arrays x.right x.right_info
    → HaveInfos arrays s.first (all_made (product_steps s x)) → AreSteps arrays s.reserved (x.left ∷ x.right ∷ []) s.first s.first (product_steps s x)
product_holds arrays s x k h l r o = multiplied_hold arrays s x (product_rounds s.split_every x.left_info x.made) k h (product_turn s x k h) l r o

-- ---- the last array

multiplied_last : (arrays : List ArrayInfo) (s : Setting) (x : Product) (i : NodeInfo) (rs : List Round) → HaveInfos arrays s.first (all_made (multiplied s x i rs)) → HasInfo arrays (last_target (multiplied s x i rs)) x.made
multiplied_last arrays s x i [] k = k.0
multiplied_last arrays s x i (r ∷ rs) k = merges_last arrays s Sum x.made s.first i r rs k.1

pub product_last : (arrays : List ArrayInfo) (s : Setting) (x : Product) → HaveInfos arrays s.first (all_made (product_steps s x)) → HasInfo arrays (last_target (product_steps s x)) x.made
product_last arrays s x k = multiplied_last arrays s x (product_partial x.left_info x.made) (product_rounds s.split_every x.left_info x.made) k

multiplied_number : (s : Setting) (x : Product) (i : NodeInfo) (rs : List Round) → last_target (multiplied s x i rs) + 1 ≡ s.first + length (all_made (multiplied s x i rs))
multiplied_number s x i [] = refl
multiplied_number s x i (r ∷ rs) = let e = merges_number s Sum x.made s.first i r rs in omega (arith, e)

pub product_number : (s : Setting) (x : Product) → last_target (product_steps s x) + 1 ≡ s.first + length (all_made (product_steps s x))
product_number s x = multiplied_number s x (product_partial x.left_info x.made) (product_rounds s.split_every x.left_info x.made)
