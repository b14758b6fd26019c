-- A fold as the first step of a reduction.
use Rattle.std.proofs.Common.{if◌then◌else◌, ◌≡◌, ℕ, zero, suc, ◌+◌, Bool, true, false, List, [], ◌∷◌, All, Contains, length, None, Some, refl, sym, ◌∙◌, subst, arith, inl}
use Rattle.cu_num.specs.declared.types.Dtype.{Dtype}
use Rattle.cu_num.specs.declared.folds.FoldKind.{FoldKind}
use Rattle.cu_num.specs.declared.folds.FoldKind.TheVariants.{Sum, Prod, Min, Max, Any, All as Every}
use Rattle.cu_grid.specs.Grid.{RegularGrid}
use Rattle.cu_reduce.specs.Groups.{Groups, groups_from, HasElements}
use Rattle.cu_reduce.specs.Kinds.{Accumulates, HasEnough}
use Rattle.cu_origin.specs.Pull.{has_axis}
use Rattle.cu_origin.specs.declared.axes.Axes.{Axes}
use Rattle.cu_op.specs.Arrays.{grid_at, type_at}
use Rattle.cu_op.specs.Partial.{partial_grid, chunk_groups, IsSqueezed}
use Rattle.cu_op.specs.declared.layout.ArrayInfo.{ArrayInfo}
use Rattle.cu_node.specs.declared.info.NodeInfo.{NodeInfo}
use Rattle.cu_tree.specs.Partials.{first_partial, reduction_rounds, merged, written_before}
use Rattle.cu_tree.specs.Rounds.{AreRounds}
use Rattle.cu_tree.specs.declared.round.Round.{Round}
use Rattle.cu_tree.proofs.Orders.{of_reduction}
use Rattle.cu_tree.proofs.Sizes.{length-dims, length-chunk}
use Rattle.cu_lower_reduce.specs.Partials.{IsSetting}
use Rattle.cu_lower_reduce.specs.Reductions.{fold_head, merges, folded, reduction_steps, whole_groups, IsReduction}
use Rattle.cu_lower_reduce.specs.Steps.{grid_of, HasInfo, HaveInfos, all_made, IsGiven, IsStep, AreSteps}
use Rattle.cu_lower_reduce.specs.declared.reduction.Reduction.{Reduction}
use Rattle.cu_lower_reduce.specs.declared.step.Setting.{Setting}
use Rattle.cu_lower_reduce.proofs.Lasts.{last_target}
use Rattle.cu_lower_reduce.proofs.Squeezed.{same_grid, same_chunks}
use Rattle.cu_lower_reduce.proofs.Standing.{first_stands, end_grid}
use Rattle.cu_lower_reduce.proofs.Stepping.{IsChain, IsTurn, room_of, chunks_in, accumulates_self, same_bytes, merges_hold}
use Rattle.cu_node.specs.Info.{chunk_bytes}

-- ---- which axes have elements

pub elements_same : (p : ℕ → Bool) (first : ℕ) (ss cs ns : List ℕ) → length ss ≡ length cs → HasElements (groups_from p first ss) ns → HasElements (groups_from p first cs) ns
elements_same p first [] [] ns e h = h
elements_same p first [] (c ∷ cs) ns e h = absurd (omega arith)
elements_same p first (s ∷ ss) [] ns e h = absurd (omega arith)
elements_same p first (s ∷ ss) (c ∷ cs) [] e h = by_test (p first) (groups_from p (first + 1) cs)
  where
    by_test : (b : Bool) (gs : Groups) → HasElements ((if b then Some c else None) ∷ gs) []
    by_test true gs = tt
    by_test false gs = tt
elements_same p first (s ∷ ss) (c ∷ cs) (n ∷ ns) e h = by_test (p first) h (elements_same p (first + 1) ss cs ns (omega arith))
  where
    by_test : (b : Bool) → HasElements ((if b then Some s else None) ∷ groups_from p (first + 1) ss) (n ∷ ns)
        → (HasElements (groups_from p (first + 1) ss) ns → HasElements (groups_from p (first + 1) cs) ns) → HasElements ((if b then Some c else None) ∷ groups_from p (first + 1) cs) (n ∷ ns)
    by_test true w k = (w.0, k w.1)
    by_test false w k = k w

pub enough_same : (kind : FoldKind) (p : ℕ → Bool) (ss cs ns : List ℕ) → length ss ≡ length cs → HasEnough kind (groups_from p 0 ss) ns → HasEnough kind (groups_from p 0 cs) ns
enough_same Sum p ss cs ns e h = tt
enough_same Prod p ss cs ns e h = tt
enough_same Min p ss cs ns e h = elements_same p 0 ss cs ns e h
enough_same Max p ss cs ns e h = elements_same p 0 ss cs ns e h
enough_same Any p ss cs ns e h = tt
enough_same Every p ss cs ns e h = tt

-- ---- the grid of what a fold makes

pub first_grid : (t : Dtype) (axes : Axes) (from : NodeInfo) → partial_grid (chunk_groups axes (grid_of from)) (grid_of from) ≡ grid_of (first_partial t axes from)
first_grid t axes from j = record { shape = (first_partial t axes from).dims; chunk = same_chunks axes 0 from.chunk from.chunk refl j }

-- where rounds follow it is that of the partial results, else the node's own
pub first_squeezed : (t : Dtype) (axes : Axes) (g : ℕ) (from made : NodeInfo) (rs : List Round) → length from.chunk ≡ length from.dims
    → IsSqueezed (partial_grid (whole_groups axes from.dims) (grid_of from)) (grid_of made) → AreRounds axes g (first_partial t axes from).dims rs
    → IsSqueezed (partial_grid (chunk_groups axes (grid_of from)) (grid_of from)) (grid_of (written_before rs (first_partial t axes from) made))
first_squeezed t axes g from made [] e h rule =
    subst (λ (x : RegularGrid). IsSqueezed x (grid_of made)) (sym (first_grid t axes from ∙ end_grid axes from (first_partial t axes from) (first_stands t axes from e) rule)) h
first_squeezed t axes g from made (r ∷ rs) e h rule =
    let l = length-chunk axes 0 from.chunk in
    let d = length-dims (has_axis axes) 0 from.dims from.chunk e in
    subst (λ (x : RegularGrid). IsSqueezed x (grid_of (first_partial t axes from))) (sym (first_grid t axes from))
    (same_grid (first_partial t axes from).dims (first_partial t axes from).chunk (omega arith))

-- ---- the step

pub contains_first : (a : ℕ) (rest : List ℕ) → Contains (a ∷ rest) a
contains_first a rest = (0, omega arith, refl)

-- the type of what is written, whether rounds follow or not
pub written_type : (rs : List Round) (i made : NodeInfo) → i.dtype ≡ made.dtype → (written_before rs i made).dtype ≡ made.dtype
written_type [] i made e = refl
written_type (r ∷ rs) i made e = e

pub written_bytes : (rs : List Round) (i made : NodeInfo) → chunk_bytes i ≡ chunk_bytes made → chunk_bytes (written_before rs i made) ≡ chunk_bytes made
written_bytes [] i made e = refl
written_bytes (r ∷ rs) i made e = e

pub chain_of : (s : Setting) (x : Reduction) → IsSetting s → IsReduction x → IsChain s x.kind x.axes x.from x.made
chain_of s x k h = record {
  several = k.several;
  few = (let f = k.few in omega arith);
  ranks = h.from.ranks;
  result = h.result;
  types = accumulates_self x.kind x.from.dtype x.made.dtype h.types;
}

pub turn_of : (s : Setting) (x : Reduction) → IsSetting s → IsReduction x → IsTurn s x.axes x.from x.made (first_partial x.made.dtype x.axes x.from) (reduction_rounds x.axes s.split_every x.from)
turn_of s x k h = record {
  stands = first_stands x.made.dtype x.axes x.from h.from.ranks;
  dtype = refl;
  rule = of_reduction x.made.dtype x.axes s.split_every x.from k.several h.from.ranks;
}

fold_holds : (arrays : List ArrayInfo) (s : Setting) (x : Reduction) (rs : List Round) → IsSetting s → IsReduction x → IsTurn s x.axes x.from x.made (first_partial x.made.dtype x.axes x.from) rs
    → HasInfo arrays x.source x.from → HasInfo arrays s.first (written_before rs (first_partial x.made.dtype x.axes x.from) x.made)
    → IsStep arrays s.reserved (x.source ∷ []) s.first s.first
    (fold_head s x (first_partial x.made.dtype x.axes x.from) rs)
fold_holds arrays s x rs k h t i o =
    let partial = first_partial x.made.dtype x.axes x.from in
    let wt = written_type rs partial x.made refl in
    let same = written_bytes rs partial x.made (same_bytes s x.kind x.axes x.from x.made partial (chain_of s x k h) t.stands refl) in
    record {
      writes = refl;
      reads = reads;
      fits = record {
        result = subst (λ (g : RegularGrid). IsSqueezed (partial_grid (chunk_groups x.axes g) g) (grid_at arrays s.first)) (sym i.grid)
            (subst (λ (g : RegularGrid). IsSqueezed (partial_grid (chunk_groups x.axes (grid_of x.from)) (grid_of x.from)) g) (sym o.grid)
            (first_squeezed x.made.dtype x.axes s.split_every x.from x.made rs h.from.ranks h.result t.rule));
        types = subst (λ (d : Dtype). Accumulates x.kind d (type_at arrays s.first)) (sym i.dtype) (subst (λ (d : Dtype). Accumulates x.kind x.from.dtype d) (sym (o.dtype ∙ wt)) h.types);
        enough = subst (λ (g : RegularGrid). HasEnough x.kind (chunk_groups x.axes g) g.shape) (sym i.grid) (enough_same x.kind (has_axis x.axes) x.from.dims x.from.chunk x.from.dims (sym h.from.ranks) h.enough);
      };
      need = rw (room_of arrays x.source x.from i, room_of arrays s.first (written_before rs partial x.made) o, same) (omega arith);
      tasks = chunks_in arrays s.first (written_before rs partial x.made) o;
    }
  where
    reads : All (IsGiven (x.source ∷ []) s.first s.first) (x.source ∷ [])
    reads zero d l = inl (contains_first x.source [])
    reads (suc n) d l = absurd (omega arith)

folded_hold : (arrays : List ArrayInfo) (s : Setting) (x : Reduction) (rs : List Round) → IsSetting s → IsReduction x → IsTurn s x.axes x.from x.made (first_partial x.made.dtype x.axes x.from) rs
    → HasInfo arrays x.source x.from → HaveInfos arrays s.first (all_made (folded s x (first_partial x.made.dtype x.axes x.from) rs))
    → AreSteps arrays s.reserved (x.source ∷ []) s.first s.first (folded s x (first_partial x.made.dtype x.axes x.from) rs)
folded_hold arrays s x [] k h t i o = (fold_holds arrays s x [] k h t i o.0, tt)
folded_hold arrays s x (r ∷ rs) k h t i o = (
  fold_holds arrays s x (r ∷ rs) k h t i o.0,
  merges_hold arrays s x.kind x.axes x.from x.made (x.source ∷ []) s.first s.first (first_partial x.made.dtype x.axes x.from) (r ∷ rs) (chain_of s x k h) (omega arith) t o.0 o.1,
)

pub reduction_holds : (arrays : List ArrayInfo) (s : Setting) (x : Reduction) → IsSetting s → IsReduction x → HasInfo arrays x.source x.from → HaveInfos arrays s.first (all_made (reduction_steps s x))
    → AreSteps arrays s.reserved (x.source ∷ []) s.first s.first (reduction_steps s x)
reduction_holds arrays s x k h i o = folded_hold arrays s x (reduction_rounds x.axes s.split_every x.from) k h (turn_of s x k h) i o

-- ---- the last array

pub merges_last : (arrays : List ArrayInfo) (s : Setting) (kind : FoldKind) (made : NodeInfo) (source : ℕ) (i : NodeInfo) (r : Round) (rs : List Round) → HaveInfos arrays (source + 1) (all_made (merges s kind made source i (r ∷ rs)))
    → HasInfo arrays (last_target (merges s kind made source i (r ∷ rs))) made
merges_last arrays s kind made source i r [] k = k.0
merges_last arrays s kind made source i r (q ∷ rs) k = merges_last arrays s kind made (source + 1) (merged r i) q rs k.1

folded_last : (arrays : List ArrayInfo) (s : Setting) (x : Reduction) (i : NodeInfo) (rs : List Round) → HaveInfos arrays s.first (all_made (folded s x i rs)) → HasInfo arrays (last_target (folded s x i rs)) x.made
folded_last arrays s x i [] k = k.0
folded_last arrays s x i (r ∷ rs) k = merges_last arrays s x.kind x.made s.first i r rs k.1

pub reduction_last : (arrays : List ArrayInfo) (s : Setting) (x : Reduction) → HaveInfos arrays s.first (all_made (reduction_steps s x)) → HasInfo arrays (last_target (reduction_steps s x)) x.made
reduction_last arrays s x k = folded_last arrays s x (first_partial x.made.dtype x.axes x.from) (reduction_rounds x.axes s.split_every x.from) k

pub merges_number : (s : Setting) (kind : FoldKind) (made : NodeInfo) (source : ℕ) (i : NodeInfo) (r : Round) (rs : List Round)
    → last_target (merges s kind made source i (r ∷ rs)) ≡ source + length (all_made (merges s kind made source i (r ∷ rs)))
merges_number s kind made source i r [] = refl
merges_number s kind made source i r (q ∷ rs) = let e = merges_number s kind made (source + 1) (merged r i) q rs in omega (arith, e)

folded_number : (s : Setting) (x : Reduction) (i : NodeInfo) (rs : List Round) → last_target (folded s x i rs) + 1 ≡ s.first + length (all_made (folded s x i rs))
folded_number s x i [] = refl
folded_number s x i (r ∷ rs) = let e = merges_number s x.kind x.made s.first i r rs in omega (arith, e)

pub reduction_number : (s : Setting) (x : Reduction) → last_target (reduction_steps s x) + 1 ≡ s.first + length (all_made (reduction_steps s x))
reduction_number s x = folded_number s x (first_partial x.made.dtype x.axes x.from) (reduction_rounds x.axes s.split_every x.from)
