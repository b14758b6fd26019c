-- The elements of the arrays that a fold and merges make.
use Rattle.std.proofs.lemmas.List.{length-map}
use Rattle.std.proofs.Common.{◌==◌, ◌≡◌, ℕ, ℤ, suc, ◌+◌, ◌<◌, ◌≤◌, List, [], ◌∷◌, Contains, map, Option, Some, refl, ap, sym, ◌∙◌, subst, arith}
use Rattle.cu_num.specs.Dtype.{InRange}
use Rattle.cu_num.specs.declared.types.Dtype.{Dtype}
use Rattle.cu_num.specs.declared.folds.FoldKind.{FoldKind}
use Rattle.cu_num.specs.declared.folds.FoldKind.TheVariants.{Sum, Prod, Min, Max, Any, All as Every}
use Rattle.cu_shape.specs.Index.{place_of, index_at, IsInside}
use Rattle.cu_shape.proofs.Places.{place-below, index-inside, index-place}
use Rattle.cu_grid.specs.Grid.{RegularGrid}
use Rattle.cu_reduce.specs.Folds.{reduced_to}
use Rattle.cu_reduce.specs.Groups.{group_counts, group_indices}
use Rattle.cu_reduce.specs.Kinds.{Accumulates}
use Rattle.cu_reduce.proofs.Grouped.{length-groups_from}
use Rattle.cu_origin.specs.Pull.{has_axis}
use Rattle.cu_origin.specs.declared.axes.Axes.{Axes}
use Rattle.cu_op.specs.Partial.{partial_grid, chunk_groups, merge_groups, IsSqueezed}
use Rattle.cu_op.specs.Elements.{Elements}
use Rattle.cu_op.specs.Value.{rule}
use Rattle.cu_op.specs.declared.layout.ArrayInfo.{ArrayInfo}
use Rattle.cu_op.specs.declared.operation.Op.TheVariants.{Fold, Merge}
use Rattle.cu_node.specs.declared.info.NodeInfo.{NodeInfo}
use Rattle.cu_tree.specs.Partials.{first_partial, reduction_rounds, merged, written_before}
use Rattle.cu_tree.specs.declared.round.Round.{Round}
use Rattle.cu_lower_reduce.specs.Partials.{IsSetting}
use Rattle.cu_lower_reduce.specs.Reductions.{fold_head, merge_head, merges, folded, reduction_steps, whole_groups, reduced_indices, IsReduction}
use Rattle.cu_lower_reduce.specs.Steps.{grid_of, HasInfo, HaveInfos, all_made, SolveSteps}
use Rattle.cu_lower_reduce.specs.declared.reduction.Reduction.{Reduction}
use Rattle.cu_lower_reduce.specs.declared.step.Setting.{Setting}
use Rattle.cu_lower_reduce.specs.declared.step.Step.{Step}
use Rattle.cu_lower_reduce.proofs.Along.{along_keeps, members_along}
use Rattle.cu_lower_reduce.proofs.Carrying.{IsCarried, AreTaken, first_carried, round_carried, end_carried}
use Rattle.cu_lower_reduce.proofs.Folds.{enough_same, contains_first, chain_of, turn_of}
use Rattle.cu_lower_reduce.proofs.Lasts.{last_target}
use Rattle.cu_lower_reduce.proofs.Squeezed.{same_elements}
use Rattle.cu_lower_reduce.proofs.Standing.{merged_grid, end_grid}
use Rattle.cu_lower_reduce.proofs.Stepping.{IsChain, IsTurn, next_turn, enough_along}

-- ---- steps one after another

pub contains_behind : (y : Step) (ys : List Step) (x : Step) → Contains ys x → Contains (y ∷ ys) x
contains_behind y ys x c = (suc c.0, let l = c.1 in omega arith, c.2)

pub contains_head : (y : Step) (ys : List Step) → Contains (y ∷ ys) y
contains_head y ys = (0, omega arith, refl)

pub solve_behind : (arrays : List ArrayInfo) (at : Elements) (y : Step) (ys : List Step) → SolveSteps arrays at (y ∷ ys) → SolveSteps arrays at ys
solve_behind arrays at y ys h x a idx c w = h x a idx (contains_behind y ys x c) w

-- ---- the rules, where the infos are known

pub merge_value : (arrays : List ArrayInfo) (at : Elements) (kind : FoldKind) (axis g source out : ℕ) (i o : NodeInfo) (idx : List ℕ) → HasInfo arrays source i → HasInfo arrays out o
    → rule (Merge kind axis g source out) arrays at out idx
    ≡ reduced_to kind o.dtype (map (at source) (group_indices (merge_groups axis g (grid_of i)) i.dims (index_at (group_counts (merge_groups axis g (grid_of i)) i.dims) (place_of o.dims idx))))
merge_value arrays at kind axis g source out i o idx h k j =
    reduced_to kind (k.dtype j) (map (at source) (group_indices (merge_groups axis g (h.grid j)) (h.grid j).shape (index_at (group_counts (merge_groups axis g (h.grid j)) (h.grid j).shape) (place_of (k.grid j).shape idx))))

pub fold_value : (arrays : List ArrayInfo) (at : Elements) (kind : FoldKind) (axes : Axes) (source out : ℕ) (i o : NodeInfo) (idx : List ℕ) → HasInfo arrays source i → HasInfo arrays out o
    → rule (Fold kind axes source out) arrays at out idx
    ≡ reduced_to kind o.dtype (map (at source) (group_indices (chunk_groups axes (grid_of i)) i.dims (index_at (group_counts (chunk_groups axes (grid_of i)) i.dims) (place_of o.dims idx))))
fold_value arrays at kind axes source out i o idx h k j =
    reduced_to kind (k.dtype j) (map (at source) (group_indices (chunk_groups axes (h.grid j)) (h.grid j).shape (index_at (group_counts (chunk_groups axes (h.grid j)) (h.grid j).shape) (place_of (k.grid j).shape idx))))

-- an index of the node's array names one of the whole
pub squeezed_inside : (axes : Axes) (base made : NodeInfo) (idx : List ℕ) → IsSqueezed (partial_grid (whole_groups axes base.dims) (grid_of base)) (grid_of made) → IsInside made.dims idx
    → IsInside (group_counts (whole_groups axes base.dims) base.dims) (index_at (group_counts (whole_groups axes base.dims) base.dims) (place_of made.dims idx))
squeezed_inside axes base made idx h b =
    index-inside (group_counts (whole_groups axes base.dims) base.dims) (place_of made.dims idx)
    (subst (λ (n : ℕ). place_of made.dims idx < n) (sym (same_elements _ _ made.dims made.chunk h)) (place-below made.dims idx b))

-- ---- a round of merges

pub record Work (kind : FoldKind) (t acc : Dtype) (axes : Axes) (shape : List ℕ) (f : List ℕ → Option ℤ) : Type 0 where
  pub types : Accumulates kind t acc
  pub taken : AreTaken kind acc shape f

-- what a merge makes of what is carried, at each index of the whole grid of its results
after_round : (kind : FoldKind) (t acc : Dtype) (s : Setting) (axes : Axes) (base made i : NodeInfo) (f e : List ℕ → Option ℤ) (r : Round) (rs : List Round) → Work kind t acc axes base.dims f
    → 2 ≤ s.split_every → IsTurn s axes base made i (r ∷ rs) → IsCarried kind acc axes base.dims i.dims f e
    → IsCarried kind acc axes base.dims (merged r i).dims f (λ q. reduced_to kind acc (map e (group_indices (merge_groups r.axis s.split_every (grid_of i)) i.dims q)))
after_round kind t acc s axes base made i f e r rs w h turn c =
    subst (λ (counts : List ℕ). IsCarried kind acc axes base.dims counts f (λ q. reduced_to kind acc (map e (group_indices (merge_groups r.axis s.split_every (grid_of i)) i.dims q))))
    (ap (λ (x : RegularGrid). x.shape) (merged_grid axes s.split_every base i r h turn.stands turn.rule.0))
    (round_carried kind t acc axes base.dims i.dims (merge_groups r.axis s.split_every (grid_of i)) f e _ w.types w.taken
    (length-groups_from (λ d. d == r.axis) 0 (map (λ n. s.split_every) i.dims) ∙ length-map i.dims (λ n. s.split_every))
    (along_keeps (has_axis axes) r.axis s.split_every 0 i.dims turn.rule.0.reduced)
    (members_along r.axis s.split_every 0 i.dims (omega arith))
    (enough_along kind s axes base made i r rs turn) c (λ q b. refl))

pub same_value : (kind : FoldKind) (acc : Dtype) (axes : Axes) (shape counts : List ℕ) (f e u : List ℕ → Option ℤ) → ((q : List ℕ) → IsInside counts q → u q ≡ e q)
    → IsCarried kind acc axes shape counts f e → IsCarried kind acc axes shape counts f u
same_value kind acc axes shape counts f e u h c = record { cuts = c.cuts; rises = c.rises; covers = c.covers; enough = c.enough; value = λ q b. h q b ∙ c.value q b }

-- ---- the merges of a node

pub merges_value : (arrays : List ArrayInfo) (at : Elements) (s : Setting) (kind : FoldKind) (t : Dtype) (axes : Axes) (base made : NodeInfo) (f : List ℕ → Option ℤ) (source : ℕ) (i : NodeInfo) (r : Round) (rs : List Round)
    → IsChain s kind axes base made → Work kind t made.dtype axes base.dims f → IsTurn s axes base made i (r ∷ rs) → HasInfo arrays source i
    → HaveInfos arrays (source + 1) (all_made (merges s kind made source i (r ∷ rs))) → SolveSteps arrays at (merges s kind made source i (r ∷ rs))
    → IsCarried kind made.dtype axes base.dims i.dims f (at source) → (idx : List ℕ) → IsInside made.dims idx
    → at (last_target (merges s kind made source i (r ∷ rs))) idx ≡ reduced_to kind made.dtype (map f (reduced_indices axes base.dims made.dims idx))
merges_value arrays at s kind t axes base made f source i r [] c w turn h k solve v idx b =
    let counts = merged_grid axes s.split_every base i r c.several turn.stands turn.rule.0 in
    let n = next_turn s axes base made i r [] c.several turn in
    let whole : (merged r i).dims ≡ group_counts (whole_groups axes base.dims) base.dims = ap (λ (x : RegularGrid). x.shape) (end_grid axes base (merged r i) n.stands n.rule) in
    let all : group_counts (merge_groups r.axis s.split_every (grid_of i)) i.dims ≡ group_counts (whole_groups axes base.dims) base.dims = ap (λ (x : RegularGrid). x.shape) counts ∙ whole in
    let q = index_at (group_counts (whole_groups axes base.dims) base.dims) (place_of made.dims idx) in
    let inside = squeezed_inside axes base made idx c.result b in
    solve (merge_head s kind made source r (written_before [] (merged r i) made)) (source + 1) idx (contains_head (merge_head s kind made source r (written_before [] (merged r i) made)) []) (contains_first (source + 1) [])
    ∙ merge_value arrays at kind r.axis s.split_every source (source + 1) i made idx h k.0
    ∙ ap (λ (cs : List ℕ). reduced_to kind made.dtype (map (at source) (group_indices (merge_groups r.axis s.split_every (grid_of i)) i.dims (index_at cs (place_of made.dims idx))))) all
    ∙ end_carried kind made.dtype axes base.dims (merged r i).dims f _ whole (after_round kind t made.dtype s axes base made i f (at source) r [] w c.several turn v)
    (index_at (group_counts (whole_groups axes base.dims) base.dims) (place_of made.dims idx)) (subst (λ (cs : List ℕ). IsInside cs (index_at (group_counts (whole_groups axes base.dims) base.dims) (place_of made.dims idx))) (sym whole) inside)
merges_value arrays at s kind t axes base made f source i r (p ∷ rs) c w turn h k solve v idx b =
    merges_value arrays at s kind t axes base made f (source + 1) (merged r i) p rs c w (next_turn s axes base made i r (p ∷ rs) c.several turn) k.0 k.1
    (solve_behind arrays at (merge_head s kind made source r (written_before (p ∷ rs) (merged r i) made)) (merges s kind made (source + 1) (merged r i) (p ∷ rs)) solve)
    (same_value kind made.dtype axes base.dims (merged r i).dims f _ (at (source + 1)) here (after_round kind t made.dtype s axes base made i f (at source) r (p ∷ rs) w c.several turn v))
    idx b
  where
    here : (q : List ℕ) → IsInside (merged r i).dims q → at (source + 1) q ≡ reduced_to kind made.dtype (map (at source) (group_indices (merge_groups r.axis s.split_every (grid_of i)) i.dims q))
    here q m =
        let counts : group_counts (merge_groups r.axis s.split_every (grid_of i)) i.dims ≡ (merged r i).dims = ap (λ (x : RegularGrid). x.shape) (merged_grid axes s.split_every base i r c.several turn.stands turn.rule.0) in
        solve (merge_head s kind made source r (written_before (p ∷ rs) (merged r i) made)) (source + 1) q (contains_head (merge_head s kind made source r (written_before (p ∷ rs) (merged r i) made)) (merges s kind made (source + 1) (merged r i) (p ∷ rs))) (contains_first (source + 1) [])
        ∙ merge_value arrays at kind r.axis s.split_every source (source + 1) i (merged r i) q h k.0
        ∙ ap (λ (d : Dtype). reduced_to kind d (map (at source) (group_indices (merge_groups r.axis s.split_every (grid_of i)) i.dims (index_at (group_counts (merge_groups r.axis s.split_every (grid_of i)) i.dims) (place_of (merged r i).dims q))))) turn.dtype
        ∙ ap (λ (cs : List ℕ). reduced_to kind made.dtype (map (at source) (group_indices (merge_groups r.axis s.split_every (grid_of i)) i.dims (index_at cs (place_of (merged r i).dims q))))) counts
        ∙ ap (λ (x : List ℕ). reduced_to kind made.dtype (map (at source) (group_indices (merge_groups r.axis s.split_every (grid_of i)) i.dims x))) (index-place (merged r i).dims q m)

-- ---- a reduction

-- elements in the range of their type are taken
pub all_taken : (kind : FoldKind) (t acc : Dtype) (shape : List ℕ) (f : List ℕ → Option ℤ) → Accumulates kind t acc → ((i : List ℕ) (x : ℤ) → IsInside shape i → f i ≡ Some x → InRange t x) → AreTaken kind acc shape f
all_taken Sum t acc shape f a h i x b e = tt
all_taken Prod t acc shape f a h i x b e = tt
all_taken Min t acc shape f a h i x b e = subst (λ (d : Dtype). InRange d x) (sym a) (h i x b e)
all_taken Max t acc shape f a h i x b e = subst (λ (d : Dtype). InRange d x) (sym a) (h i x b e)
all_taken Any t acc shape f a h i x b e = tt
all_taken Every t acc shape f a h i x b e = tt

folded_carried : (s : Setting) (x : Reduction) (f : List ℕ → Option ℤ) → IsReduction x
    → IsCarried x.kind x.made.dtype x.axes x.from.dims (first_partial x.made.dtype x.axes x.from).dims f (λ q. reduced_to x.kind x.made.dtype (map f (group_indices (chunk_groups x.axes (grid_of x.from)) x.from.dims q)))
folded_carried s x f h =
    first_carried x.kind x.made.dtype x.axes x.from.dims x.from.chunk f _ h.from.ranks h.from.positive
    (enough_same x.kind (has_axis x.axes) x.from.dims x.from.chunk x.from.dims (sym h.from.ranks) h.enough) (λ q b. refl)

folded_value : (arrays : List ArrayInfo) (at : Elements) (s : Setting) (x : Reduction) (rs : List Round) → IsSetting s → IsReduction x → IsTurn s x.axes x.from x.made (first_partial x.made.dtype x.axes x.from) rs
    → Work x.kind x.from.dtype x.made.dtype x.axes x.from.dims (at x.source)
    → HasInfo arrays x.source x.from → HaveInfos arrays s.first (all_made (folded s x (first_partial x.made.dtype x.axes x.from) rs)) → SolveSteps arrays at (folded s x (first_partial x.made.dtype x.axes x.from) rs)
    → (idx : List ℕ) → IsInside x.made.dims idx
    → at (last_target (folded s x (first_partial x.made.dtype x.axes x.from) rs)) idx ≡ reduced_to x.kind x.made.dtype (map (at x.source) (reduced_indices x.axes x.from.dims x.made.dims idx))
folded_value arrays at s x [] k h turn w i o solve idx b =
    let partial = first_partial x.made.dtype x.axes x.from in
    let whole : (first_partial x.made.dtype x.axes x.from).dims ≡ group_counts (whole_groups x.axes x.from.dims) x.from.dims = ap (λ (g : RegularGrid). g.shape) (end_grid x.axes x.from (first_partial x.made.dtype x.axes x.from) turn.stands turn.rule) in
    let inside = squeezed_inside x.axes x.from x.made idx h.result b in
    solve (fold_head s x (first_partial x.made.dtype x.axes x.from) []) s.first idx (contains_head (fold_head s x (first_partial x.made.dtype x.axes x.from) []) []) (contains_first s.first [])
    ∙ fold_value arrays at x.kind x.axes x.source s.first x.from x.made idx i o.0
    ∙ ap (λ (cs : List ℕ). reduced_to x.kind x.made.dtype (map (at x.source) (group_indices (chunk_groups x.axes (grid_of x.from)) x.from.dims (index_at cs (place_of x.made.dims idx))))) whole
    ∙ end_carried x.kind x.made.dtype x.axes x.from.dims (first_partial x.made.dtype x.axes x.from).dims (at x.source) _ whole (folded_carried s x (at x.source) h)
    (index_at (group_counts (whole_groups x.axes x.from.dims) x.from.dims) (place_of x.made.dims idx))
    (subst (λ (cs : List ℕ). IsInside cs (index_at (group_counts (whole_groups x.axes x.from.dims) x.from.dims) (place_of x.made.dims idx))) (sym whole) inside)
folded_value arrays at s x (r ∷ rs) k h turn w i o solve idx b =
    merges_value arrays at s x.kind x.from.dtype x.axes x.from x.made (at x.source) s.first (first_partial x.made.dtype x.axes x.from) r rs (chain_of s x k h) w turn o.0 o.1
    (solve_behind arrays at (fold_head s x (first_partial x.made.dtype x.axes x.from) (r ∷ rs)) (merges s x.kind x.made s.first (first_partial x.made.dtype x.axes x.from) (r ∷ rs)) solve)
    (same_value x.kind x.made.dtype x.axes x.from.dims (first_partial x.made.dtype x.axes x.from).dims (at x.source) _ (at s.first) here (folded_carried s x (at x.source) h))
    idx b
  where
    here : (q : List ℕ) → IsInside (first_partial x.made.dtype x.axes x.from).dims q → at s.first q ≡ reduced_to x.kind x.made.dtype (map (at x.source) (group_indices (chunk_groups x.axes (grid_of x.from)) x.from.dims q))
    here q m =
        solve (fold_head s x (first_partial x.made.dtype x.axes x.from) (r ∷ rs)) s.first q (contains_head (fold_head s x (first_partial x.made.dtype x.axes x.from) (r ∷ rs)) (merges s x.kind x.made s.first (first_partial x.made.dtype x.axes x.from) (r ∷ rs))) (contains_first s.first [])
        ∙ fold_value arrays at x.kind x.axes x.source s.first x.from (first_partial x.made.dtype x.axes x.from) q i o.0
        ∙ ap (λ (p : List ℕ). reduced_to x.kind x.made.dtype (map (at x.source) (group_indices (chunk_groups x.axes (grid_of x.from)) x.from.dims p))) (index-place (first_partial x.made.dtype x.axes x.from).dims q m)

pub reduction_value : (arrays : List ArrayInfo) (at : Elements) (s : Setting) (x : Reduction) → IsSetting s → IsReduction x → HasInfo arrays x.source x.from → HaveInfos arrays s.first (all_made (reduction_steps s x))
    → SolveSteps arrays at (reduction_steps s x) → ((i : List ℕ) (y : ℤ) → IsInside x.from.dims i → at x.source i ≡ Some y → InRange x.from.dtype y) → (idx : List ℕ) → IsInside x.made.dims idx
    → at (last_target (reduction_steps s x)) idx ≡ reduced_to x.kind x.made.dtype (map (at x.source) (reduced_indices x.axes x.from.dims x.made.dims idx))
reduction_value arrays at s x k h i o solve ranges idx b =
    folded_value arrays at s x (reduction_rounds x.axes s.split_every x.from) k h (turn_of s x k h)
    (record { types = h.types; taken = all_taken x.kind x.from.dtype x.made.dtype x.from.dims (at x.source) h.types ranges }) i o solve idx b
