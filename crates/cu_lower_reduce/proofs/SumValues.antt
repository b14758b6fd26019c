-- The elements of the arrays that the steps of prefix sums make: the sums and what is carried are tiers over the source, and so the scan
-- gives its prefix sums.
use Rattle.std.proofs.Common.{◌≡◌, ℕ, ℤ, ◌+◌, ◌<◌, ◌≤◌, ◌==◌, Bool, true, false, nat_lt, List, [], ◌∷◌, ◌++◌, length, map, get_or, slice_index, Option, None, Some, option_map, refl, ap, sym, ◌∙◌, subst, arith, inl, inr}
use Rattle.std.specs.Int.{div_ceil}
use Rattle.std.proofs.lemmas.Bool.{ltb-false}
use Rattle.std.proofs.lemmas.Bool.Decides.{leb_tells}
use Rattle.std.proofs.lemmas.List.Elements.{All-get_or}
use Rattle.cu_num.specs.Dtype.{IsInteger}
use Rattle.cu_num.specs.declared.types.Dtype.{Dtype}
use Rattle.cu_num.specs.declared.folds.FoldKind.TheVariants.{Sum}
use Rattle.cu_shape.specs.Index.{place_of, index_at, IsInside}
use Rattle.cu_shape.proofs.Axes.{get_or-axis_by_axis}
use Rattle.cu_shape.proofs.Places.{index-place}
use Rattle.cu_shape.proofs.Rounded.{within_counts}
use Rattle.cu_grid.specs.Grid.{RegularGrid}
use Rattle.cu_reduce.specs.Folds.{reduced_to}
use Rattle.cu_reduce.specs.Groups.{groups_of, group_counts, group_indices}
use Rattle.cu_reduce.specs.Prefix.{cumulative, line_through}
use Rattle.cu_reduce.specs.Tiers.{Array, Tier, AreTiers, HasChunkTier, IsOnly, carry_at, scan_at}
use Rattle.cu_op.specs.Elements.{Elements}
use Rattle.cu_op.specs.Partial.{merge_groups, chunk_groups}
use Rattle.cu_op.specs.declared.layout.ArrayInfo.{ArrayInfo}
use Rattle.cu_node.specs.declared.info.NodeInfo.{NodeInfo}
use Rattle.cu_tree.specs.Needs.{fold_need}
use Rattle.cu_tree.specs.Partials.{merged}
use Rattle.cu_tree.specs.Sums.{sums_array, sums_count, cumulative_rounds, sums_from}
use Rattle.cu_tree.specs.declared.round.Round.{Round}
use Rattle.cu_tree.proofs.SumArrays.{count_is}
use Rattle.cu_lower_reduce.specs.Cumulative.{summed_step, regrouped_step, carried_step, scanned_step, sum_merges, sum_carries, first_carry, last_carry, last_scan, summed_steps, cumulative_steps, IsCumulative}
use Rattle.cu_lower_reduce.specs.Partials.{IsSetting}
use Rattle.cu_lower_reduce.specs.Steps.{grid_of, HasInfo, HaveInfos, all_made, SolveSteps, last_made}
use Rattle.cu_lower_reduce.specs.declared.cumulative.Cumulative.{Cumulative}
use Rattle.cu_lower_reduce.specs.declared.step.Setting.{Setting}
use Rattle.cu_lower_reduce.specs.declared.step.Step.{Step}
use Rattle.cu_lower_reduce.proofs.Folds.{contains_first}
use Rattle.cu_lower_reduce.proofs.KindValues.{contains_head, solve_behind, merge_value, fold_value}
use Rattle.cu_lower_reduce.proofs.LastAxis.{axis_alone}
use Rattle.cu_lower_reduce.proofs.Operands.{made_front, solve_front, solve_back}
use Rattle.cu_lower_reduce.proofs.SumTurns.{IsSumTurn, first_turn, next_turn, turn_grid, has_alone, only_axis}
use Rattle.cu_lower_reduce.proofs.Summing.{first_info, last_carried, HaveSums, have_sums, summed_arrays, steps_by}
use Rattle.cu_node.specs.Info.{chunk_bytes}

-- ---- the laws of a scan with what is carried and of one without

abbrev pub CarriedLaw : Type 0
CarriedLaw = (acc : Dtype) (p : ℕ → Bool) (axis g : ℕ) (chunk shape : List ℕ) (f : Array) (t : Tier) (us : List Tier) (idx : List ℕ)
    → IsInteger acc → 0 < g → IsOnly p axis → length chunk ≡ length shape → axis < length shape → 0 < slice_index chunk axis
    → HasChunkTier acc p chunk shape f t → AreTiers acc p axis g t us → IsInside shape idx
    → scan_at acc axis (slice_index chunk axis) f (Some t.carry) idx ≡ cumulative acc (line_through f axis idx) (slice_index idx axis)

abbrev pub SingleLaw : Type 0
SingleLaw = (acc : Dtype) (axis c : ℕ) (shape : List ℕ) (f : Array) (idx : List ℕ) → axis < length shape → slice_index shape axis ≤ c → IsInside shape idx
    → scan_at acc axis c f None idx ≡ cumulative acc (line_through f axis idx) (slice_index idx axis)

-- ---- the tiers

-- array number `source` of sums, and array number `carry` of what comes before each
abbrev tier : Elements → ℕ → NodeInfo → ℕ → Tier
tier at source i carry = record { shape = i.dims; sums = at source; carry = at carry }

abbrev tiers_behind : Elements → ℕ → NodeInfo → List Round → ℕ → List Tier
tiers_behind at source i [] next = []
tiers_behind at source i (r ∷ rs) next = tier at (source + 1) (merged r i) (next + length rs) ∷ tiers_behind at (source + 1) (merged r i) rs next

-- what a merge makes
abbrev regrouped_at : Setting → Cumulative → Elements → ℕ → NodeInfo → List ℕ → Option ℤ
regrouped_at s x at source i q = reduced_to Sum x.made.dtype (map (at source) (group_indices (merge_groups x.axis s.split_every (grid_of i)) i.dims q))

regrouped : (arrays : List ArrayInfo) (at : Elements) (s : Setting) (x : Cumulative) (source : ℕ) (i : NodeInfo) (r : Round) (rs : List Round) → 2 ≤ s.split_every → IsSumTurn s x i (r ∷ rs)
    → HasInfo arrays source i → HasInfo arrays (source + 1) (merged r i) → SolveSteps arrays at (sum_merges s source i (r ∷ rs))
    → (q : List ℕ) → IsInside (merged r i).dims q → at (source + 1) q ≡ regrouped_at s x at source i q
regrouped arrays at s x source i r rs k t h o solve q m =
    let counts : group_counts (merge_groups x.axis s.split_every (grid_of i)) i.dims ≡ (merged r i).dims = ap (λ (g : RegularGrid). g.shape) (turn_grid s x i r rs k t) in
    solve (regrouped_step s source i r) (source + 1) q (contains_head (regrouped_step s source i r) (sum_merges s (source + 1) (merged r i) rs)) (contains_first (source + 1) [])
    ∙ merge_value arrays at Sum r.axis s.split_every source (source + 1) i (merged r i) q h o
    ∙ ap (λ (d : Dtype). reduced_to Sum d (map (at source) (group_indices (merge_groups r.axis s.split_every (grid_of i)) i.dims (index_at (group_counts (merge_groups r.axis s.split_every (grid_of i)) i.dims) (place_of (merged r i).dims q))))) t.dtype
    ∙ ap (λ (a : ℕ). reduced_to Sum x.made.dtype (map (at source) (group_indices (merge_groups a s.split_every (grid_of i)) i.dims (index_at (group_counts (merge_groups a s.split_every (grid_of i)) i.dims) (place_of (merged r i).dims q))))) t.rule.0.axis
    ∙ ap (λ (cs : List ℕ). regrouped_at s x at source i (index_at cs (place_of (merged r i).dims q))) counts
    ∙ ap (regrouped_at s x at source i) (index-place (merged r i).dims q m)

-- what a carry makes
carried_value : (arrays : List ArrayInfo) (at : Elements) (s : Setting) (x : Cumulative) (source : ℕ) (i : NodeInfo) (above : Option ℕ) (out : ℕ) → HasInfo arrays out i → i.dtype ≡ x.made.dtype
    → SolveSteps arrays at (carried_step s x.axis source i above out ∷ []) → (idx : List ℕ) → at out idx ≡ carry_at x.made.dtype x.axis s.split_every (at source) (option_map at above) idx
carried_value arrays at s x source i above out o t solve idx =
    solve (carried_step s x.axis source i above out) out idx (contains_head (carried_step s x.axis source i above out) []) (contains_first out [])
    ∙ ap (λ (d : Dtype). carry_at d x.axis s.split_every (at source) (option_map at above) idx) (o.dtype ∙ t)

are_tiers : (arrays : List ArrayInfo) (at : Elements) (s : Setting) (x : Cumulative) (source : ℕ) (i : NodeInfo) (rs : List Round) (next n : ℕ) → n ≡ next + length rs → IsSetting s → IsSumTurn s x i rs
    → HaveInfos arrays source (sums_from i rs) → HaveInfos arrays next (all_made (sum_carries s x.axis source i rs next)) → SolveSteps arrays at (sum_merges s source i rs) → SolveSteps arrays at (sum_carries s x.axis source i rs next)
    → AreTiers x.made.dtype (λ d. d == x.axis) x.axis s.split_every (tier at source i n) (tiers_behind at source i rs next)
are_tiers arrays at s x source i [] next n e k t f o sums carries =
    let z : n ≡ next = omega (arith, e) in
    (t.rule, λ idx b. ap (λ (a : ℕ). at a idx) z ∙ carried_value arrays at s x source i None next o.0 t.dtype carries idx)
are_tiers arrays at s x source i (r ∷ rs) next n e k t f o sums carries =
    let z : n ≡ next + length rs + 1 = omega (arith, e) in
    let own = carried_step s x.axis source i (Some (next + length rs)) (next + length rs + 1) in
    let u = next_turn s x i r rs k.several t in
    let last = last_carried arrays s x.axis source i (r ∷ rs) next o in
    let front = made_front arrays next (sum_carries s x.axis (source + 1) (merged r i) rs next) (carried_step s x.axis source i (Some (next + length rs)) (next + length rs + 1) ∷ []) o in (
      sym (ap (λ (g : RegularGrid). g.shape) (turn_grid s x i r rs k.several t)),
      regrouped arrays at s x source i r rs k.several t f.0 (first_info arrays (source + 1) (merged r i) rs f.1) sums,
      λ idx b. ap (λ (a : ℕ). at a idx) z
          ∙ carried_value arrays at s x source i (Some (next + length rs)) (next + length rs + 1) (subst (λ (a : ℕ). HasInfo arrays a i) (omega arith) last) t.dtype
          (solve_back arrays at (sum_carries s x.axis (source + 1) (merged r i) rs next) (carried_step s x.axis source i (Some (next + length rs)) (next + length rs + 1) ∷ []) carries) idx,
      are_tiers arrays at s x (source + 1) (merged r i) rs next (next + length rs) refl k u f.1 front (solve_behind arrays at (regrouped_step s source i r) (sum_merges s (source + 1) (merged r i) rs) sums)
          (solve_front arrays at (sum_carries s x.axis (source + 1) (merged r i) rs next) (carried_step s x.axis source i (Some (next + length rs)) (next + length rs + 1) ∷ []) carries),
    )

-- the first has the sums of the chunks of the source
chunk_tier : (arrays : List ArrayInfo) (at : Elements) (s : Setting) (x : Cumulative) (steps : List Step) (carry : ℕ) → HasInfo arrays x.source x.from → HasInfo arrays s.first (sums_array x.made x.from x.axis)
    → SolveSteps arrays at (summed_step s x (sums_array x.made x.from x.axis) ∷ steps)
    → HasChunkTier x.made.dtype (λ d. d == x.axis) x.from.chunk x.from.dims (at x.source) (tier at s.first (sums_array x.made x.from x.axis) carry)
chunk_tier arrays at s x steps carry f o solve = (
  ap (λ (p : ℕ → Bool). group_counts (groups_of p x.from.chunk) x.from.dims) (has_alone x.axis),
  λ q m. solve (summed_step s x (sums_array x.made x.from x.axis)) s.first q (contains_head (summed_step s x (sums_array x.made x.from x.axis)) steps) (contains_first s.first [])
      ∙ fold_value arrays at Sum (axis_alone x.axis) x.source s.first x.from (sums_array x.made x.from x.axis) q f o
      ∙ ap (λ (idx : List ℕ). reduced_to Sum x.made.dtype (map (at x.source) (group_indices (chunk_groups (axis_alone x.axis) (grid_of x.from)) x.from.dims idx))) (index-place (sums_array x.made x.from x.axis).dims q m)
      ∙ ap (λ (p : ℕ → Bool). reduced_to Sum x.made.dtype (map (at x.source) (group_indices (groups_of p x.from.chunk) x.from.dims q))) (has_alone x.axis),
)

-- ---- the prefix sums

-- what a scan makes
scanned_value : (arrays : List ArrayInfo) (at : Elements) (x : Cumulative) (carry : Option ℕ) (out need : ℕ) → HasInfo arrays x.source x.from → HasInfo arrays out x.made
    → SolveSteps arrays at (scanned_step x carry out need ∷ []) → (idx : List ℕ) → at out idx ≡ scan_at x.made.dtype x.axis (slice_index x.from.chunk x.axis) (at x.source) (option_map at carry) idx
scanned_value arrays at x carry out need f o solve idx =
    solve (scanned_step x carry out need) out idx (contains_head (scanned_step x carry out need) []) (contains_first out [])
    ∙ (λ j. scan_at (o.dtype j) x.axis (slice_index (f.grid j).chunk x.axis) (at x.source) (option_map at carry) idx)

chunk_some : (x : Cumulative) → IsCumulative x → 0 < slice_index x.from.chunk x.axis
chunk_some x h =
    let i = h.summed.source_info in
    let r = i.ranks in
    let a = h.summed.along in
    All-get_or (λ (c : ℕ). 0 < c) x.from.chunk x.axis 0 (omega arith) i.positive

-- one chunk on the axis has all its elements
one_chunk : (x : Cumulative) → IsCumulative x → sums_count x.made x.from x.axis ≤ 1 → slice_index x.from.dims x.axis ≤ slice_index x.from.chunk x.axis
one_chunk x h few =
    let n = get_or x.from.dims x.axis 0 in
    let c = get_or x.from.chunk x.axis 0 in
    let e = count_is x.made x.from x.axis h.summed in
    let r = h.summed.source_info.ranks in
    let a = h.summed.along in
    let g = get_or-axis_by_axis div_ceil x.from.dims x.from.chunk x.axis h.summed.along (omega arith) in
    let some = chunk_some x h in
    elim (leb_tells (get_or x.from.dims x.axis 0) (get_or x.from.chunk x.axis 0)) [
      | inl p ↦ p.1
      | inr p ↦ let q = p.1 in let w = within_counts (get_or x.from.dims x.axis 0) (get_or x.from.chunk x.axis 0) 1 some (omega arith) in absurd (omega (arith, e, g, w, few))
    ]

summed_value : (arrays : List ArrayInfo) (at : Elements) (s : Setting) (x : Cumulative) (rs : List Round) → CarriedLaw → IsSetting s → IsCumulative x → IsSumTurn s x (sums_array x.made x.from x.axis) rs
    → HasInfo arrays x.source x.from → HaveSums arrays s x (sums_array x.made x.from x.axis) rs → SolveSteps arrays at (summed_steps s x (sums_array x.made x.from x.axis) rs)
    → (idx : List ℕ) → IsInside x.from.dims idx → at (last_carry s rs + 1) idx ≡ cumulative x.made.dtype (line_through (at x.source) x.axis idx) (slice_index idx x.axis)
summed_value arrays at s x rs law k h t f o solve idx b =
    let g = k.several in
    let behind = solve_behind arrays at (summed_step s x (sums_array x.made x.from x.axis)) (sum_merges s s.first (sums_array x.made x.from x.axis) rs ++ (sum_carries s x.axis s.first (sums_array x.made x.from x.axis) rs (first_carry s rs) ++ last_scan s x (sums_array x.made x.from x.axis) rs ∷ [])) solve in
    let rest = solve_back arrays at (sum_merges s s.first (sums_array x.made x.from x.axis) rs) (sum_carries s x.axis s.first (sums_array x.made x.from x.axis) rs (first_carry s rs) ++ last_scan s x (sums_array x.made x.from x.axis) rs ∷ []) behind in
    scanned_value arrays at x (Some (last_carry s rs)) (last_carry s rs + 1) _ f o.made
    (solve_back arrays at (sum_carries s x.axis s.first (sums_array x.made x.from x.axis) rs (first_carry s rs)) (last_scan s x (sums_array x.made x.from x.axis) rs ∷ []) rest) idx
    ∙ law x.made.dtype (λ d. d == x.axis) x.axis s.split_every x.from.chunk x.from.dims (at x.source) (tier at s.first (sums_array x.made x.from x.axis) (last_carry s rs)) (tiers_behind at s.first (sums_array x.made x.from x.axis) rs (first_carry s rs)) idx
    h.integer (omega arith) (only_axis x.axis) h.summed.source_info.ranks h.summed.along (chunk_some x h)
    (chunk_tier arrays at s x (sum_merges s s.first (sums_array x.made x.from x.axis) rs ++ (sum_carries s x.axis s.first (sums_array x.made x.from x.axis) rs (first_carry s rs) ++ last_scan s x (sums_array x.made x.from x.axis) rs ∷ [])) (last_carry s rs) f (first_info arrays s.first (sums_array x.made x.from x.axis) rs o.sums) solve)
    (are_tiers arrays at s x s.first (sums_array x.made x.from x.axis) rs (first_carry s rs) (last_carry s rs) refl k t o.sums o.carries
    (solve_front arrays at (sum_merges s s.first (sums_array x.made x.from x.axis) rs) (sum_carries s x.axis s.first (sums_array x.made x.from x.axis) rs (first_carry s rs) ++ last_scan s x (sums_array x.made x.from x.axis) rs ∷ []) behind)
    (solve_front arrays at (sum_carries s x.axis s.first (sums_array x.made x.from x.axis) rs (first_carry s rs)) (last_scan s x (sums_array x.made x.from x.axis) rs ∷ []) rest))
    b

value_by : (several : Bool) (arrays : List ArrayInfo) (at : Elements) (s : Setting) (x : Cumulative) → nat_lt 1 (sums_count x.made x.from x.axis) ≡ several → CarriedLaw → SingleLaw → IsSetting s → IsCumulative x
    → HasInfo arrays x.source x.from → HaveInfos arrays s.first (all_made (steps_by s x several)) → SolveSteps arrays at (steps_by s x several) → (idx : List ℕ) → IsInside x.from.dims idx
    → at (last_made s.first (steps_by s x several)) idx ≡ cumulative x.made.dtype (line_through (at x.source) x.axis idx) (slice_index idx x.axis)
value_by true arrays at s x e law lone k h f o solve idx b =
    let n = summed_arrays s x (sums_array x.made x.from x.axis) (cumulative_rounds s.split_every x.made x.from x.axis) in
    let z : last_made s.first (summed_steps s x (sums_array x.made x.from x.axis) (cumulative_rounds s.split_every x.made x.from x.axis)) ≡ last_carry s (cumulative_rounds s.split_every x.made x.from x.axis) + 1 = omega (arith, n) in
    ap (λ (a : ℕ). at a idx) z
    ∙ summed_value arrays at s x (cumulative_rounds s.split_every x.made x.from x.axis) law k h (first_turn s x k h) f (have_sums arrays s x (sums_array x.made x.from x.axis) (cumulative_rounds s.split_every x.made x.from x.axis) o) solve idx b
value_by false arrays at s x e law lone k h f o solve idx b =
    let z : last_made s.first (steps_by s x false) ≡ s.first = omega arith in
    ap (λ (a : ℕ). at a idx) z
    ∙ scanned_value arrays at x None s.first (fold_need s.reserved (chunk_bytes x.from) (chunk_bytes x.made)) f o.0 solve idx
    ∙ lone x.made.dtype x.axis (slice_index x.from.chunk x.axis) x.from.dims (at x.source) idx h.summed.along (one_chunk x h (ltb-false 1 (sums_count x.made x.from x.axis) e)) b

pub cumulative_value : CarriedLaw → SingleLaw → (arrays : List ArrayInfo) (at : Elements) (s : Setting) (x : Cumulative) → IsSetting s → IsCumulative x → HasInfo arrays x.source x.from
    → HaveInfos arrays s.first (all_made (cumulative_steps s x)) → SolveSteps arrays at (cumulative_steps s x) → (idx : List ℕ) → IsInside x.made.dims idx
    → at (last_made s.first (cumulative_steps s x)) idx ≡ cumulative x.made.dtype (line_through (at x.source) x.axis idx) (slice_index idx x.axis)
cumulative_value law lone arrays at s x k h f o solve idx b =
    value_by (nat_lt 1 (sums_count x.made x.from x.axis)) arrays at s x refl law lone k h f o solve idx (subst (λ (ns : List ℕ). IsInside ns idx) h.summed.dims b)
