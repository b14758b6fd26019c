-- The steps of prefix sums keep what steps keep.
use Rattle.std.proofs.Common.{◌≡◌, ◌≢◌, ℕ, zero, suc, ◌+◌, ◌-◌, ◌*◌, ◌<◌, ◌≤◌, Bool, true, false, if◌then◌else◌, nat_lt, IfSome, slice_index, List, [], ◌∷◌, ◌++◌, All, length, Option, None, Some, refl, ap, sym, ◌∙◌, subst, arith, inl, inr}
use Rattle.cu_num.specs.Dtype.{IsInteger}
use Rattle.cu_num.specs.declared.folds.FoldKind.TheVariants.{Sum}
use Rattle.cu_grid.specs.Grid.{RegularGrid}
use Rattle.cu_op.specs.Along.{CarriesFor, carried_reads}
use Rattle.cu_op.specs.Arrays.{grid_at}
use Rattle.cu_op.specs.Operation.{Fits}
use Rattle.cu_op.specs.Projection.{own_projection}
use Rattle.cu_op.specs.Partial.{partial_grid, merge_groups, place_groups, chunk_groups, IsSqueezed}
use Rattle.cu_op.specs.declared.layout.ArrayInfo.{ArrayInfo}
use Rattle.cu_op.specs.declared.operation.Op.TheVariants.{Carry}
use Rattle.cu_node.specs.declared.info.NodeInfo.{NodeInfo}
use Rattle.cu_tree.specs.Needs.{fold_need, product_need}
use Rattle.cu_tree.specs.Partials.{merged}
use Rattle.cu_tree.specs.Sums.{sums_array, sums_count, cumulative_rounds, sums_from}
use Rattle.cu_tree.specs.declared.round.Round.{Round}
use Rattle.cu_lower_reduce.specs.Cumulative.{summed_step, carried_step, scanned_step, sum_merges, sum_carries, first_carry, last_carry, last_scan, summed_steps, cumulative_steps, IsCumulative, scan_of}
use Rattle.cu_lower_reduce.specs.Partials.{IsSetting}
use Rattle.cu_lower_reduce.specs.Steps.{grid_of, HasInfo, HaveInfos, all_made, last_made, IsGiven, IsStep, AreSteps}
use Rattle.cu_lower_reduce.specs.declared.cumulative.Cumulative.{Cumulative}
use Rattle.cu_lower_reduce.specs.declared.step.Setting.{Setting}
use Rattle.cu_lower_reduce.specs.declared.step.Step.{Step}
use Rattle.cu_lower_reduce.proofs.Folds.{first_grid, contains_first}
use Rattle.cu_lower_reduce.proofs.LastAxis.{axis_alone}
use Rattle.cu_lower_reduce.proofs.Operands.{length-made, made_front, made_back, steps_join}
use Rattle.cu_lower_reduce.proofs.Squeezed.{same_grid}
use Rattle.cu_lower_reduce.proofs.Stepping.{room_of, chunks_in, merge_fits, merge_steps}
use Rattle.cu_lower_reduce.proofs.SumTurns.{IsSumTurn, first_turn, next_turn, turn_below, turn_ranks, turn_single, turn_grid, sums_grid}
use Rattle.cu_node.specs.Info.{chunk_bytes}

-- ---- arrays by their numbers

pub info_moved : (arrays : List ArrayInfo) (n m : ℕ) (i : NodeInfo) → n ≡ m → HasInfo arrays n i → HasInfo arrays m i
info_moved arrays n m i e h = subst (λ (a : ℕ). HasInfo arrays a i) e h

pub first_info : (arrays : List ArrayInfo) (a : ℕ) (i : NodeInfo) (rs : List Round) → HaveInfos arrays a (sums_from i rs) → HasInfo arrays a i
first_info arrays a i [] h = h.0
first_info arrays a i (r ∷ rs) h = h.0

-- the arrays of the merges, behind the first array of sums
pub merges_sums : (s : Setting) (source : ℕ) (i : NodeInfo) (rs : List Round) → i ∷ all_made (sum_merges s source i rs) ≡ sums_from i rs
merges_sums s source i [] = refl
merges_sums s source i (r ∷ rs) = ap (λ (is : List NodeInfo). i ∷ is) (merges_sums s (source + 1) (merged r i) rs)

pub merges_arrays : (s : Setting) (source : ℕ) (i : NodeInfo) (rs : List Round) → length (all_made (sum_merges s source i rs)) ≡ length rs
merges_arrays s source i [] = refl
merges_arrays s source i (r ∷ rs) = let e = merges_arrays s (source + 1) (merged r i) rs in omega arith

pub carries_arrays : (s : Setting) (axis source : ℕ) (i : NodeInfo) (rs : List Round) (next : ℕ) → length (all_made (sum_carries s axis source i rs next)) ≡ length rs + 1
carries_arrays s axis source i [] next = refl
carries_arrays s axis source i (r ∷ rs) next =
    let e = carries_arrays s axis (source + 1) (merged r i) rs next in
    let l = length-made (sum_carries s axis (source + 1) (merged r i) rs next) (carried_step s axis source i (Some (next + length rs)) (next + length rs + 1) ∷ []) in
    omega (arith, e, l)

-- ---- the fold

fold_holds : (arrays : List ArrayInfo) (s : Setting) (x : Cumulative) (rs : List Round) → IsCumulative x → IsSumTurn s x (sums_array x.made x.from x.axis) rs
    → HasInfo arrays x.source x.from → HasInfo arrays s.first (sums_array x.made x.from x.axis)
    → IsStep arrays s.reserved (x.source ∷ []) s.first s.first (summed_step s x (sums_array x.made x.from x.axis))
fold_holds arrays s x rs h t i o =
    let sums = sums_array x.made x.from x.axis in
    let axes = axis_alone x.axis in
    record {
      writes = refl;
      reads = reads;
      fits = record {
        result = subst (λ (g : RegularGrid). IsSqueezed (partial_grid (chunk_groups (axis_alone x.axis) g) g) (grid_at arrays s.first)) (sym i.grid)
            (subst (λ (g : RegularGrid). IsSqueezed (partial_grid (chunk_groups (axis_alone x.axis) (grid_of x.from)) (grid_of x.from)) g) (sym o.grid)
            (subst (λ (g : RegularGrid). IsSqueezed g (grid_of (sums_array x.made x.from x.axis))) (sym (first_grid x.made.dtype (axis_alone x.axis) x.from))
            (same_grid sums.dims sums.chunk (turn_ranks s x (sums_array x.made x.from x.axis) rs t))));
        types = subst IsInteger (sym o.dtype) h.integer;
        enough = tt;
      };
      need = rw (room_of arrays x.source x.from i, room_of arrays s.first (sums_array x.made x.from x.axis) o) (omega arith);
      tasks = chunks_in arrays s.first (sums_array x.made x.from x.axis) o;
    }
  where
    reads : All (IsGiven (x.source ∷ []) s.first s.first) (x.source ∷ [])
    reads zero d l = inl (contains_first x.source [])
    reads (suc n) d l = absurd (omega arith)

-- ---- the merges

pub merges_hold : (arrays : List ArrayInfo) (s : Setting) (x : Cumulative) (given : List ℕ) (first source : ℕ) (i : NodeInfo) (rs : List Round) → IsSetting s → IsCumulative x → first ≤ source
    → IsSumTurn s x i rs → HaveInfos arrays source (sums_from i rs) → AreSteps arrays s.reserved given first (source + 1) (sum_merges s source i rs)
merges_hold arrays s x given first source i [] k h before t o = tt
merges_hold arrays s x given first source i (r ∷ rs) k h before t o =
    let n = next_turn s x i r rs k.several t in
    let next = first_info arrays (source + 1) (merged r i) rs o.1 in
    let g = k.several in
    let few = k.few in
    let inside = turn_below s x i (r ∷ rs) h t in
    let e = t.rule.0.axis in (
      merge_steps arrays s Sum r.axis source i (merged r i) i given first before o.0 next refl refl
          (merge_fits arrays Sum r.axis s.split_every source (source + 1) i (merged r i) o.0 next (omega arith) (omega arith) (omega arith)
          (subst (λ (d : ℕ). IsSqueezed (partial_grid (merge_groups d s.split_every (grid_of i)) (grid_of i)) (grid_of (merged r i))) (sym e)
          (subst (λ (y : RegularGrid). IsSqueezed y (grid_of (merged r i))) (sym (turn_grid s x i r rs k.several t)) (same_grid (merged r i).dims (merged r i).chunk (turn_ranks s x (merged r i) rs n))))
          (subst IsInteger (sym t.dtype) h.integer) tt refl),
      merges_hold arrays s x given first (source + 1) (merged r i) rs k h (omega arith) n o.1,
    )

-- what is known of the last of the arrays that are carried: it has the shape of the first array of sums
pub last_carried : (arrays : List ArrayInfo) (s : Setting) (axis source : ℕ) (i : NodeInfo) (rs : List Round) (next : ℕ) → HaveInfos arrays next (all_made (sum_carries s axis source i rs next))
    → HasInfo arrays (next + length rs) i
last_carried arrays s axis source i [] next o = info_moved arrays next (next + 0) i (omega arith) o.0
last_carried arrays s axis source i (r ∷ rs) next o =
    let l = carries_arrays s axis (source + 1) (merged r i) rs next in
    let back = made_back arrays next (sum_carries s axis (source + 1) (merged r i) rs next) (carried_step s axis source i (Some (next + length rs)) (next + length rs + 1) ∷ []) o in
    info_moved arrays (next + length (all_made (sum_carries s axis (source + 1) (merged r i) rs next))) (next + length (r ∷ rs)) i (omega arith) back.0

-- ---- a carry

-- what is known of the array of what comes before the groups of sums
pub record IsAboveSums (arrays : List ArrayInfo) (s : Setting) (x : Cumulative) (source : ℕ) (i : NodeInfo) (a : ℕ) : Type 0 where
  pub other : a ≢ source
  pub info : NodeInfo
  pub has : HasInfo arrays a info
  pub dtype : info.dtype ≡ x.made.dtype
  pub bytes : chunk_bytes info ≡ chunk_bytes i
  pub grid : partial_grid (merge_groups x.axis s.split_every (grid_of i)) (grid_of i) ≡ grid_of info

carries_for : (arrays : List ArrayInfo) (s : Setting) (x : Cumulative) (source out : ℕ) (i : NodeInfo) (above : Option ℕ) → HasInfo arrays source i → HasInfo arrays out i → i.dtype ≡ x.made.dtype
    → IfSome above (IsAboveSums arrays s x source i) → CarriesFor arrays (merge_groups x.axis s.split_every (grid_at arrays source)) source out above
carries_for arrays s x source out i None h o t k = tt
carries_for arrays s x source out i (Some a) h o t k = (
  k.other,
  k.has.grid ∙ sym k.grid ∙ (λ j. partial_grid (merge_groups x.axis s.split_every (sym h.grid j)) (sym h.grid j)),
  k.has.dtype ∙ k.dtype ∙ sym t ∙ sym o.dtype,
)

carry_fits : (arrays : List ArrayInfo) (s : Setting) (x : Cumulative) (source out : ℕ) (i : NodeInfo) (rs : List Round) (above : Option ℕ) → IsSetting s → IsCumulative x → IsSumTurn s x i rs
    → HasInfo arrays source i → HasInfo arrays out i → IfSome above (IsAboveSums arrays s x source i) → Fits arrays (Carry x.axis s.split_every source above out)
carry_fits arrays s x source out i rs above k h t f o a =
    let g = k.several in
    let few = k.few in
    record {
      along = subst (λ (y : RegularGrid). x.axis < length y.shape) (sym f.grid) (turn_below s x i rs h t);
      some = omega arith;
      few = omega arith;
      single = (λ j. slice_index (f.grid j).chunk x.axis) ∙ turn_single s x i rs h t;
      grid = o.grid ∙ sym f.grid;
      types = o.dtype ∙ sym f.dtype;
      integer = subst IsInteger (sym (o.dtype ∙ t.dtype)) h.integer;
      carried = carries_for arrays s x source out i above f o t.dtype a;
    }

carry_bytes : (r g b : ℕ) → r + b + (g + 1 + 1) * b ≡ r + b + (g + 1) * b + b
carry_bytes r g b = omega arith

carry_needs : (arrays : List ArrayInfo) (s : Setting) (x : Cumulative) (source out : ℕ) (i : NodeInfo) (above : Option ℕ) → HasInfo arrays source i → HasInfo arrays out i → IfSome above (IsAboveSums arrays s x source i)
    → (carried_step s x.axis source i above out).need ≡ own_projection arrays s.reserved (Carry x.axis s.split_every source above out)
carry_needs arrays s x source out i None f o a =
    let e = carry_bytes s.reserved s.split_every (chunk_bytes i) in
    rw (room_of arrays source i f, room_of arrays out i o) (omega (arith, e))
carry_needs arrays s x source out i (Some b) f o a =
    let e = carry_bytes s.reserved s.split_every (chunk_bytes i) in
    rw (room_of arrays source i f, room_of arrays out i o, room_of arrays b a.info a.has, a.bytes) (omega (arith, e))

carry_holds : (arrays : List ArrayInfo) (s : Setting) (x : Cumulative) (given : List ℕ) (first source out : ℕ) (i : NodeInfo) (rs : List Round) (above : Option ℕ) → IsSetting s → IsCumulative x → IsSumTurn s x i rs
    → first ≤ source → source < out → IfSome above (λ a. (first ≤ a) × (a < out)) → HasInfo arrays source i → HasInfo arrays out i → IfSome above (IsAboveSums arrays s x source i)
    → IsStep arrays s.reserved given first out (carried_step s x.axis source i above out)
carry_holds arrays s x given first source out i rs above k h t before behind placed f o a = record {
  writes = refl;
  reads = reads above placed;
  fits = carry_fits arrays s x source out i rs above k h t f o a;
  need = carry_needs arrays s x source out i above f o a;
  tasks = chunks_in arrays out i o;
}
  where
    reads : (above : Option ℕ) → IfSome above (λ a. (first ≤ a) × (a < out)) → All (IsGiven given first out) (source ∷ carried_reads above)
    reads b p zero d l = inr (before, behind)
    reads None p (suc n) d l = absurd (omega arith)
    reads (Some b) p (suc zero) d l = inr (p.0, p.1)
    reads (Some b) p (suc (suc n)) d l = absurd (omega arith)

-- ---- the carries, the last array of sums first

pub carries_hold : (arrays : List ArrayInfo) (s : Setting) (x : Cumulative) (given : List ℕ) (first source : ℕ) (i : NodeInfo) (rs : List Round) (next : ℕ) → IsSetting s → IsCumulative x → first ≤ source → source + length rs < next
    → IsSumTurn s x i rs → HaveInfos arrays source (sums_from i rs) → HaveInfos arrays next (all_made (sum_carries s x.axis source i rs next))
    → AreSteps arrays s.reserved given first next (sum_carries s x.axis source i rs next)
carries_hold arrays s x given first source i [] next k h before behind t f o =
    (carry_holds arrays s x given first source next i [] None k h t before (omega arith) tt f.0 o.0 tt, tt)
carries_hold arrays s x given first source i (r ∷ rs) next k h before behind t f o =
    let n = next_turn s x i r rs k.several t in
    let above = sum_carries s x.axis (source + 1) (merged r i) rs next in
    let own = carried_step s x.axis source i (Some (next + length rs)) (next + length rs + 1) ∷ [] in
    let l = carries_arrays s x.axis (source + 1) (merged r i) rs next in
    let front = made_front arrays next (sum_carries s x.axis (source + 1) (merged r i) rs next) (carried_step s x.axis source i (Some (next + length rs)) (next + length rs + 1) ∷ []) o in
    let back = made_back arrays next (sum_carries s x.axis (source + 1) (merged r i) rs next) (carried_step s x.axis source i (Some (next + length rs)) (next + length rs + 1) ∷ []) o in
    let out : HasInfo arrays (next + length rs + 1) i = info_moved arrays (next + length (all_made (sum_carries s x.axis (source + 1) (merged r i) rs next))) (next + length rs + 1) i (omega arith) back.0 in
    steps_join arrays s.reserved given first next (next + length rs + 1) (sum_carries s x.axis (source + 1) (merged r i) rs next) (carried_step s x.axis source i (Some (next + length rs)) (next + length rs + 1) ∷ []) (omega arith)
    (carries_hold arrays s x given first (source + 1) (merged r i) rs next k h (omega arith) (omega arith) n f.1 front) (
      carry_holds arrays s x given first source (next + length rs + 1) i (r ∷ rs) (Some (next + length rs)) k h t before (omega arith) (omega arith, omega arith) f.0 out
          (record {
            other = λ e. absurd (omega arith);
            info = merged r i;
            has = last_carried arrays s x.axis (source + 1) (merged r i) rs next front;
            dtype = t.dtype;
            bytes = refl;
            grid = turn_grid s x i r rs k.several t;
          }),
      tt,
    )

-- ---- the scan

-- what is carried in, where something is
pub record IsCarriedIn (arrays : List ArrayInfo) (x : Cumulative) (i : NodeInfo) (a : ℕ) : Type 0 where
  pub other : a ≢ x.source
  pub has : HasInfo arrays a i
  pub dtype : i.dtype ≡ x.made.dtype
  pub grid : partial_grid (place_groups (Some x.axis) (grid_of x.from)) (grid_of x.from) ≡ grid_of i

scan_for : (arrays : List ArrayInfo) (x : Cumulative) (out : ℕ) (i : NodeInfo) (carry : Option ℕ) → HasInfo arrays x.source x.from → HasInfo arrays out x.made → IfSome carry (IsCarriedIn arrays x i)
    → CarriesFor arrays (place_groups (Some x.axis) (grid_at arrays x.source)) x.source out carry
scan_for arrays x out i None h o k = tt
scan_for arrays x out i (Some a) h o k = (
  k.other,
  k.has.grid ∙ sym k.grid ∙ (λ j. partial_grid (place_groups (Some x.axis) (sym h.grid j)) (sym h.grid j)),
  k.has.dtype ∙ k.dtype ∙ sym o.dtype,
)

scan_fits : (arrays : List ArrayInfo) (x : Cumulative) (out : ℕ) (i : NodeInfo) (carry : Option ℕ) → IsCumulative x → HasInfo arrays x.source x.from → HasInfo arrays out x.made → IfSome carry (IsCarriedIn arrays x i)
    → Fits arrays (scan_of x carry out)
scan_fits arrays x out i carry h f o a =
    let same : grid_of x.made ≡ grid_of x.from = (λ j. record { shape = h.summed.dims j; chunk = h.summed.chunk j }) in
    record {
      along = subst (λ (y : RegularGrid). x.axis < length y.shape) (sym f.grid) h.summed.along;
      grid = o.grid ∙ same ∙ sym f.grid;
      types = subst IsInteger (sym o.dtype) h.integer;
      carried = scan_for arrays x out i carry f o a;
    }

pub lone_holds : (arrays : List ArrayInfo) (s : Setting) (x : Cumulative) → IsCumulative x → HasInfo arrays x.source x.from → HasInfo arrays s.first x.made
    → IsStep arrays s.reserved (x.source ∷ []) s.first s.first (scanned_step x None s.first (fold_need s.reserved (chunk_bytes x.from) (chunk_bytes x.made)))
lone_holds arrays s x h f o = record {
  writes = refl;
  reads = reads;
  fits = scan_fits arrays x s.first x.made None h f o tt;
  need = rw (room_of arrays x.source x.from f, room_of arrays s.first x.made o) (omega arith);
  tasks = chunks_in arrays s.first x.made o;
}
  where
    reads : All (IsGiven (x.source ∷ []) s.first s.first) (x.source ∷ [])
    reads zero d l = inl (contains_first x.source [])
    reads (suc n) d l = absurd (omega arith)

scan_holds : (arrays : List ArrayInfo) (s : Setting) (x : Cumulative) (carry out : ℕ) (i : NodeInfo) → IsCumulative x → s.first ≤ carry → carry < out → HasInfo arrays x.source x.from → HasInfo arrays out x.made
    → IsCarriedIn arrays x i carry → IsStep arrays s.reserved (x.source ∷ []) s.first out (scanned_step x (Some carry) out (product_need s.reserved (chunk_bytes x.from) (chunk_bytes i) (chunk_bytes x.made)))
scan_holds arrays s x carry out i h before behind f o a = record {
  writes = refl;
  reads = reads;
  fits = scan_fits arrays x out i (Some carry) h f o a;
  need = rw (room_of arrays x.source x.from f, room_of arrays carry i a.has, room_of arrays out x.made o) (omega arith);
  tasks = chunks_in arrays out x.made o;
}
  where
    reads : All (IsGiven (x.source ∷ []) s.first out) (x.source ∷ carry ∷ [])
    reads zero d l = inl (contains_first x.source [])
    reads (suc zero) d l = inr (before, behind)
    reads (suc (suc n)) d l = absurd (omega arith)

-- ---- all of them

-- what is known of the arrays of the steps, by what makes them
pub record HaveSums (arrays : List ArrayInfo) (s : Setting) (x : Cumulative) (i : NodeInfo) (rs : List Round) : Type 0 where
  pub sums : HaveInfos arrays s.first (sums_from i rs)
  pub carries : HaveInfos arrays (first_carry s rs) (all_made (sum_carries s x.axis s.first i rs (first_carry s rs)))
  pub made : HasInfo arrays (last_carry s rs + 1) x.made

pub have_sums : (arrays : List ArrayInfo) (s : Setting) (x : Cumulative) (i : NodeInfo) (rs : List Round) → HaveInfos arrays s.first (all_made (summed_steps s x i rs)) → HaveSums arrays s x i rs
have_sums arrays s x i rs o =
    let l = merges_arrays s s.first i rs in
    let n = carries_arrays s x.axis s.first i rs (first_carry s rs) in
    let front = made_front arrays (s.first + 1) (sum_merges s s.first i rs) (sum_carries s x.axis s.first i rs (first_carry s rs) ++ last_scan s x i rs ∷ []) o.1 in
    let back = made_back arrays (s.first + 1) (sum_merges s s.first i rs) (sum_carries s x.axis s.first i rs (first_carry s rs) ++ last_scan s x i rs ∷ []) o.1 in
    let rest : HaveInfos arrays (first_carry s rs) (all_made (sum_carries s x.axis s.first i rs (first_carry s rs) ++ last_scan s x i rs ∷ [])) =
    subst (λ (a : ℕ). HaveInfos arrays a (all_made (sum_carries s x.axis s.first i rs (first_carry s rs) ++ last_scan s x i rs ∷ []))) (omega arith) back in
    let last = made_back arrays (first_carry s rs) (sum_carries s x.axis s.first i rs (first_carry s rs)) (last_scan s x i rs ∷ []) rest in
    record {
      sums = subst (λ (is : List NodeInfo). HaveInfos arrays s.first is) (merges_sums s s.first i rs) (o.0, front);
      carries = made_front arrays (first_carry s rs) (sum_carries s x.axis s.first i rs (first_carry s rs)) (last_scan s x i rs ∷ []) rest;
      made = info_moved arrays (first_carry s rs + length (all_made (sum_carries s x.axis s.first i rs (first_carry s rs)))) (last_carry s rs + 1) x.made (omega arith) last.0;
    }

pub summed_hold : (arrays : List ArrayInfo) (s : Setting) (x : Cumulative) (rs : List Round) → IsSetting s → IsCumulative x → x.source < s.first → IsSumTurn s x (sums_array x.made x.from x.axis) rs
    → HasInfo arrays x.source x.from → HaveInfos arrays s.first (all_made (summed_steps s x (sums_array x.made x.from x.axis) rs))
    → AreSteps arrays s.reserved (x.source ∷ []) s.first s.first (summed_steps s x (sums_array x.made x.from x.axis) rs)
summed_hold arrays s x rs k h below t f o =
    let i = sums_array x.made x.from x.axis in
    let a = have_sums arrays s x (sums_array x.made x.from x.axis) rs o in
    let l = merges_arrays s s.first (sums_array x.made x.from x.axis) rs in
    let n = carries_arrays s x.axis s.first (sums_array x.made x.from x.axis) rs (first_carry s rs) in (
      fold_holds arrays s x rs h t f o.0,
      steps_join arrays s.reserved (x.source ∷ []) s.first (s.first + 1) (first_carry s rs) (sum_merges s s.first (sums_array x.made x.from x.axis) rs)
          (sum_carries s x.axis s.first (sums_array x.made x.from x.axis) rs (first_carry s rs) ++ last_scan s x (sums_array x.made x.from x.axis) rs ∷ []) (omega arith)
          (merges_hold arrays s x (x.source ∷ []) s.first s.first (sums_array x.made x.from x.axis) rs k h (omega arith) t a.sums)
          (steps_join arrays s.reserved (x.source ∷ []) s.first (first_carry s rs) (last_carry s rs + 1) (sum_carries s x.axis s.first (sums_array x.made x.from x.axis) rs (first_carry s rs)) (last_scan s x (sums_array x.made x.from x.axis) rs ∷ []) (omega arith)
          (carries_hold arrays s x (x.source ∷ []) s.first s.first (sums_array x.made x.from x.axis) rs (first_carry s rs) k h (omega arith) (omega arith) t a.sums a.carries) (
            scan_holds arrays s x (last_carry s rs) (last_carry s rs + 1) (sums_array x.made x.from x.axis) h (omega arith) (omega arith) f a.made
                (record { other = λ e. absurd (omega arith); has = last_carried arrays s x.axis s.first (sums_array x.made x.from x.axis) rs (first_carry s rs) a.carries; dtype = refl; grid = sums_grid x }),
            tt,
          )),
    )

-- how many arrays they make
pub summed_arrays : (s : Setting) (x : Cumulative) (i : NodeInfo) (rs : List Round) → length (all_made (summed_steps s x i rs)) ≡ 2 * length rs + 3
summed_arrays s x i rs =
    let l = merges_arrays s s.first i rs in
    let n = carries_arrays s x.axis s.first i rs (first_carry s rs) in
    let a = length-made (sum_merges s s.first i rs) (sum_carries s x.axis s.first i rs (first_carry s rs) ++ last_scan s x i rs ∷ []) in
    let b = length-made (sum_carries s x.axis s.first i rs (first_carry s rs)) (last_scan s x i rs ∷ []) in
    omega (arith, l, n, a, b)

-- by whether the axis has several chunks
abbrev pub steps_by : Setting → Cumulative → Bool → List Step
steps_by s x several =
    if several
    then summed_steps s x (sums_array x.made x.from x.axis) (cumulative_rounds s.split_every x.made x.from x.axis)
    else scanned_step x None s.first (fold_need s.reserved (chunk_bytes x.from) (chunk_bytes x.made)) ∷ []

holds_by : (several : Bool) (arrays : List ArrayInfo) (s : Setting) (x : Cumulative) → IsSetting s → IsCumulative x → x.source < s.first → HasInfo arrays x.source x.from
    → HaveInfos arrays s.first (all_made (steps_by s x several)) → AreSteps arrays s.reserved (x.source ∷ []) s.first s.first (steps_by s x several)
holds_by true arrays s x k h below f o = summed_hold arrays s x (cumulative_rounds s.split_every x.made x.from x.axis) k h below (first_turn s x k h) f o
holds_by false arrays s x k h below f o = (lone_holds arrays s x h f o.0, tt)

pub cumulative_holds : (arrays : List ArrayInfo) (s : Setting) (x : Cumulative) → IsSetting s → IsCumulative x → x.source < s.first → HasInfo arrays x.source x.from
    → HaveInfos arrays s.first (all_made (cumulative_steps s x)) → AreSteps arrays s.reserved (x.source ∷ []) s.first s.first (cumulative_steps s x)
cumulative_holds arrays s x k h below f o = holds_by (nat_lt 1 (sums_count x.made x.from x.axis)) arrays s x k h below f o

-- ---- the last array

last_by : (several : Bool) (arrays : List ArrayInfo) (s : Setting) (x : Cumulative) → HaveInfos arrays s.first (all_made (steps_by s x several)) → HasInfo arrays (last_made s.first (steps_by s x several)) x.made
last_by true arrays s x o =
    let i = sums_array x.made x.from x.axis in
    let rs = cumulative_rounds s.split_every x.made x.from x.axis in
    let n = summed_arrays s x (sums_array x.made x.from x.axis) (cumulative_rounds s.split_every x.made x.from x.axis) in
    info_moved arrays _ _ x.made (omega (arith, n)) (have_sums arrays s x (sums_array x.made x.from x.axis) (cumulative_rounds s.split_every x.made x.from x.axis) o).made
last_by false arrays s x o = info_moved arrays s.first (s.first + 1 - 1) x.made (omega arith) o.0

pub cumulative_last : (arrays : List ArrayInfo) (s : Setting) (x : Cumulative) → HaveInfos arrays s.first (all_made (cumulative_steps s x)) → HasInfo arrays (last_made s.first (cumulative_steps s x)) x.made
cumulative_last arrays s x o = last_by (nat_lt 1 (sums_count x.made x.from x.axis)) arrays s x o
