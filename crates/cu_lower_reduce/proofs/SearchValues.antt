-- The elements of the arrays that a search for places makes.
use Rattle.std.proofs.Common.{◌≡◌, ℕ, ℤ, suc, ◌+◌, ◌<◌, ◌==◌, Bool, true, false, List, [], ◌∷◌, All, Contains, length, map, Option, None, Some, refl, ap, sym, ◌∙◌, subst, arith}
use Rattle.std.proofs.lemmas.List.{length-map}
use Rattle.cu_num.specs.declared.folds.FoldKind.TheVariants.{Min}
use Rattle.cu_shape.specs.Index.{place_of, index_at, IsInside}
use Rattle.cu_shape.proofs.Places.{index-place, inside-length}
use Rattle.cu_grid.specs.Grid.{RegularGrid}
use Rattle.cu_reduce.specs.Groups.{Groups, groups_of, group_counts, group_lo, group_hi, group_indices, HasElements}
use Rattle.cu_reduce.specs.Parts.{Rises, part_indices, group_cuts, HaveMembers, composed, Covers, KeepsAxes, HasOnes}
use Rattle.cu_reduce.specs.Places.{Found, found_at, best_in}
use Rattle.cu_reduce.proofs.Chained.{IsRound, composed_rise, round_of_places, round_enough}
use Rattle.cu_reduce.proofs.Covered.{groups_cover, composed_cover, whole_part}
use Rattle.cu_reduce.proofs.Grouped.{length-group_counts, length-group_lo, length-group_hi, length-groups_from, groups_rise, group_part, group_within, group_not_empty}
use Rattle.cu_reduce.proofs.Regions.{region_all}
use Rattle.cu_origin.specs.Pull.{has_axis}
use Rattle.cu_origin.specs.declared.axes.Axes.{Axes}
use Rattle.cu_op.specs.Partial.{chunk_groups, place_groups, merge_groups}
use Rattle.cu_op.specs.Elements.{Elements}
use Rattle.cu_op.specs.Value.{rule}
use Rattle.cu_op.specs.Places.{counted_at, pair_part}
use Rattle.cu_op.specs.declared.layout.ArrayInfo.{ArrayInfo}
use Rattle.cu_op.specs.declared.operation.Op.TheVariants.{PairFold, PairMerge}
use Rattle.cu_node.specs.declared.info.NodeInfo.{NodeInfo}
use Rattle.cu_tree.specs.Marks.{sought_axes}
use Rattle.cu_tree.specs.Needs.{pair_fold_need, pair_merge_need}
use Rattle.cu_tree.specs.Partials.{reduction_rounds, merged}
use Rattle.cu_tree.specs.declared.round.Round.{Round}
use Rattle.cu_lower_reduce.specs.Partials.{IsSetting}
use Rattle.cu_lower_reduce.specs.Reductions.{whole_groups, reduced_indices}
use Rattle.cu_lower_reduce.specs.Searches.{value_chunk_bytes, pair_merges, pairs_found, search_steps, IsSearch}
use Rattle.cu_lower_reduce.specs.Steps.{grid_of, HasInfo, HaveInfos, all_made, SolveSteps}
use Rattle.cu_lower_reduce.specs.declared.search.Search.{Search}
use Rattle.cu_lower_reduce.specs.declared.step.Setting.{Setting}
use Rattle.cu_lower_reduce.specs.declared.step.Step.{Step}
use Rattle.cu_lower_reduce.proofs.Along.{own_test, other_test, along_keeps, members_along, elements_along}
use Rattle.cu_lower_reduce.proofs.Carrying.{same_map, covers-length, members_chunk, groups_keep, whole_ones}
use Rattle.cu_lower_reduce.proofs.Folds.{elements_same, contains_first}
use Rattle.cu_lower_reduce.proofs.KindValues.{contains_head, solve_behind, squeezed_inside}
use Rattle.cu_lower_reduce.proofs.Lasts.{last_target}
use Rattle.cu_lower_reduce.proofs.Searching.{typed, IsHunt, next_hunt, two_on, first_places, search_turn, same_groups}
use Rattle.cu_lower_reduce.proofs.Standing.{merged_grid, end_grid}
use Rattle.cu_lower_reduce.proofs.Stepping.{IsTurn, next_turn}
use Rattle.cu_node.specs.Info.{chunk_bytes}

-- ---- what is carried

-- as for the kinds, of elements with places; no part is empty
pub record IsFoundIn (least : Bool) (axes : Axes) (shape counts : List ℕ) (f e : List ℕ → Option Found) : Type 0 where
  pub cuts : List (ℕ → ℕ)
  pub rises : Rises cuts
  pub covers : Covers (has_axis axes) 0 cuts counts shape
  pub some : (p : List ℕ) → IsInside counts p → 0 < length (part_indices cuts p)
  pub value : (p : List ℕ) → IsInside counts p → e p ≡ best_in least (map f (part_indices cuts p))

pub first_found : (least : Bool) (axes : Axes) (shape chunk : List ℕ) (f e : List ℕ → Option Found) → length chunk ≡ length shape → All (λ c. 0 < c) chunk → HasElements (groups_of (has_axis axes) chunk) shape
    → ((q : List ℕ) → IsInside (group_counts (groups_of (has_axis axes) chunk) shape) q → e q ≡ best_in least (map f (group_indices (groups_of (has_axis axes) chunk) shape q)))
    → IsFoundIn least axes shape (group_counts (groups_of (has_axis axes) chunk) shape) f e
first_found least axes shape chunk f e ranks positive k h =
    let m = members_chunk (has_axis axes) 0 chunk shape positive in
    let l : length (groups_of (has_axis axes) chunk) ≡ length shape = length-groups_from (has_axis axes) 0 chunk ∙ ranks in
    record {
      cuts = group_cuts (groups_of (has_axis axes) chunk) shape;
      rises = groups_rise (groups_of (has_axis axes) chunk) shape;
      covers = groups_cover (has_axis axes) 0 (groups_of (has_axis axes) chunk) shape l (groups_keep (has_axis axes) 0 chunk) m;
      some = λ p b. subst (λ (is : List (List ℕ)). 0 < length is) (group_part (groups_of (has_axis axes) chunk) shape p m b) (group_not_empty (groups_of (has_axis axes) chunk) shape p m k b);
      value = λ p b. h p b ∙ ap (λ (is : List (List ℕ)). best_in least (map f is)) (group_part (groups_of (has_axis axes) chunk) shape p m b);
    }

pub round_found : (least : Bool) (axes : Axes) (shape counts : List ℕ) (gs : Groups) (f e u : List ℕ → Option Found) → length gs ≡ length counts → KeepsAxes (has_axis axes) 0 gs → HaveMembers gs counts → HasElements gs counts
    → IsFoundIn least axes shape counts f e → ((q : List ℕ) → IsInside (group_counts gs counts) q → u q ≡ best_in least (map e (group_indices gs counts q)))
    → IsFoundIn least axes shape (group_counts gs counts) f u
round_found least axes shape counts gs f e u l keeps members k c h = record {
  cuts = composed c.cuts (group_cuts gs counts);
  rises = composed_rise c.cuts (group_cuts gs counts) c.rises (groups_rise gs counts);
  covers = composed_cover (has_axis axes) 0 c.cuts gs counts shape l keeps members c.covers;
  some = λ q b. round_enough c.cuts gs counts q (turn q b) Min k c.some;
  value = λ q b. h q b ∙ (parts q b ∙ round_of_places c.cuts gs counts q (turn q b) least f c.some);
}
  where
    turn : (q : List ℕ) → IsInside (group_counts gs counts) q → IsRound c.cuts gs counts q
    turn q b = record { rises = c.rises; axes = (covers-length (has_axis axes) 0 c.cuts counts shape c.covers).0; groups = l; members = members; inside = b }

    ends : (q : List ℕ) → IsInside (group_counts gs counts) q → length (group_lo gs q) ≡ length (group_hi gs counts (map suc q))
    ends q b =
        let n : length q ≡ length counts = inside-length (group_counts gs counts) q b ∙ length-group_counts gs counts l in
        let m : length (map suc q) ≡ length counts = length-map q suc ∙ n in
        length-group_lo gs q (l ∙ sym n) ∙ n ∙ sym (length-group_hi gs counts (map suc q) (l ∙ sym m) (sym m) ∙ m)

    parts : (q : List ℕ) → IsInside (group_counts gs counts) q
        → best_in least (map e (group_indices gs counts q)) ≡ best_in least (map (λ p. best_in least (map f (part_indices c.cuts p))) (group_indices gs counts q))
    parts q b =
        ap (best_in least)
        (same_map e (λ p. best_in least (map f (part_indices c.cuts p))) (group_indices gs counts q)
        (region_all (group_lo gs q) (group_hi gs counts (map suc q)) (λ p. e p ≡ best_in least (map f (part_indices c.cuts p))) (ends q b)
        (λ p w. c.value p (group_within gs counts q p l b w))))

pub end_found : (least : Bool) (axes : Axes) (shape counts : List ℕ) (f e : List ℕ → Option Found) → counts ≡ group_counts (whole_groups axes shape) shape
    → IsFoundIn least axes shape counts f e → (q : List ℕ) → IsInside counts q → e q ≡ best_in least (map f (group_indices (whole_groups axes shape) shape q))
end_found least axes shape counts f e s c q b =
    c.value q b
    ∙ ap (λ (is : List (List ℕ)). best_in least (map f is))
    (whole_part (has_axis axes) 0 c.cuts counts shape q c.covers (subst (HasOnes (has_axis axes) 0) (sym s) (whole_ones (has_axis axes) 0 shape)) b)

pub same_found : (least : Bool) (axes : Axes) (shape counts : List ℕ) (f e u : List ℕ → Option Found) → ((q : List ℕ) → IsInside counts q → u q ≡ e q)
    → IsFoundIn least axes shape counts f e → IsFoundIn least axes shape counts f u
same_found least axes shape counts f e u h c = record { cuts = c.cuts; rises = c.rises; covers = c.covers; some = c.some; value = λ q b. h q b ∙ c.value q b }

-- ---- pairs

found_pair : (b : Option Found) → found_at (pair_part false b) (pair_part true b) ≡ b
found_pair None = refl
found_pair (Some b) = refl

-- the two arrays together
both_parts : (v p : Option ℤ) (s t : Bool) (b : Option Found) → s ≡ false → t ≡ true → v ≡ pair_part s b → p ≡ pair_part t b → found_at v p ≡ b
both_parts v p s t b e f g h =
    let x : v ≡ pair_part false b = g ∙ (λ j. pair_part (e j) b) in
    let y : p ≡ pair_part true b = h ∙ (λ j. pair_part (f j) b) in
    (λ j. found_at (x j) (y j)) ∙ found_pair b

-- ---- the rules

pub pair_merge_value : (arrays : List ArrayInfo) (at : Elements) (least : Bool) (axis g source places : ℕ) (values : Option ℕ) (out a : ℕ) (i o : NodeInfo) (idx : List ℕ) → HasInfo arrays source i → HasInfo arrays out o
    → rule (PairMerge least axis g source places values out) arrays at a idx
    ≡ pair_part (a == out) (best_in least (map (λ p. found_at (at source p) (at places p)) (group_indices (merge_groups axis g (grid_of i)) i.dims (index_at (group_counts (merge_groups axis g (grid_of i)) i.dims) (place_of o.dims idx)))))
pair_merge_value arrays at least axis g source places values out a i o idx h k j =
    pair_part (a == out) (best_in least (map (λ p. found_at (at source p) (at places p)) (group_indices (merge_groups axis g (h.grid j)) (h.grid j).shape (index_at (group_counts (merge_groups axis g (h.grid j)) (h.grid j).shape) (place_of (k.grid j).shape idx)))))

pub pair_fold_value : (arrays : List ArrayInfo) (at : Elements) (x : Search) (values : Option ℕ) (out a : ℕ) (o : NodeInfo) (idx : List ℕ) → IsSearch x → HasInfo arrays x.source x.from → HasInfo arrays out o
    → rule (PairFold x.least x.axis x.source values out) arrays at a idx
    ≡ pair_part (a == out) (best_in x.least (map (counted_at x.from.dims x.axis (at x.source)) (group_indices (chunk_groups (sought_axes x.axis) (grid_of x.from)) x.from.dims
    (index_at (group_counts (chunk_groups (sought_axes x.axis) (grid_of x.from)) x.from.dims) (place_of o.dims idx)))))
pair_fold_value arrays at x values out a o idx s h k =
    (λ j. pair_part (a == out) (best_in x.least (map (counted_at (h.grid j).shape x.axis (at x.source)) (group_indices (place_groups x.axis (h.grid j)) (h.grid j).shape (index_at (group_counts (place_groups x.axis (h.grid j)) (h.grid j).shape) (place_of (k.grid j).shape idx))))))
    ∙ (λ j. pair_part (a == out) (best_in x.least (map (counted_at x.from.dims x.axis (at x.source)) (group_indices (same_groups x s j) x.from.dims (index_at (group_counts (same_groups x s j) x.from.dims) (place_of o.dims idx))))))

-- ---- a round

-- the elements that two arrays hold together
abbrev pub pair_at : Elements → ℕ → List ℕ → Option Found
pair_at at source p = found_at (at source p) (at (source + 1) p)

after_pairs : (arrays : List ArrayInfo) (s : Setting) (x : Search) (f e : List ℕ → Option Found) (source : ℕ) (i : NodeInfo) (r : Round) (rs : List Round) → IsHunt arrays s x source i (r ∷ rs)
    → IsFoundIn x.least (sought_axes x.axis) x.from.dims i.dims f e
    → IsFoundIn x.least (sought_axes x.axis) x.from.dims (merged r i).dims f (λ q. best_in x.least (map e (group_indices (merge_groups r.axis s.split_every (grid_of i)) i.dims q)))
after_pairs arrays s x f e source i r rs h c =
    let w = h.turn.rule.0 in
    let u = w.from in
    let v = w.several in
    let k = h.setting.several in
    subst (λ (counts : List ℕ). IsFoundIn x.least (sought_axes x.axis) x.from.dims counts f (λ q. best_in x.least (map e (group_indices (merge_groups r.axis s.split_every (grid_of i)) i.dims q))))
    (ap (λ (g : RegularGrid). g.shape) (merged_grid (sought_axes x.axis) s.split_every x.from i r k h.turn.stands w))
    (round_found x.least (sought_axes x.axis) x.from.dims i.dims (merge_groups r.axis s.split_every (grid_of i)) f e _
    (length-groups_from (λ d. d == r.axis) 0 (map (λ n. s.split_every) i.dims) ∙ length-map i.dims (λ n. s.split_every))
    (along_keeps (has_axis (sought_axes x.axis)) r.axis s.split_every 0 i.dims w.reduced)
    (members_along r.axis s.split_every 0 i.dims (omega arith))
    (elements_along r.axis s.split_every 0 i.dims r.axis (omega arith) (omega arith)) c (λ q b. refl))

abbrev last_head : Setting → Search → ℕ → NodeInfo → Round → Step
last_head s x source i r =
    record { op = PairMerge x.least r.axis s.split_every source (source + 1) None (source + 2); values = None; made = x.made; need = pair_merge_need s.reserved s.split_every (value_chunk_bytes x) (chunk_bytes x.made) }

abbrev more_head : Setting → Search → ℕ → NodeInfo → Round → Step
more_head s x source i r =
    record {
      op = PairMerge x.least r.axis s.split_every source (source + 1) (Some (source + 2)) (source + 2 + 1);
      values = Some (typed x.from.dtype (merged r i));
      made = merged r i;
      need = pair_merge_need s.reserved s.split_every (value_chunk_bytes x) (chunk_bytes x.made);
    }

pub pairs_value : (arrays : List ArrayInfo) (at : Elements) (s : Setting) (x : Search) (f : List ℕ → Option Found) (source : ℕ) (i : NodeInfo) (r : Round) (rs : List Round) → IsHunt arrays s x source i (r ∷ rs)
    → HaveInfos arrays (source + 2) (all_made (pair_merges s x source (typed x.from.dtype i) i (r ∷ rs))) → SolveSteps arrays at (pair_merges s x source (typed x.from.dtype i) i (r ∷ rs))
    → IsFoundIn x.least (sought_axes x.axis) x.from.dims i.dims f (pair_at at source) → (idx : List ℕ) → IsInside x.made.dims idx
    → at (last_target (pair_merges s x source (typed x.from.dtype i) i (r ∷ rs))) idx ≡ pair_part true (best_in x.least (map f (reduced_indices (sought_axes x.axis) x.from.dims x.made.dims idx)))
pairs_value arrays at s x f source i r [] h k solve v idx b =
    let counts = merged_grid (sought_axes x.axis) s.split_every x.from i r h.setting.several h.turn.stands h.turn.rule.0 in
    let n = next_turn s (sought_axes x.axis) x.from x.made i r [] h.setting.several h.turn in
    let whole : (merged r i).dims ≡ group_counts (whole_groups (sought_axes x.axis) x.from.dims) x.from.dims = ap (λ (g : RegularGrid). g.shape) (end_grid (sought_axes x.axis) x.from (merged r i) n.stands n.rule) in
    let all : group_counts (merge_groups r.axis s.split_every (grid_of i)) i.dims ≡ group_counts (whole_groups (sought_axes x.axis) x.from.dims) x.from.dims = ap (λ (g : RegularGrid). g.shape) counts ∙ whole in
    let inside = squeezed_inside (sought_axes x.axis) x.from x.made idx h.search.result b in
    solve (last_head s x source i r) (source + 2) idx (contains_head (last_head s x source i r) []) (contains_first (source + 2) [])
    ∙ pair_merge_value arrays at x.least r.axis s.split_every source (source + 1) None (source + 2) (source + 2) (typed x.from.dtype i) x.made idx h.values k.0
    ∙ (λ j. pair_part (own_test (source + 2) j) (best_in x.least (map (pair_at at source) (group_indices (merge_groups r.axis s.split_every (grid_of i)) i.dims (index_at (all j) (place_of x.made.dims idx))))))
    ∙ ap (pair_part true)
    (end_found x.least (sought_axes x.axis) x.from.dims (merged r i).dims f _ whole (after_pairs arrays s x f (pair_at at source) source i r [] h v)
    (index_at (group_counts (whole_groups (sought_axes x.axis) x.from.dims) x.from.dims) (place_of x.made.dims idx))
    (subst (λ (cs : List ℕ). IsInside cs (index_at (group_counts (whole_groups (sought_axes x.axis) x.from.dims) x.from.dims) (place_of x.made.dims idx))) (sym whole) inside))
pairs_value arrays at s x f source i r (q ∷ rs) h k solve v idx b =
    pairs_value arrays at s x f (source + 2) (merged r i) q rs (next_hunt arrays s x source i r (q ∷ rs) h k.0 k.1.0) (two_on arrays (source + 2) _ k.1.1)
    (solve_behind arrays at (more_head s x source i r) (pair_merges s x (source + 2) (typed x.from.dtype (merged r i)) (merged r i) (q ∷ rs)) solve)
    (same_found x.least (sought_axes x.axis) x.from.dims (merged r i).dims f _ (pair_at at (source + 2)) here (after_pairs arrays s x f (pair_at at source) source i r (q ∷ rs) h v))
    idx b
  where
    each : (a : ℕ) (p : List ℕ) → IsInside (merged r i).dims p → Contains ((source + 2) ∷ (source + 2 + 1) ∷ []) a
        → at a p ≡ pair_part (a == source + 2 + 1) (best_in x.least (map (pair_at at source) (group_indices (merge_groups r.axis s.split_every (grid_of i)) i.dims p)))
    each a p m w =
        let counts : group_counts (merge_groups r.axis s.split_every (grid_of i)) i.dims ≡ (merged r i).dims =
        ap (λ (g : RegularGrid). g.shape) (merged_grid (sought_axes x.axis) s.split_every x.from i r h.setting.several h.turn.stands h.turn.rule.0) in
        solve (more_head s x source i r) a p (contains_head (more_head s x source i r) (pair_merges s x (source + 2) (typed x.from.dtype (merged r i)) (merged r i) (q ∷ rs))) w
        ∙ pair_merge_value arrays at x.least r.axis s.split_every source (source + 1) (Some (source + 2)) (source + 2 + 1) a (typed x.from.dtype i) (merged r i) p h.values k.1.0
        ∙ ap (λ (cs : List ℕ). pair_part (a == source + 2 + 1) (best_in x.least (map (pair_at at source) (group_indices (merge_groups r.axis s.split_every (grid_of i)) i.dims (index_at cs (place_of (merged r i).dims p)))))) counts
        ∙ ap (λ (d : List ℕ). pair_part (a == source + 2 + 1) (best_in x.least (map (pair_at at source) (group_indices (merge_groups r.axis s.split_every (grid_of i)) i.dims d)))) (index-place (merged r i).dims p m)

    here : (p : List ℕ) → IsInside (merged r i).dims p → pair_at at (source + 2) p ≡ best_in x.least (map (pair_at at source) (group_indices (merge_groups r.axis s.split_every (grid_of i)) i.dims p))
    here p m =
        both_parts (at (source + 2) p) (at (source + 2 + 1) p) (source + 2 == source + 2 + 1) (source + 2 + 1 == source + 2 + 1) _ (other_test (source + 2) (source + 2 + 1) (λ e. absurd (omega arith))) (own_test (source + 2 + 1))
        (each (source + 2) p m (0, omega arith, refl)) (each (source + 2 + 1) p m (1, omega arith, refl))

-- ---- a search

abbrev pub sought_elements : Elements → Search → List ℕ → Option Found
sought_elements at x = counted_at x.from.dims x.axis (at x.source)

found_in_chunks : (at : Elements) (x : Search) → IsSearch x → IsFoundIn x.least (sought_axes x.axis) x.from.dims (first_places x).dims (sought_elements at x)
    (λ q. best_in x.least (map (sought_elements at x) (group_indices (chunk_groups (sought_axes x.axis) (grid_of x.from)) x.from.dims q)))
found_in_chunks at x h =
    first_found x.least (sought_axes x.axis) x.from.dims x.from.chunk (sought_elements at x) _ h.from.ranks h.from.positive
    (elements_same (has_axis (sought_axes x.axis)) 0 x.from.dims x.from.chunk x.from.dims (sym h.from.ranks) h.enough) (λ q b. refl)

abbrev only_head : Setting → Search → Step
only_head s x = record { op = PairFold x.least x.axis x.source None s.first; values = None; made = x.made; need = pair_fold_need s.reserved (chunk_bytes x.from) (value_chunk_bytes x) (chunk_bytes x.made) }

abbrev first_head : Setting → Search → Step
first_head s x =
    record {
      op = PairFold x.least x.axis x.source (Some s.first) (s.first + 1);
      values = Some (typed x.from.dtype (first_places x));
      made = first_places x;
      need = pair_fold_need s.reserved (chunk_bytes x.from) (value_chunk_bytes x) (chunk_bytes x.made);
    }

found_value : (arrays : List ArrayInfo) (at : Elements) (s : Setting) (x : Search) (rs : List Round) → IsSetting s → IsSearch x → IsTurn s (sought_axes x.axis) x.from x.made (first_places x) rs → HasInfo arrays x.source x.from
    → HaveInfos arrays s.first (all_made (pairs_found s x (typed x.from.dtype (first_places x)) (first_places x) rs)) → SolveSteps arrays at (pairs_found s x (typed x.from.dtype (first_places x)) (first_places x) rs)
    → (idx : List ℕ) → IsInside x.made.dims idx
    → at (last_target (pairs_found s x (typed x.from.dtype (first_places x)) (first_places x) rs)) idx
    ≡ pair_part true (best_in x.least (map (sought_elements at x) (reduced_indices (sought_axes x.axis) x.from.dims x.made.dims idx)))
found_value arrays at s x [] k h t i o solve idx b =
    let whole : (first_places x).dims ≡ group_counts (whole_groups (sought_axes x.axis) x.from.dims) x.from.dims = ap (λ (g : RegularGrid). g.shape) (end_grid (sought_axes x.axis) x.from (first_places x) t.stands t.rule) in
    let inside = squeezed_inside (sought_axes x.axis) x.from x.made idx h.result b in
    solve (only_head s x) s.first idx (contains_head (only_head s x) []) (contains_first s.first [])
    ∙ pair_fold_value arrays at x None s.first s.first x.made idx h i o.0
    ∙ (λ j. pair_part (own_test s.first j) (best_in x.least (map (sought_elements at x) (group_indices (chunk_groups (sought_axes x.axis) (grid_of x.from)) x.from.dims (index_at (whole j) (place_of x.made.dims idx))))))
    ∙ ap (pair_part true)
    (end_found x.least (sought_axes x.axis) x.from.dims (first_places x).dims (sought_elements at x) _ whole (found_in_chunks at x h)
    (index_at (group_counts (whole_groups (sought_axes x.axis) x.from.dims) x.from.dims) (place_of x.made.dims idx))
    (subst (λ (cs : List ℕ). IsInside cs (index_at (group_counts (whole_groups (sought_axes x.axis) x.from.dims) x.from.dims) (place_of x.made.dims idx))) (sym whole) inside))
found_value arrays at s x (r ∷ rs) k h t i o solve idx b =
    pairs_value arrays at s x (sought_elements at x) s.first (first_places x) r rs (record { setting = k; search = h; turn = t; values = o.0; places = o.1.0 }) (two_on arrays s.first _ o.1.1)
    (solve_behind arrays at (first_head s x) (pair_merges s x s.first (typed x.from.dtype (first_places x)) (first_places x) (r ∷ rs)) solve)
    (same_found x.least (sought_axes x.axis) x.from.dims (first_places x).dims (sought_elements at x) _ (pair_at at s.first) here (found_in_chunks at x h))
    idx b
  where
    each : (a : ℕ) (p : List ℕ) → IsInside (first_places x).dims p → Contains (s.first ∷ (s.first + 1) ∷ []) a
        → at a p ≡ pair_part (a == s.first + 1) (best_in x.least (map (sought_elements at x) (group_indices (chunk_groups (sought_axes x.axis) (grid_of x.from)) x.from.dims p)))
    each a p m w =
        solve (first_head s x) a p (contains_head (first_head s x) (pair_merges s x s.first (typed x.from.dtype (first_places x)) (first_places x) (r ∷ rs))) w
        ∙ pair_fold_value arrays at x (Some s.first) (s.first + 1) a (first_places x) p h i o.1.0
        ∙ ap (λ (d : List ℕ). pair_part (a == s.first + 1) (best_in x.least (map (sought_elements at x) (group_indices (chunk_groups (sought_axes x.axis) (grid_of x.from)) x.from.dims d)))) (index-place (first_places x).dims p m)

    here : (p : List ℕ) → IsInside (first_places x).dims p → pair_at at s.first p ≡ best_in x.least (map (sought_elements at x) (group_indices (chunk_groups (sought_axes x.axis) (grid_of x.from)) x.from.dims p))
    here p m =
        both_parts (at s.first p) (at (s.first + 1) p) (s.first == s.first + 1) (s.first + 1 == s.first + 1) _ (other_test s.first (s.first + 1) (λ e. absurd (omega arith))) (own_test (s.first + 1))
        (each s.first p m (0, omega arith, refl)) (each (s.first + 1) p m (1, omega arith, refl))

pub search_value : (arrays : List ArrayInfo) (at : Elements) (s : Setting) (x : Search) → IsSetting s → IsSearch x → HasInfo arrays x.source x.from → HaveInfos arrays s.first (all_made (search_steps s x))
    → SolveSteps arrays at (search_steps s x) → (idx : List ℕ) → IsInside x.made.dims idx
    → at (last_target (search_steps s x)) idx ≡ pair_part true (best_in x.least (map (sought_elements at x) (reduced_indices (sought_axes x.axis) x.from.dims x.made.dims idx)))
search_value arrays at s x k h i o solve idx b = found_value arrays at s x (reduction_rounds (sought_axes x.axis) s.split_every x.from) k h (search_turn s x k h) i o solve idx b
