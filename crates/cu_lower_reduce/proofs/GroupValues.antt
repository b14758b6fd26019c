-- The elements of the arrays that a fold by labels makes. An element with another label counts as the unit, so a group is what is made of
-- all elements of the axis.
use Rattle.std.proofs.Common.{◌≡◌, ℕ, ℤ, zero, suc, ◌+◌, ◌-◌, ◌*◌, ◌<◌, ◌≤◌, true, false, List, [], ◌∷◌, ◌++◌, All, length, map, max, min, get_or, take, slice_index, slice_set, Option, Some, refl, ap, sym, ◌∙◌, subst, arith, inl, inr, ⊎_elim}
use Rattle.std.specs.Prelude.{option_map}
use Rattle.std.specs.Int.{div_ceil}
use Rattle.std.specs.List.{range_with_len}
use Rattle.std.proofs.lemmas.Bool.{cases_lt}
use Rattle.std.proofs.lemmas.Bool.Decides.{eqb_tells}
use Rattle.std.proofs.lemmas.List.{take_all}
use Rattle.std.proofs.lemmas.List.FromFn.{length-map-range_with_len}
use Rattle.std.proofs.lemmas.List.Elements.{All-nil, All-cons, All-append}
use Rattle.std.proofs.Math.Seq.{get_or-append_seam}
use Rattle.cu_num.specs.Dtype.{InRange}
use Rattle.cu_shape.specs.Index.{place_of, index_at, IsInside}
use Rattle.cu_shape.proofs.Places.{inside-length}
use Rattle.cu_shape.proofs.Rounded.{before_end, within_counts}
use Rattle.cu_reduce.specs.Folds.{reduced_to}
use Rattle.cu_reduce.specs.Groups.{groups_from, groups_of, group_counts, group_indices, HasElements}
use Rattle.cu_reduce.specs.Kinds.{IsTaken}
use Rattle.cu_reduce.specs.Labels.{with_label, marked, grouped_to, chunk_places}
use Rattle.cu_reduce.proofs.Ranges.{map-map}
use Rattle.cu_along.proofs.Members.{counted, TakesElement, grouped_reduced}
use Rattle.cu_along.proofs.Merging.{enough_of, element_there, counted_there}
use Rattle.cu_origin.specs.Pull.{has_axis}
use Rattle.cu_op.specs.Elements.{Elements}
use Rattle.cu_op.specs.Grouping.{source_index, part_places}
use Rattle.cu_op.specs.Value.{rule}
use Rattle.cu_op.specs.declared.layout.ArrayInfo.{ArrayInfo}
use Rattle.cu_node.specs.declared.info.NodeInfo.{NodeInfo}
use Rattle.cu_tree.specs.Partials.{first_partial, inner_count, product_rounds}
use Rattle.cu_tree.specs.declared.round.Round.{Round}
use Rattle.cu_lower_reduce.specs.Grouped.{chunk_groups_step, grouped_fold, labels_folded, grouped_steps, labelled_line, IsGrouped}
use Rattle.cu_lower_reduce.specs.Partials.{IsSetting}
use Rattle.cu_lower_reduce.specs.Reductions.{merges, whole_groups, reduced_indices}
use Rattle.cu_lower_reduce.specs.Steps.{HasInfo, HaveInfos, all_made, SolveSteps}
use Rattle.cu_lower_reduce.specs.declared.grouped.Grouped.{Grouped}
use Rattle.cu_lower_reduce.specs.declared.step.Setting.{Setting}
use Rattle.cu_lower_reduce.proofs.Along.{has_enough}
use Rattle.cu_lower_reduce.proofs.Carrying.{IsCarried, AreTaken, same_map, first_carried}
use Rattle.cu_lower_reduce.proofs.Folds.{contains_first}
use Rattle.cu_lower_reduce.proofs.GroupSteps.{axis_size, axis_chunk, chunk_positive, same_count, rank_same, all_labelled, labels_axis, parts_of_labels, IsGroupTurn, labelled_ranks, first_groups, grouped_chain, grouped_turn, one_chunk}
use Rattle.cu_lower_reduce.proofs.KindValues.{contains_head, solve_behind, merges_value, all_taken}
use Rattle.cu_lower_reduce.proofs.LastAxis.{axis_alone, has_own, has_other, counts_last, group_last, split_inside, index_longer}
use Rattle.cu_lower_reduce.proofs.Lasts.{last_target}
use Rattle.cu_lower_reduce.proofs.ProductValues.{parts_of}
use Rattle.cu_lower_reduce.proofs.Standing.{one_group}

-- ---- an element as it counts in its group

-- the group of the result's element at an index, of these places of the axis
abbrev pub group_of_places : Grouped → (List ℕ → Option ℤ) → (List ℕ → Option ℤ) → List ℕ → List ℕ → Option ℤ
group_of_places x e l is places = grouped_to x.kind x.made.dtype (slice_index is x.axis) (marked (λ k. l (k ∷ [])) (λ k. e (slice_set is x.axis k)) places)

abbrev pub one_counted : Grouped → (List ℕ → Option ℤ) → (List ℕ → Option ℤ) → List ℕ → ℕ → Option ℤ
one_counted x e l is k = option_map (counted x.kind x.made.dtype (slice_index is x.axis)) (with_label (l (k ∷ [])) (e (slice_set is x.axis k)))

-- in an array that has the axis behind the result's
abbrev pub counted_in : Grouped → (List ℕ → Option ℤ) → (List ℕ → Option ℤ) → List ℕ → Option ℤ
counted_in x e l j = one_counted x e l (take (length x.made.dims) j) (get_or j (length x.made.dims) 0)

-- ---- indices

front_inside : (ns : List ℕ) (m : ℕ) (q : List ℕ) → IsInside (ns ++ m ∷ []) q
    → IsInside ns (take (length ns) q) × (get_or q (length ns) 0 < m)
front_inside [] m [] b = absurd b
front_inside [] m (i ∷ []) b = (tt, b.0)
front_inside [] m (i ∷ j ∷ is) b = absurd b.1
front_inside (n ∷ ns) m [] b = absurd b
front_inside (n ∷ ns) m (i ∷ is) b = let r = front_inside ns m is b.1 in ((b.0, r.0), r.1)

-- a place of the source's axis where the result has a group
moved_inside : (ns is : List ℕ) (axis g k : ℕ) → axis < length ns → k < slice_index ns axis → IsInside (slice_set ns axis g) is
    → IsInside ns (slice_set is axis k)
moved_inside [] is axis g k a h b = absurd (omega arith)
moved_inside (n ∷ ns) [] zero g k a h b = absurd b
moved_inside (n ∷ ns) [] (suc d) g k a h b = absurd b
moved_inside (n ∷ ns) (i ∷ is) zero g k a h b = (h, b.1)
moved_inside (n ∷ ns) (i ∷ is) (suc d) g k a h b = (b.0, moved_inside ns is d g k (omega arith) h b.1)

group_number : (q : List ℕ) (axis r : ℕ) → axis < r → slice_index q axis ≡ slice_index (take r q) axis
group_number q axis zero h = absurd (omega arith)
group_number [] axis (suc r) h = refl
group_number (i ∷ q) zero (suc r) h = refl
group_number (i ∷ q) (suc axis) (suc r) h = group_number q axis r (omega arith)

get_or-past : (is : List ℕ) (k : ℕ) → length is ≤ k → get_or is k 0 ≡ 0
get_or-past [] k e = refl
get_or-past (i ∷ is) zero e = absurd (omega arith)
get_or-past (i ∷ is) (suc k) e = get_or-past is k (omega arith)

-- ---- places

-- those of a part that there is
places_of_part : (n c p : ℕ) → 0 < c → 0 < n → p < max 1 (div_ceil n c)
    → (chunk_places c n p ≡ range_with_len (p * c) (min n (suc p * c) - p * c)) × ((p * c < n) × (0 < min n (suc p * c) - p * c))
places_of_part n c p pos some b =
    let o : p * c < n = in_axis in
    let s : suc p * c ≡ p * c + c = omega arith in
    let m : min n (p * c) ≡ p * c = omega arith in
    ((λ j. range_with_len (m j) (min n (suc p * c) - m j)), (o, omega (arith, s, o)))
  where
    in_axis : p * c < n
    in_axis = ⊎_elim
        (λ inside. before_end n c p pos inside)
        (λ past. let z : p ≡ 0 = omega arith in let e : p * c ≡ 0 * c = ap (λ k. k * c) z in let f : 0 * c ≡ 0 = omega arith in omega (arith, e, f))
        (cases_lt p (div_ceil n c))

-- those of the only part
only_places : (n c p : ℕ) → 0 < c → div_ceil n c ≤ 1 → p ≡ 0 → chunk_places c n p ≡ range_with_len 0 n
only_places n c p pos one e =
    let z : min n (0 * c) ≡ 0 = omega arith in
    let w : 1 * c < n → 1 < div_ceil n c = within_counts n c 1 pos in
    let m : min n (suc 0 * c) ≡ n = by_order n c one w in
    let a : min n (suc 0 * c) - min n (0 * c) ≡ n = omega (arith, z, m) in
    ap (chunk_places c n) e ∙ (λ j. range_with_len (z j) (a j))
  where
    by_order : (n c : ℕ) → div_ceil n c ≤ 1 → (1 * c < n → 1 < div_ceil n c) → min n (suc 0 * c) ≡ n
    by_order n c one w = ⊎_elim (λ inside. let v = w inside in absurd (omega arith)) (λ past. omega arith) (cases_lt (1 * c) n)

-- ---- the rule

group_value : (arrays : List ArrayInfo) (at : Elements) (x : Grouped) (out : ℕ) (o : NodeInfo) (idx : List ℕ) → IsGrouped x
    → HasInfo arrays x.source x.source_info → HasInfo arrays out o → o.dtype ≡ x.made.dtype
    → rule (grouped_fold x out) arrays at out idx
    ≡ group_of_places x (at x.source) (at x.labels) (take (length x.made.dims) idx) (chunk_places (axis_chunk x) (axis_size x) (get_or idx (length x.made.dims) 0))
group_value arrays at x out o idx h l k t =
    let r = rank_same x h in
    let a = h.along in
    let q : slice_index idx x.axis ≡ slice_index (take (length x.made.dims) idx) x.axis = group_number idx x.axis (length x.made.dims) (omega (arith, r, a)) in
    (λ j. grouped_to x.kind (k.dtype j) (slice_index idx x.axis) (marked (λ m. at x.labels (m ∷ [])) (λ m. at x.source (source_index (l.grid j) x.axis idx m)) (part_places (l.grid j) x.axis idx)))
    ∙ (λ j. grouped_to x.kind (t j) (q j) (marked (λ m. at x.labels (m ∷ [])) (λ m. at x.source (slice_set (take (r j) idx) x.axis m)) (chunk_places (axis_chunk x) (axis_size x) (get_or idx (r j) 0))))

-- ---- a group as a reduction of what all elements count as

module _ (x : Grouped) (e l : List ℕ → Option ℤ) (h : IsGrouped x) (taken : AreTaken x.kind x.made.dtype x.source_info.dims e) where
  taken_at : (is : List ℕ) (k : ℕ) → IsInside x.made.dims is → k < axis_size x → (y : ℤ) → e (slice_set is x.axis k) ≡ Some y
      → IsTaken x.kind x.made.dtype y
  taken_at is k b m y t = taken (slice_set is x.axis k) y (moved_inside x.source_info.dims is x.axis x.groups k h.along m (subst (λ (ns : List ℕ). IsInside ns is) h.shape b)) t

  marked_taken : (is : List ℕ) (from len : ℕ) → IsInside x.made.dims is → from + len ≤ axis_size x
      → All (TakesElement x.kind x.made.dtype) (marked (λ k. l (k ∷ [])) (λ k. e (slice_set is x.axis k)) (range_with_len from len))
  marked_taken is from zero b m = All-nil (TakesElement x.kind x.made.dtype)
  marked_taken is from (suc len) b m =
      All-cons (TakesElement x.kind x.made.dtype) (with_label (l (from ∷ [])) (e (slice_set is x.axis from)))
      (marked (λ k. l (k ∷ [])) (λ k. e (slice_set is x.axis k)) (range_with_len (from + 1) len))
      (element_there x.kind x.made.dtype (l (from ∷ [])) (e (slice_set is x.axis from)) (taken_at is from b (omega arith)))
      (marked_taken is (from + 1) len b (omega arith))

  group_counted : (is : List ℕ) (from len : ℕ) → IsInside x.made.dims is → 0 < len → from + len ≤ axis_size x
      → group_of_places x e l is (range_with_len from len) ≡ reduced_to x.kind x.made.dtype (map (one_counted x e l is) (range_with_len from len))
  group_counted is from len b some m =
      let long : length (marked (λ k. l (k ∷ [])) (λ k. e (slice_set is x.axis k)) (range_with_len from len)) ≡ len
      = length-map-range_with_len (λ k. with_label (l (k ∷ [])) (e (slice_set is x.axis k))) from len in
      grouped_reduced x.kind x.source_info.dtype x.made.dtype (slice_index is x.axis) (marked (λ k. l (k ∷ [])) (λ k. e (slice_set is x.axis k)) (range_with_len from len)) h.types
      (enough_of x.kind (length (marked (λ k. l (k ∷ [])) (λ k. e (slice_set is x.axis k)) (range_with_len from len))) (omega arith))
      (marked_taken is from len b m)
      ∙ ap (reduced_to x.kind x.made.dtype) (map-map (option_map (counted x.kind x.made.dtype (slice_index is x.axis))) (λ k. with_label (l (k ∷ [])) (e (slice_set is x.axis k))) (range_with_len from len))

  -- what is counted is taken
  pub counted_taken : AreTaken x.kind x.made.dtype (all_labelled x).dims (counted_in x e l)
  counted_taken i y b t =
      let f = front_inside x.made.dims (axis_size x) i b in
      counted_there x.kind x.made.dtype (slice_index (take (length x.made.dims) i) x.axis)
      (with_label (l (get_or i (length x.made.dims) 0 ∷ [])) (e (slice_set (take (length x.made.dims) i) x.axis (get_or i (length x.made.dims) 0))))
      (element_there x.kind x.made.dtype (l (get_or i (length x.made.dims) 0 ∷ [])) (e (slice_set (take (length x.made.dims) i) x.axis (get_or i (length x.made.dims) 0)))
      (taken_at (take (length x.made.dims) i) (get_or i (length x.made.dims) 0) f.0 f.1)) y t

  -- ---- along the last axis

  along_last : (is ks : List ℕ) → length is ≡ length x.made.dims
      → map (counted_in x e l) (map (λ k. is ++ k ∷ []) ks) ≡ map (one_counted x e l is) ks
  along_last is ks n =
      map-map (counted_in x e l) (λ k. is ++ k ∷ []) ks
      ∙ same_map (λ k. counted_in x e l (is ++ k ∷ [])) (one_counted x e l is) ks (λ k d b. let p = parts_of is (get_or ks k d) (length x.made.dims) n in (λ j. one_counted x e l (p.0 j) (p.1 j)))

  -- those of a group along it are those of a part
  counted_places : (cs : List ℕ) (c p : ℕ) (is : List ℕ) → length cs ≡ length x.made.dims → length is ≡ length x.made.dims
      → map (counted_in x e l) (group_indices (groups_of (has_axis (labels_axis x)) (cs ++ c ∷ [])) (x.made.dims ++ axis_size x ∷ []) (is ++ p ∷ []))
      ≡ map (one_counted x e l is) (range_with_len (p * c) (min (axis_size x) (suc p * c) - p * c))
  counted_places cs c p is m n =
      ap (map (counted_in x e l)) (group_last x.made.dims cs is (axis_size x) c p m n)
      ∙ along_last is (range_with_len (p * c) (min (axis_size x) (suc p * c) - p * c)) n

  pub part_carried : (q : List ℕ) → 0 < axis_size x → IsInside (parts_of_labels x).dims q
      → group_of_places x e l (take (length x.made.dims) q) (chunk_places (axis_chunk x) (axis_size x) (get_or q (length x.made.dims) 0))
      ≡ reduced_to x.kind x.made.dtype (map (counted_in x e l) (group_indices (groups_of (has_axis (labels_axis x)) (all_labelled x).chunk) (all_labelled x).dims q))
  part_carried q some b =
      let f = front_inside x.made.dims (max 1 (inner_count x.labels_info)) q b in
      let n = same_count x h in
      let g = f.1 in
      let w = places_of_part (axis_size x) (axis_chunk x) (get_or q (length x.made.dims) 0) (chunk_positive x h) some (omega (arith, n, g)) in
      let u = w.1 in
      ap (group_of_places x e l (take (length x.made.dims) q)) w.0
      ∙ group_counted (take (length x.made.dims) q) (get_or q (length x.made.dims) 0 * axis_chunk x) (min (axis_size x) (suc (get_or q (length x.made.dims) 0) * axis_chunk x) - get_or q (length x.made.dims) 0 * axis_chunk x)
      f.0 u.1 (let o = u.0 in omega (arith, o))
      ∙ ap (reduced_to x.kind x.made.dtype) (sym (counted_places x.made.chunk (axis_chunk x) (get_or q (length x.made.dims) 0) (take (length x.made.dims) q) h.made.ranks (inside-length x.made.dims (take (length x.made.dims) q) f.0)))
      ∙ ap (λ (j : List ℕ). reduced_to x.kind x.made.dtype (map (counted_in x e l) (group_indices (groups_of (has_axis (labels_axis x)) (all_labelled x).chunk) (all_labelled x).dims j)))
      (sym (split_inside x.made.dims (max 1 (inner_count x.labels_info)) q b))

  -- ---- the whole axis

  pub whole_group : (idx : List ℕ) → 0 < axis_size x → IsInside x.made.dims idx
      → reduced_to x.kind x.made.dtype (map (counted_in x e l) (reduced_indices (labels_axis x) (all_labelled x).dims x.made.dims idx))
      ≡ grouped_to x.kind x.made.dtype (slice_index idx x.axis) (labelled_line x e l idx)
  whole_group idx some b =
      let z : length x.made.dims ≡ 0 + length x.made.dims = omega arith in
      let counts : group_counts (whole_groups (labels_axis x) (all_labelled x).dims) (all_labelled x).dims ≡ x.made.dims ++ 1 ∷ [] =
      counts_last (length x.made.dims) 0 x.made.dims x.made.dims (axis_size x) (axis_size x) refl z ∙ ap (λ (m : ℕ). x.made.dims ++ m ∷ []) (one_group (axis_size x)) in
      let none : 0 * axis_size x ≡ 0 = omega arith in
      let all : min (axis_size x) (1 * axis_size x) - 0 * axis_size x ≡ axis_size x = omega arith in
      ap (reduced_to x.kind x.made.dtype)
      (ap (λ (cs : List ℕ). map (counted_in x e l) (group_indices (whole_groups (labels_axis x) (all_labelled x).dims) (all_labelled x).dims (index_at cs (place_of x.made.dims idx)))) counts
      ∙ ap (λ (j : List ℕ). map (counted_in x e l) (group_indices (whole_groups (labels_axis x) (all_labelled x).dims) (all_labelled x).dims j)) (index_longer x.made.dims idx b)
      ∙ counted_places x.made.dims (axis_size x) 0 idx refl (inside-length x.made.dims idx b)
      ∙ (λ j. map (one_counted x e l idx) (range_with_len (none j) (all j))))
      ∙ sym (group_counted idx 0 (axis_size x) b some (omega arith))

-- the group of the only part
only_group : (x : Grouped) (e l : List ℕ → Option ℤ) (idx : List ℕ) → IsGrouped x → div_ceil (axis_size x) (axis_chunk x) ≤ 1
    → IsInside x.made.dims idx
    → group_of_places x e l (take (length x.made.dims) idx) (chunk_places (axis_chunk x) (axis_size x) (get_or idx (length x.made.dims) 0))
    ≡ grouped_to x.kind x.made.dtype (slice_index idx x.axis) (labelled_line x e l idx)
only_group x e l idx h few b =
    let n = inside-length x.made.dims idx b in
    let t : take (length x.made.dims) idx ≡ idx = take_all (length x.made.dims) idx (omega arith) in
    let p : get_or idx (length x.made.dims) 0 ≡ 0 = get_or-past idx (length x.made.dims) (omega arith) in
    let w = only_places (axis_size x) (axis_chunk x) (get_or idx (length x.made.dims) 0) (chunk_positive x h) few p in
    (λ j. group_of_places x e l (t j) (w j))

-- ---- an axis with several chunks has elements

several_chunks : (s : Setting) (x : Grouped) (p : Round) (rs : List Round) → IsGrouped x
    → IsGroupTurn s x (p ∷ rs) → 0 < axis_size x
several_chunks s x p rs h t =
    let r = t.rule.0 in
    let f = r.from in
    let v = r.several in
    let d = r.reduced in
    elim (eqb_tells p.axis (length x.made.dims)) [
      | inl q ↦ let e = q.1 in
          let c = same_count x h in
          let a = get_or-append_seam x.made.dims (max 1 (inner_count x.labels_info)) [] 0 in
          let g : p.from ≡ max 1 (inner_count x.labels_info) = f ∙ ap (λ k. get_or (parts_of_labels x).dims k 0) e ∙ a in
          some_of (axis_size x) (axis_chunk x) (omega (arith, c, g, v))
      | inr q ↦ let o = has_other (length x.made.dims) p.axis q.1 in absurd (let w : true ≡ false = sym d ∙ o in cc w)
    ]
  where
    some_of : (n c : ℕ) → 1 < div_ceil n c → 0 < n
    some_of zero c m = absurd (omega arith)
    some_of (suc n) c m = omega arith

elements_last : (r first : ℕ) (ns cs : List ℕ) (n c : ℕ) → length cs ≡ length ns → r ≡ first + length ns → 0 < n
    → HasElements (groups_from (has_axis (axis_alone r)) first (cs ++ c ∷ [])) (ns ++ n ∷ [])
elements_last r first [] [] n c e h b = let t = has_own r first (omega arith) in rw t (b, tt)
elements_last r first [] (d ∷ cs) n c e h b = absurd (omega arith)
elements_last r first (m ∷ ns) [] n c e h b = absurd (omega arith)
elements_last r first (m ∷ ns) (d ∷ cs) n c e h b =
    let t = has_other r first (λ q. absurd (omega arith)) in
    rw t (elements_last r (first + 1) ns cs n c (omega arith) (omega arith) b)

-- ---- the steps

folded_value : (arrays : List ArrayInfo) (at : Elements) (s : Setting) (x : Grouped) (rs : List Round) → IsSetting s → IsGrouped x
    → IsGroupTurn s x rs
    → HasInfo arrays x.source x.source_info → HaveInfos arrays s.first (all_made (labels_folded s x (parts_of_labels x) rs))
    → SolveSteps arrays at (labels_folded s x (parts_of_labels x) rs) → AreTaken x.kind x.made.dtype x.source_info.dims (at x.source)
    → (idx : List ℕ) → IsInside x.made.dims idx
    → at (last_target (labels_folded s x (parts_of_labels x) rs)) idx ≡ grouped_to x.kind x.made.dtype (slice_index idx x.axis) (labelled_line x (at x.source) (at x.labels) idx)
folded_value arrays at s x [] k h t l o solve taken idx b =
    solve (chunk_groups_step s x (parts_of_labels x) []) s.first idx (contains_head (chunk_groups_step s x (parts_of_labels x) []) []) (contains_first s.first [])
    ∙ group_value arrays at x s.first x.made idx h l o.0 refl
    ∙ only_group x (at x.source) (at x.labels) idx h (one_chunk s x h t) b
folded_value arrays at s x (p ∷ rs) k h t l o solve taken idx b =
    merges_value arrays at s x.kind x.source_info.dtype (labels_axis x) (all_labelled x) x.made (counted_in x (at x.source) (at x.labels)) s.first (parts_of_labels x) p rs (grouped_chain s x k h)
    (record { types = h.types; taken = counted_taken x (at x.source) (at x.labels) h taken }) t o.0 o.1
    (solve_behind arrays at (chunk_groups_step s x (parts_of_labels x) (p ∷ rs)) (merges s x.kind x.made s.first (parts_of_labels x) (p ∷ rs)) solve)
    carried idx b
    ∙ whole_group x (at x.source) (at x.labels) h taken idx some b
  where
    some : 0 < axis_size x
    some = several_chunks s x p rs h t

    here : (q : List ℕ) → IsInside (parts_of_labels x).dims q → at s.first q
        ≡ reduced_to x.kind x.made.dtype (map (counted_in x (at x.source) (at x.labels)) (group_indices (groups_of (has_axis (labels_axis x)) (all_labelled x).chunk) (all_labelled x).dims q))
    here q m =
        solve (chunk_groups_step s x (parts_of_labels x) (p ∷ rs)) s.first q (contains_head (chunk_groups_step s x (parts_of_labels x) (p ∷ rs)) (merges s x.kind x.made s.first (parts_of_labels x) (p ∷ rs))) (contains_first s.first [])
        ∙ group_value arrays at x s.first (parts_of_labels x) q h l o.0 refl
        ∙ part_carried x (at x.source) (at x.labels) h taken q some m

    same : (first_partial x.made.dtype (labels_axis x) (all_labelled x)).dims ≡ (parts_of_labels x).dims
    same = ap (λ (i : NodeInfo). i.dims) (first_groups x h)

    positive : All (λ (c : ℕ). 0 < c) (all_labelled x).chunk
    positive = All-append (λ (c : ℕ). 0 < c) x.made.chunk (axis_chunk x ∷ []) h.made.positive last
      where
        last : All (λ (c : ℕ). 0 < c) (axis_chunk x ∷ [])
        last zero d m = chunk_positive x h
        last (suc n) d m = absurd (omega arith)

    carried : IsCarried x.kind x.made.dtype (labels_axis x) (all_labelled x).dims (parts_of_labels x).dims (counted_in x (at x.source) (at x.labels)) (at s.first)
    carried =
        subst (λ (counts : List ℕ). IsCarried x.kind x.made.dtype (labels_axis x) (all_labelled x).dims counts (counted_in x (at x.source) (at x.labels)) (at s.first)) same
        (first_carried x.kind x.made.dtype (labels_axis x) (all_labelled x).dims (all_labelled x).chunk (counted_in x (at x.source) (at x.labels)) (at s.first) (labelled_ranks x h) positive
        (has_enough x.kind (groups_of (has_axis (labels_axis x)) (all_labelled x).chunk) (all_labelled x).dims
        (elements_last (length x.made.dims) 0 x.made.dims x.made.chunk (axis_size x) (axis_chunk x) h.made.ranks (omega arith) some))
        (λ q m. here q (subst (λ (counts : List ℕ). IsInside counts q) same m)))

pub grouped_value : (arrays : List ArrayInfo) (at : Elements) (s : Setting) (x : Grouped) → IsSetting s → IsGrouped x
    → HasInfo arrays x.source x.source_info → HasInfo arrays x.labels x.labels_info
    → HaveInfos arrays s.first (all_made (grouped_steps s x)) → SolveSteps arrays at (grouped_steps s x)
    → ((i : List ℕ) (y : ℤ) → IsInside x.source_info.dims i → at x.source i ≡ Some y → InRange x.source_info.dtype y) → (idx : List ℕ)
    → IsInside x.made.dims idx
    → at (last_target (grouped_steps s x)) idx ≡ grouped_to x.kind x.made.dtype (slice_index idx x.axis) (labelled_line x (at x.source) (at x.labels) idx)
grouped_value arrays at s x k h l r o solve ranges idx b =
    folded_value arrays at s x (product_rounds s.split_every x.labels_info x.made) k h (grouped_turn s x k h) l o solve
    (all_taken x.kind x.source_info.dtype x.made.dtype x.source_info.dims (at x.source) h.types ranges) idx b
