-- The elements of the arrays that a product of matrices makes.
use Rattle.std.proofs.Common.{◌≡◌, ℕ, ℤ, zero, suc, ◌+◌, ◌-◌, ◌*◌, ◌<◌, ◌≤◌, nat_le, Bool, true, false, List, [], ◌∷◌, ◌++◌, All, length, map, max, min, get_or, take, Option, None, refl, ap, sym, ◌∙◌, subst, arith, inl, inr}
use Rattle.std.specs.Int.{div_ceil}
use Rattle.std.specs.List.{range_with_len}
use Rattle.std.proofs.lemmas.List.{length-append, length-take-le, take_all}
use Rattle.std.proofs.lemmas.List.Elements.{All-append, All-get_or}
use Rattle.std.proofs.lemmas.Bool.Decides.{leb_tells}
use Rattle.cu_num.specs.declared.folds.FoldKind.TheVariants.{Sum}
use Rattle.cu_shape.specs.Index.{place_of, index_at, IsInside}
use Rattle.cu_shape.proofs.Places.{inside-length}
use Rattle.cu_shape.proofs.Rounded.{within_counts}
use Rattle.cu_reduce.specs.Folds.{reduced_to}
use Rattle.cu_reduce.specs.Groups.{groups_of, group_counts, group_indices}
use Rattle.cu_reduce.specs.Products.{outer_axes, left_index, right_index}
use Rattle.cu_reduce.proofs.Ranges.{map-map}
use Rattle.cu_origin.specs.Pull.{has_axis}
use Rattle.cu_op.specs.Matrix.{product_rank, rows_of, columns_of, left_inner, inner_places, product_at}
use Rattle.cu_op.specs.Elements.{Elements}
use Rattle.cu_op.specs.Value.{rule}
use Rattle.cu_op.specs.Kind.Mul.{products_at}
use Rattle.cu_op.specs.declared.layout.ArrayInfo.{ArrayInfo}
use Rattle.cu_op.specs.declared.operation.Op.TheVariants.{Mul}
use Rattle.cu_node.specs.declared.info.NodeInfo.{NodeInfo}
use Rattle.cu_tree.specs.Needs.{product_need}
use Rattle.cu_tree.specs.Partials.{first_partial, inner_count, product_partial, product_rounds, written_before}
use Rattle.cu_tree.specs.declared.round.Round.{Round}
use Rattle.cu_lower_reduce.specs.Partials.{IsSetting}
use Rattle.cu_lower_reduce.specs.Products.{multiplied, product_steps, inner_products, IsProduct}
use Rattle.cu_lower_reduce.specs.Reductions.{merges, whole_groups, reduced_indices}
use Rattle.cu_lower_reduce.specs.Steps.{grid_of, HasInfo, HaveInfos, all_made, SolveSteps}
use Rattle.cu_lower_reduce.specs.declared.product.Product.{Product}
use Rattle.cu_lower_reduce.specs.declared.step.Setting.{Setting}
use Rattle.cu_lower_reduce.specs.declared.step.Step.{Step}
use Rattle.cu_lower_reduce.proofs.Carrying.{IsCarried, same_map, first_carried}
use Rattle.cu_lower_reduce.proofs.Folds.{contains_first}
use Rattle.cu_lower_reduce.proofs.KindValues.{contains_head, solve_behind, merges_value}
use Rattle.cu_lower_reduce.proofs.LastAxis.{axis_alone, counts_last, group_last, split_inside, index_longer}
use Rattle.cu_lower_reduce.proofs.Lasts.{last_target}
use Rattle.cu_lower_reduce.proofs.Multiplied.{all_products, product_ranks, first_products, product_chain, product_turn, one_part}
use Rattle.cu_lower_reduce.proofs.Standing.{one_group}
use Rattle.cu_lower_reduce.proofs.Stepping.{IsTurn}
use Rattle.cu_node.specs.Info.{chunk_bytes}

-- ---- the products

abbrev pub one_product : Product → (List ℕ → Option ℤ) → (List ℕ → Option ℤ) → List ℕ → ℕ → Option ℤ
one_product x l r idx k = product_at (l (left_index x.left_info.dims x.right_info.dims idx k)) (r (right_index x.left_info.dims x.right_info.dims idx k))

-- in an array that has the inner axis behind the product's
abbrev pub product_in : Product → (List ℕ → Option ℤ) → (List ℕ → Option ℤ) → List ℕ → Option ℤ
product_in x l r j = one_product x l r (take (length x.made.dims) j) (get_or j (length x.made.dims) 0)

-- ---- how many axes the product has

outer_length : (ns : List ℕ) → (length (rows_of ns) ≡ outer_axes ns) × (length (columns_of ns) ≡ outer_axes ns)
outer_length ns = by_test ns (nat_le 2 (length ns)) refl
  where
    by_test : (ns : List ℕ) (b : Bool) → nat_le 2 (length ns) ≡ b → (length (rows_of ns) ≡ outer_axes ns) × (length (columns_of ns) ≡ outer_axes ns)
    by_test ns true e = rw e (refl, refl)
    by_test ns false e = rw e (refl, refl)

rank_is : (x : Product) → IsProduct x → product_rank x.left_info.dims x.right_info.dims ≡ length x.made.dims
rank_is x h =
    let s = ap length h.shape in
    let a = length-append (h.sizes ++ rows_of x.left_info.dims) (columns_of x.right_info.dims) in
    let b = length-append h.sizes (rows_of x.left_info.dims) in
    let r = (outer_length x.left_info.dims).0 in
    let c = (outer_length x.right_info.dims).1 in
    let n = h.rank in
    omega (arith, s, a, b, r, c, n)

-- ---- the rule

mul_value : (arrays : List ArrayInfo) (at : Elements) (x : Product) (out : ℕ) (o : NodeInfo) (idx : List ℕ) → IsProduct x → HasInfo arrays x.left x.left_info → HasInfo arrays x.right x.right_info → HasInfo arrays out o
    → o.dtype ≡ x.made.dtype → rule (Mul x.left x.right out) arrays at out idx
    ≡ reduced_to Sum x.made.dtype (map (one_product x (at x.left) (at x.right) (take (length x.made.dims) idx)) (inner_places (grid_of x.left_info) (get_or idx (length x.made.dims) 0)))
mul_value arrays at x out o idx h l r k t =
    (λ j. reduced_to Sum (k.dtype j) (products_at (l.grid j) (r.grid j) (at x.left) (at x.right) idx))
    ∙ (λ j. reduced_to Sum (t j) (map (one_product x (at x.left) (at x.right) (take (rank_is x h j) idx)) (inner_places (grid_of x.left_info) (get_or idx (rank_is x h j) 0))))

-- ---- the products of a part

pub parts_of : (is : List ℕ) (x r : ℕ) → length is ≡ r → (take r (is ++ x ∷ []) ≡ is) × (get_or (is ++ x ∷ []) r 0 ≡ x)
parts_of [] x zero e = (refl, refl)
parts_of [] x (suc r) e = absurd (omega arith)
parts_of (i ∷ is) x zero e = absurd (omega arith)
parts_of (i ∷ is) x (suc r) e = let p = parts_of is x r (omega arith) in (ap (λ (js : List ℕ). i ∷ js) p.0, p.1)

along_last : (x : Product) (l r : List ℕ → Option ℤ) (is ks : List ℕ) → length is ≡ length x.made.dims → map (product_in x l r) (map (λ k. is ++ k ∷ []) ks) ≡ map (one_product x l r is) ks
along_last x l r is ks e =
    map-map (product_in x l r) (λ k. is ++ k ∷ []) ks
    ∙ same_map (λ k. product_in x l r (is ++ k ∷ [])) (one_product x l r is) ks (λ k d b. let p = parts_of is (get_or ks k d) (length x.made.dims) e in (λ j. one_product x l r (p.0 j) (p.1 j)))

-- those of a group along the inner axis are those of a part
group_products : (x : Product) (l r : List ℕ → Option ℤ) (cs : List ℕ) (c p : ℕ) (is : List ℕ) → length cs ≡ length x.made.dims → length is ≡ length x.made.dims
    → map (product_in x l r) (group_indices (groups_of (has_axis (axis_alone (length x.made.dims))) (cs ++ c ∷ [])) (x.made.dims ++ left_inner x.left_info.dims ∷ []) (is ++ p ∷ []))
    ≡ map (one_product x l r is) (range_with_len (p * c) (min (left_inner x.left_info.dims) (suc p * c) - p * c))
group_products x l r cs c p is e f =
    ap (map (product_in x l r)) (group_last x.made.dims cs is (left_inner x.left_info.dims) c p e f)
    ∙ along_last x l r is (range_with_len (p * c) (min (left_inner x.left_info.dims) (suc p * c) - p * c)) f

-- the places of a part
places_of_part : (x : Product) (p : ℕ) → inner_places (grid_of x.left_info) p ≡ range_with_len (p * left_inner x.left_info.chunk) (min (left_inner x.left_info.dims) (suc p * left_inner x.left_info.chunk) - p * left_inner x.left_info.chunk)
places_of_part x p = let e : p + 1 ≡ suc p = omega arith in (λ j. range_with_len (p * left_inner x.left_info.chunk) (min (left_inner x.left_info.dims) (e j * left_inner x.left_info.chunk) - p * left_inner x.left_info.chunk))

part_carried : (x : Product) (l r : List ℕ → Option ℤ) (q : List ℕ) → IsProduct x → IsInside (product_partial x.left_info x.made).dims q
    → reduced_to Sum x.made.dtype (map (one_product x l r (take (length x.made.dims) q)) (inner_places (grid_of x.left_info) (get_or q (length x.made.dims) 0)))
    ≡ reduced_to Sum x.made.dtype (map (product_in x l r) (group_indices (groups_of (has_axis (axis_alone (length x.made.dims))) (all_products x).chunk) (all_products x).dims q))
part_carried x l r q h b =
    let n : length q ≡ length x.made.dims + 1 = inside-length (product_partial x.left_info x.made).dims q b ∙ length-append x.made.dims (max 1 (inner_count x.left_info) ∷ []) in
    let t : length (take (length x.made.dims) q) ≡ length x.made.dims = length-take-le (length x.made.dims) q (omega arith) in
    let s = split_inside x.made.dims (max 1 (inner_count x.left_info)) q b in
    ap (λ (ks : List ℕ). reduced_to Sum x.made.dtype (map (one_product x l r (take (length x.made.dims) q)) ks)) (places_of_part x (get_or q (length x.made.dims) 0))
    ∙ ap (reduced_to Sum x.made.dtype) (sym (group_products x l r x.made.chunk (left_inner x.left_info.chunk) (get_or q (length x.made.dims) 0) (take (length x.made.dims) q) h.made.ranks t))
    ∙ ap (λ (j : List ℕ). reduced_to Sum x.made.dtype (map (product_in x l r) (group_indices (groups_of (has_axis (axis_alone (length x.made.dims))) (all_products x).chunk) (all_products x).dims j))) (sym s)

-- ---- all inner places

-- the products of the whole inner axis
whole_products : (x : Product) (l r : List ℕ → Option ℤ) (idx : List ℕ) → IsInside x.made.dims idx
    → map (product_in x l r) (reduced_indices (axis_alone (length x.made.dims)) (all_products x).dims x.made.dims idx) ≡ inner_products x l r idx
whole_products x l r idx b =
    let k = left_inner x.left_info.dims in
    let z : length x.made.dims ≡ 0 + length x.made.dims = omega arith in
    let counts : group_counts (whole_groups (axis_alone (length x.made.dims)) (all_products x).dims) (all_products x).dims ≡ x.made.dims ++ 1 ∷ [] =
    counts_last (length x.made.dims) 0 x.made.dims x.made.dims (left_inner x.left_info.dims) (left_inner x.left_info.dims) refl z ∙ ap (λ (m : ℕ). x.made.dims ++ m ∷ []) (one_group (left_inner x.left_info.dims)) in
    let one : 1 * left_inner x.left_info.dims ≡ left_inner x.left_info.dims = omega arith in
    let none : 0 * left_inner x.left_info.dims ≡ 0 = omega arith in
    let all : min (left_inner x.left_info.dims) (1 * left_inner x.left_info.dims) - 0 * left_inner x.left_info.dims ≡ left_inner x.left_info.dims = omega arith in
    ap (λ (cs : List ℕ). map (product_in x l r) (group_indices (whole_groups (axis_alone (length x.made.dims)) (all_products x).dims) (all_products x).dims (index_at cs (place_of x.made.dims idx)))) counts
    ∙ ap (λ (j : List ℕ). map (product_in x l r) (group_indices (whole_groups (axis_alone (length x.made.dims)) (all_products x).dims) (all_products x).dims j)) (index_longer x.made.dims idx b)
    ∙ group_products x l r x.made.dims (left_inner x.left_info.dims) 0 idx refl (inside-length x.made.dims idx b)
    ∙ (λ j. map (one_product x l r idx) (range_with_len (none j) (all j)))

-- those of the only part
only_products : (x : Product) (l r : List ℕ → Option ℤ) (idx : List ℕ) → IsProduct x → inner_count x.left_info ≤ 1 → IsInside x.made.dims idx
    → map (one_product x l r (take (length x.made.dims) idx)) (inner_places (grid_of x.left_info) (get_or idx (length x.made.dims) 0)) ≡ inner_products x l r idx
only_products x l r idx h few b =
    let n = inside-length x.made.dims idx b in
    let t : take (length x.made.dims) idx ≡ idx = take_all (length x.made.dims) idx (omega arith) in
    let p : get_or idx (length x.made.dims) 0 ≡ 0 = get_or-past idx (length x.made.dims) (omega arith) in
    (λ j. map (one_product x l r (t j)) (inner_places (grid_of x.left_info) (p j)))
    ∙ ap (map (one_product x l r idx)) (only_places (left_inner x.left_info.dims) (left_inner x.left_info.chunk) (inner_positive x h) few)
  where
    get_or-past : (is : List ℕ) (k : ℕ) → length is ≤ k → get_or is k 0 ≡ 0
    get_or-past [] k e = refl
    get_or-past (i ∷ is) zero e = absurd (omega arith)
    get_or-past (i ∷ is) (suc k) e = get_or-past is k (omega arith)

    only_places : (n c : ℕ) → 0 < c → div_ceil n c ≤ 1 → range_with_len (0 * c) (min n ((0 + 1) * c) - 0 * c) ≡ range_with_len 0 n
    only_places n c pos one =
        let z : 0 * c ≡ 0 = omega arith in
        let w : 1 * c < n → 1 < div_ceil n c = within_counts n c 1 pos in
        let m : min n ((0 + 1) * c) - 0 * c ≡ n = by_order n c pos one w in
        (λ j. range_with_len (z j) (m j))
      where
        by_order : (n c : ℕ) → 0 < c → div_ceil n c ≤ 1 → (1 * c < n → 1 < div_ceil n c) → min n ((0 + 1) * c) - 0 * c ≡ n
        by_order n c pos one w = elim (leb_tells n c) [
          | inl q ↦ let k = q.1 in omega arith
          | inr q ↦ let k = q.1 in let v = w (omega arith) in absurd (omega arith)
        ]

    inner_positive : (x : Product) → IsProduct x → 0 < left_inner x.left_info.chunk
    inner_positive x h = let r = h.left.ranks in let m = h.left_rank in All-get_or (λ (c : ℕ). 0 < c) x.left_info.chunk (length x.left_info.chunk - 1) 0 (omega arith) h.left.positive

-- ---- the steps

abbrev mul_head : Setting → Product → NodeInfo → List Round → Step
mul_head s x i rs =
    record { op = Mul x.left x.right s.first; values = None; made = written_before rs i x.made; need = product_need s.reserved (chunk_bytes x.left_info) (chunk_bytes x.right_info) (chunk_bytes x.made) }

multiplied_value : (arrays : List ArrayInfo) (at : Elements) (s : Setting) (x : Product) (rs : List Round) → IsSetting s → IsProduct x
    → IsTurn s (axis_alone (length x.made.dims)) (all_products x) x.made (product_partial x.left_info x.made) rs
    → HasInfo arrays x.left x.left_info → HasInfo arrays x.right x.right_info → HaveInfos arrays s.first (all_made (multiplied s x (product_partial x.left_info x.made) rs))
    → SolveSteps arrays at (multiplied s x (product_partial x.left_info x.made) rs) → (idx : List ℕ) → IsInside x.made.dims idx
    → at (last_target (multiplied s x (product_partial x.left_info x.made) rs)) idx ≡ reduced_to Sum x.made.dtype (inner_products x (at x.left) (at x.right) idx)
multiplied_value arrays at s x [] k h t l r o solve idx b =
    solve (mul_head s x (product_partial x.left_info x.made) []) s.first idx (contains_head (mul_head s x (product_partial x.left_info x.made) []) []) (contains_first s.first [])
    ∙ mul_value arrays at x s.first x.made idx h l r o.0 refl
    ∙ ap (reduced_to Sum x.made.dtype) (only_products x (at x.left) (at x.right) idx h (one_part s x t) b)
multiplied_value arrays at s x (p ∷ rs) k h t l r o solve idx b =
    merges_value arrays at s Sum x.made.dtype (axis_alone (length x.made.dims)) (all_products x) x.made (product_in x (at x.left) (at x.right)) s.first (product_partial x.left_info x.made) p rs (product_chain s x k h)
    (record { types = h.integer; taken = λ i y m e. tt }) t o.0 o.1
    (solve_behind arrays at (mul_head s x (product_partial x.left_info x.made) (p ∷ rs)) (merges s Sum x.made s.first (product_partial x.left_info x.made) (p ∷ rs)) solve)
    carried idx b
    ∙ ap (reduced_to Sum x.made.dtype) (whole_products x (at x.left) (at x.right) idx b)
  where
    here : (q : List ℕ) → IsInside (product_partial x.left_info x.made).dims q → at s.first q
        ≡ reduced_to Sum x.made.dtype (map (product_in x (at x.left) (at x.right)) (group_indices (groups_of (has_axis (axis_alone (length x.made.dims))) (all_products x).chunk) (all_products x).dims q))
    here q m =
        solve (mul_head s x (product_partial x.left_info x.made) (p ∷ rs)) s.first q (contains_head (mul_head s x (product_partial x.left_info x.made) (p ∷ rs)) (merges s Sum x.made s.first (product_partial x.left_info x.made) (p ∷ rs))) (contains_first s.first [])
        ∙ mul_value arrays at x s.first (product_partial x.left_info x.made) q h l r o.0 refl
        ∙ part_carried x (at x.left) (at x.right) q h m

    same : (first_partial x.made.dtype (axis_alone (length x.made.dims)) (all_products x)).dims ≡ (product_partial x.left_info x.made).dims
    same = ap (λ (i : NodeInfo). i.dims) (first_products x h)

    positive : All (λ (c : ℕ). 0 < c) (all_products x).chunk
    positive = All-append (λ (c : ℕ). 0 < c) x.made.chunk (left_inner x.left_info.chunk ∷ []) h.made.positive last
      where
        last : All (λ (c : ℕ). 0 < c) (left_inner x.left_info.chunk ∷ [])
        last zero d m = let u = h.left.ranks in let v = h.left_rank in All-get_or (λ (c : ℕ). 0 < c) x.left_info.chunk (length x.left_info.chunk - 1) 0 (omega arith) h.left.positive
        last (suc n) d m = absurd (omega arith)

    carried : IsCarried Sum x.made.dtype (axis_alone (length x.made.dims)) (all_products x).dims (product_partial x.left_info x.made).dims (product_in x (at x.left) (at x.right)) (at s.first)
    carried =
        subst (λ (counts : List ℕ). IsCarried Sum x.made.dtype (axis_alone (length x.made.dims)) (all_products x).dims counts (product_in x (at x.left) (at x.right)) (at s.first)) same
        (first_carried Sum x.made.dtype (axis_alone (length x.made.dims)) (all_products x).dims (all_products x).chunk (product_in x (at x.left) (at x.right)) (at s.first) (product_ranks x h) positive tt
        (λ q m. here q (subst (λ (counts : List ℕ). IsInside counts q) same m)))

pub product_value : (arrays : List ArrayInfo) (at : Elements) (s : Setting) (x : Product) → IsSetting s → IsProduct x → HasInfo arrays x.left x.left_info → HasInfo arrays x.right x.right_info
    → HaveInfos arrays s.first (all_made (product_steps s x)) → SolveSteps arrays at (product_steps s x) → (idx : List ℕ) → IsInside x.made.dims idx
    → at (last_target (product_steps s x)) idx ≡ reduced_to Sum x.made.dtype (inner_products x (at x.left) (at x.right) idx)
product_value arrays at s x k h l r o solve idx b = multiplied_value arrays at s x (product_rounds s.split_every x.left_info x.made) k h (product_turn s x k h) l r o solve idx b
