-- Arrays with one more, last axis, along which they are reduced.
use Rattle.std.proofs.Common.{◌≡◌, ◌≢◌, ℕ, zero, suc, ◌+◌, ◌-◌, ◌*◌, ◌^◌, ◌<◌, true, false, List, [], ◌∷◌, ◌++◌, length, map, max, min, get_or, take, refl, ap, sym, ◌∙◌, subst, arith}
use Rattle.std.specs.Int.{div_ceil}
use Rattle.std.specs.List.{range_with_len, flat_map}
use Rattle.std.proofs.lemmas.List.{length-append}
use Rattle.cu_reduce.proofs.Ranges.{map-map}
use Rattle.std.proofs.lemmas.Nat.Bits.{bit_at-pow_same, bit_at-pow_other}
use Rattle.cu_num.specs.declared.types.Dtype.{Dtype}
use Rattle.cu_shape.specs.Index.{product, place_of, index_at, IsInside}
use Rattle.cu_shape.proofs.Places.{index-place}
use Rattle.cu_grid.specs.Grid.{RegularGrid}
use Rattle.cu_reduce.specs.Groups.{groups_from, groups_of, group_counts, group_lo, group_hi, group_indices}
use Rattle.cu_reduce.specs.Regions.{region_indices}
use Rattle.cu_reduce.proofs.Regions.{region_front, region_one}
use Rattle.cu_origin.specs.Pull.{has_axis}
use Rattle.cu_origin.specs.declared.axes.Axes.{Axes}
use Rattle.cu_op.specs.Partial.{partial_grid, IsSqueezed}
use Rattle.cu_node.specs.Info.{info_of}
use Rattle.cu_node.specs.declared.info.NodeInfo.{NodeInfo}
use Rattle.cu_tree.specs.Partials.{partial_chunk_from}
use Rattle.cu_lower_reduce.specs.Reductions.{whole_groups}
use Rattle.cu_lower_reduce.specs.Steps.{grid_of}
use Rattle.cu_lower_reduce.proofs.Squeezed.{same_chunks, without_last}
use Rattle.cu_lower_reduce.proofs.Standing.{one_group}

-- the set of one axis
abbrev pub axis_alone : ℕ → Axes
axis_alone axis = record { 0 = 2 ^ axis }

-- a grid with one more axis
abbrev pub longer : Dtype → List ℕ → List ℕ → ℕ → ℕ → NodeInfo
longer t ns cs n c = info_of t (ns ++ n ∷ []) (cs ++ c ∷ [])

pub has_own : (r d : ℕ) → d ≡ r → has_axis (axis_alone r) d ≡ true
has_own r d e = subst (λ (k : ℕ). has_axis (axis_alone r) k ≡ true) (sym e) (rw (bit_at-pow_same r) refl)

pub has_other : (r d : ℕ) → d ≢ r → has_axis (axis_alone r) d ≡ false
has_other r d h = rw (bit_at-pow_other r d h) refl

-- ---- counts and chunks

pub counts_last : (r first : ℕ) (ns cs : List ℕ) (n c : ℕ) → length cs ≡ length ns → r ≡ first + length ns
    → group_counts (groups_from (has_axis (axis_alone r)) first (cs ++ c ∷ [])) (ns ++ n ∷ []) ≡ ns ++ max 1 (div_ceil n c) ∷ []
counts_last r first [] [] n c e h = let t = has_own r first (omega arith) in rw t refl
counts_last r first [] (d ∷ cs) n c e h = absurd (omega arith)
counts_last r first (m ∷ ns) [] n c e h = absurd (omega arith)
counts_last r first (m ∷ ns) (d ∷ cs) n c e h =
    let t = has_other r first (λ q. absurd (omega arith)) in
    rw t (ap (λ (ms : List ℕ). m ∷ ms) (counts_last r (first + 1) ns cs n c (omega arith) (omega arith)))

pub chunk_last : (r first : ℕ) (cs : List ℕ) (c : ℕ) → r ≡ first + length cs → partial_chunk_from (axis_alone r) first (cs ++ c ∷ []) ≡ cs ++ 1 ∷ []
chunk_last r first [] c h = let t = has_own r first (omega arith) in rw t refl
chunk_last r first (d ∷ cs) c h =
    let t = has_other r first (λ q. absurd (omega arith)) in
    rw t (ap (λ (ds : List ℕ). d ∷ ds) (chunk_last r (first + 1) cs c (omega arith)))

-- the grid that is left when the last axis has one group
pub longer_squeezed : (t : Dtype) (ns cs : List ℕ) (n c : ℕ) (made : NodeInfo) → length cs ≡ length ns → made.dims ≡ ns → made.chunk ≡ cs
    → IsSqueezed (partial_grid (whole_groups (axis_alone (length ns)) (ns ++ n ∷ [])) (grid_of (longer t ns cs n c))) (grid_of made)
longer_squeezed t ns cs n c made e p q =
    let a = length-append ns (n ∷ []) in
    let b = length-append cs (c ∷ []) in
    let z : length ns ≡ 0 + length ns = omega arith in
    let counts : group_counts (whole_groups (axis_alone (length ns)) (ns ++ n ∷ [])) (ns ++ n ∷ []) ≡ ns ++ 1 ∷ [] =
    counts_last (length ns) 0 ns ns n n refl z ∙ ap (λ (k : ℕ). ns ++ k ∷ []) (one_group n) in
    let chunks = same_chunks (axis_alone (length ns)) 0 (ns ++ n ∷ []) (cs ++ c ∷ []) (omega arith) ∙ chunk_last (length ns) 0 cs c (omega arith) in
    over (ns ++ 1 ∷ []) (cs ++ 1 ∷ []) counts chunks (rw (p, q) (without_last ns cs e))
  where
    over : (ms ds : List ℕ) → group_counts (whole_groups (axis_alone (length ns)) (ns ++ n ∷ [])) (ns ++ n ∷ []) ≡ ms
        → (partial_grid (whole_groups (axis_alone (length ns)) (ns ++ n ∷ [])) (grid_of (longer t ns cs n c))).chunk ≡ ds
        → IsSqueezed (record { shape = ms; chunk = ds }) (grid_of made) → IsSqueezed (partial_grid (whole_groups (axis_alone (length ns)) (ns ++ n ∷ [])) (grid_of (longer t ns cs n c))) (grid_of made)
    over ms ds f g h = subst (λ (x : RegularGrid). IsSqueezed x (grid_of made)) (λ j. record { shape = sym f j; chunk = sym g j }) h

-- ---- a group along the last axis

lo_last : (r first : ℕ) (cs is : List ℕ) (c p : ℕ) → length cs ≡ length is → r ≡ first + length is → group_lo (groups_from (has_axis (axis_alone r)) first (cs ++ c ∷ [])) (is ++ p ∷ []) ≡ is ++ p * c ∷ []
lo_last r first [] [] c p e h = let t = has_own r first (omega arith) in rw t refl
lo_last r first [] (i ∷ is) c p e h = absurd (omega arith)
lo_last r first (d ∷ cs) [] c p e h = absurd (omega arith)
lo_last r first (d ∷ cs) (i ∷ is) c p e h =
    let t = has_other r first (λ q. absurd (omega arith)) in
    rw t (ap (λ (js : List ℕ). i ∷ js) (lo_last r (first + 1) cs is c p (omega arith) (omega arith)))

hi_last : (r first : ℕ) (cs ns is : List ℕ) (c n p : ℕ) → length cs ≡ length is → length ns ≡ length is → r ≡ first + length is
    → group_hi (groups_from (has_axis (axis_alone r)) first (cs ++ c ∷ [])) (ns ++ n ∷ []) (map suc (is ++ p ∷ [])) ≡ map suc is ++ min n (suc p * c) ∷ []
hi_last r first [] [] [] c n p e f h = let t = has_own r first (omega arith) in rw t refl
hi_last r first [] ns (i ∷ is) c n p e f h = absurd (omega arith)
hi_last r first [] (m ∷ ns) [] c n p e f h = absurd (omega arith)
hi_last r first (d ∷ cs) ns [] c n p e f h = absurd (omega arith)
hi_last r first (d ∷ cs) [] (i ∷ is) c n p e f h = absurd (omega arith)
hi_last r first (d ∷ cs) (m ∷ ns) (i ∷ is) c n p e f h =
    let t = has_other r first (λ q. absurd (omega arith)) in
    rw t (ap (λ (js : List ℕ). suc i ∷ js) (hi_last r (first + 1) cs ns is c n p (omega arith) (omega arith) (omega arith)))

flat_ones : (l n : ℕ) → flat_map (λ i. map (λ is. i ∷ is) ([] ∷ [])) (range_with_len l n) ≡ map (λ x. x ∷ []) (range_with_len l n)
flat_ones l zero = refl
flat_ones l (suc n) = ap (λ (xs : List (List ℕ)). (l ∷ []) ∷ xs) (flat_ones (l + 1) n)

pub region_last : (is : List ℕ) (lo hi : ℕ) → region_indices (is ++ lo ∷ []) (map suc is ++ hi ∷ []) ≡ map (λ x. is ++ x ∷ []) (range_with_len lo (hi - lo))
region_last [] lo hi = region_front lo hi [] [] ∙ flat_ones lo (hi - lo)
region_last (i ∷ is) lo hi =
    region_one i (suc i) (is ++ lo ∷ []) (map suc is ++ hi ∷ []) refl ∙ ap (map (λ (js : List ℕ). i ∷ js)) (region_last is lo hi) ∙ map-map (λ (js : List ℕ). i ∷ js) (λ x. is ++ x ∷ []) (range_with_len lo (hi - lo))

pub group_last : (ns cs is : List ℕ) (n c p : ℕ) → length cs ≡ length ns → length is ≡ length ns
    → group_indices (groups_of (has_axis (axis_alone (length ns))) (cs ++ c ∷ [])) (ns ++ n ∷ []) (is ++ p ∷ []) ≡ map (λ x. is ++ x ∷ []) (range_with_len (p * c) (min n (suc p * c) - p * c))
group_last ns cs is n c p e f =
    let z : length ns ≡ 0 + length is = omega arith in
    let lo = lo_last (length ns) 0 cs is c p (omega arith) z in
    let hi = hi_last (length ns) 0 cs ns is c n p (omega arith) (omega arith) z in
    (λ j. region_indices (lo j) (hi j)) ∙ region_last is (p * c) (min n (suc p * c))

-- ---- indices with one more axis

pub split_inside : (ns : List ℕ) (m : ℕ) (q : List ℕ) → IsInside (ns ++ m ∷ []) q → q ≡ take (length ns) q ++ get_or q (length ns) 0 ∷ []
split_inside [] m [] b = absurd b
split_inside [] m (i ∷ []) b = refl
split_inside [] m (i ∷ j ∷ is) b = absurd b.1
split_inside (n ∷ ns) m [] b = absurd b
split_inside (n ∷ ns) m (i ∷ is) b = ap (λ (js : List ℕ). i ∷ js) (split_inside ns m is b.1)

pub inside_longer : (ns is : List ℕ) (n i : ℕ) → IsInside ns is → i < n → IsInside (ns ++ n ∷ []) (is ++ i ∷ [])
inside_longer [] [] n i b h = (h, tt)
inside_longer (m ∷ ns) (j ∷ is) n i b h = (b.0, inside_longer ns is n i b.1 h)
inside_longer ns is n i b h = absurd b

product_one : (ns : List ℕ) → product (ns ++ 1 ∷ []) ≡ product ns
product_one [] = refl
product_one (n ∷ ns) = ap (λ (k : ℕ). n * k) (product_one ns)

place_longer : (ns is : List ℕ) → IsInside ns is → place_of (ns ++ 1 ∷ []) (is ++ 0 ∷ []) ≡ place_of ns is
place_longer [] [] b = refl
place_longer (n ∷ ns) (i ∷ is) b = let e = product_one ns in let f = place_longer ns is b.1 in (λ j. i * e j + f j)
place_longer ns is b = absurd b

pub index_longer : (ns is : List ℕ) → IsInside ns is → index_at (ns ++ 1 ∷ []) (place_of ns is) ≡ is ++ 0 ∷ []
index_longer ns is b =
    ap (index_at (ns ++ 1 ∷ [])) (sym (place_longer ns is b)) ∙ index-place (ns ++ 1 ∷ []) (is ++ 0 ∷ []) (inside_longer ns is 1 0 b (omega arith))
