-- The best of a group, told by its indices.
use Rattle.std.proofs.Common.{◌≡◌, ℕ, ◌+◌, ◌*◌, ◌<◌, suc, pos, set, false, List, length, get_or, map, take, drop, Option, None, Some, refl, sym, ap, ◌∙◌, subst, arith}
use Rattle.std.specs.Prelude.{Bool as Test, Contains}
use Rattle.std.specs.List.{range_with_len}
use Rattle.std.proofs.lemmas.List.FromFn.{length-map-range_with_len, get_or-map-range_with_len}
use Rattle.cu_num.specs.Element.{element_at}
use Rattle.cu_num.specs.declared.types.Dtype.{Dtype}
use Rattle.cu_num.specs.declared.layout.Endian.TheVariants.{Little}
use Rattle.cu_shape.specs.Index.{product, place_of, index_at, sums, IsInside}
use Rattle.cu_reduce.specs.Groups.{group_counts, group_indices, groups_of, HasElements}
use Rattle.cu_reduce.specs.Places.{Found, is_better, is_sought, best_of}
use Rattle.cu_reduce.proofs.Bests.{best_is}
use Rattle.cu_reduce.proofs.Ranges.{map-map}
use Rattle.cu_pairs.specs.Elements.{found, found_beside, found_in_area, sought_groups, Area, area, HasFound}
use Rattle.cu_pairs.specs.Columns.{table, sought_place, IsBestOf}
use Rattle.cu_pairs.specs.Blocks.{found_along, sizes, HasBestsAlong}
use Rattle.cu_pairs.proofs.BestOf.{same_found, not_better_best}
use Rattle.cu_pairs.proofs.BlockSteps.{best_same}
use Rattle.cu_pairs.proofs.WholeGroups.{indices_along, located_along, indices_all}
use Rattle.cu_pairs.proofs.Sizes.{HasSizes, splits}
use Rattle.cu_pairs.proofs.WholePart.{in_part}
use Rattle.cu_shape.proofs.Axes.{get_or-axis_by_axis}
use Rattle.cu_shape.proofs.Places.{inside-length}
use Rattle.cu_reduce.proofs.Grouped.{length-group_counts, length-groups_of}
use Rattle.std.proofs.lemmas.List.{get_or-set_same, length-set}

-- the best of a list of so many is the one that none is better than
pub best_told : (least : Test) (f : ℕ → Found) (n : ℕ) (b best : Found) → IsBestOf least f n b → best_of least (map f (range_with_len 0 n)) ≡ Some best → best ≡ b
best_told least f n b best h e =
    let xs = map f (range_with_len 0 n) in
    let long = length-map-range_with_len f 0 n in
    let is = best_is least xs best e in
    let within = h.within in
    let at : ℕ → Found = λ j. f j in
    let one = is.one in
    let j = one.0 in
    let below : j < n = let l = one.1 in omega arith in
    let found_j : best ≡ f j = sym one.2 ∙ get_or-map-range_with_len f 0 n j j best below (omega arith) in
    let here : Contains xs b = (h.number, omega arith, get_or-map-range_with_len f 0 n h.number h.number b within (omega arith) ∙ h.is) in
    same_found least best b (subst (λ x. is_better least x b ≡ false) (sym found_j) (h.none j below)) (not_better_best least b best (is.value b here) (is.first b here))

-- what the blocks have is told by the indices of the groups
pub along_told : (least : Test) (t : Dtype) (bytes : List ℕ) (first : Option ℕ) (beside : List ℕ) (dims : List ℕ) (axis width blocks count : ℕ) (values places : List ℕ) (g : List ℕ → Found)
    → axis < length dims → 0 < get_or dims axis 0 → width ≡ product (drop (suc axis) dims) → blocks ≡ product (take axis dims) → count ≡ get_or dims axis 0
    → HasBestsAlong least (table t width bytes first beside) (sizes blocks count) values places
    → (idx : List ℕ) → IsInside (group_counts (groups_of (is_sought (Some axis)) dims) dims) idx
    → ((j : ℕ) → j < count → g (set idx axis j) ≡ found (element_at Little t bytes (place_of dims (set idx axis j))) (sought_place first beside j (place_of dims (set idx axis j))))
    → (best : Found) → best_of least (map g (group_indices (groups_of (is_sought (Some axis)) dims) dims idx)) ≡ Some best
    → HasFound t values places (place_of (group_counts (groups_of (is_sought (Some axis)) dims) dims) idx) best
along_told least t bytes first beside dims axis width blocks count values places g b some w n c done idx inside own best e =
    let at = located_along axis dims idx b some inside in
    let block = at.block in
    let number = at.number in
    let below = at.blocks in
    let column = at.columns in
    let stands = done.along block number (omega arith) (omega arith) in
    let f : ℕ → Found = λ j. g (set idx axis j) in
    let place : (j : ℕ) → j < count → place_of dims (set idx axis j) ≡ (block * count + j) * width + number =
    λ j l. at.element j (omega arith) ∙ (λ i. (block * sym c i + j) * sym w i + number) in
    let is : IsBestOf least f count stands.0 = best_same least (found_along (table t width bytes first beside) count block number) f count stands.0
    (λ j l. sym (own j l ∙ (λ i. found (element_at Little t bytes (place j l i)) (sought_place first beside j (place j l i))))) stands.1 in
    let list : map g (group_indices (groups_of (is_sought (Some axis)) dims) dims idx) ≡ map f (range_with_len 0 count) =
    ap (map g) (indices_along axis dims idx b some inside) ∙ map-map g (λ j. set idx axis j) (range_with_len 0 (get_or dims axis 0)) ∙ ap (λ m. map f (range_with_len 0 m)) (sym c) in
    let same : stands.0 ≡ best = sym (best_told least f count stands.0 best is (sym (ap (best_of least) list) ∙ e)) in
    let result : block * width + number ≡ place_of (group_counts (groups_of (is_sought (Some axis)) dims) dims) idx = sym (at.result ∙ ap (λ m. block * m + number) (sym w)) in
    subst (λ p. HasFound t values places p best) result (subst (HasFound t values places (block * width + number)) same stands.2)

pub beside_told : (least : Test) (t : Dtype) (values_from places_from : List ℕ) (dims : List ℕ) (axis width blocks count : ℕ) (values places : List ℕ) → HasSizes dims axis width blocks count
    → HasBestsAlong least (table t width values_from None places_from) (sizes blocks count) values places
    → (idx : List ℕ) (best : Found) → IsInside (group_counts (groups_of (is_sought (Some axis)) dims) dims) idx
    → best_of least (map (found_beside t values_from places_from dims) (group_indices (groups_of (is_sought (Some axis)) dims) dims idx)) ≡ Some best
    → HasFound t values places (place_of (group_counts (groups_of (is_sought (Some axis)) dims) dims) idx) best
beside_told least t values_from places_from dims axis width blocks count values places h done idx best inside e =
    along_told least t values_from None places_from dims axis width blocks count values places (found_beside t values_from places_from dims)
    h.below (splits dims axis h.below h.some).size h.behind h.before h.own done idx inside (λ j b. refl) best e

rank_of_groups : (axis : ℕ) (dims idx : List ℕ) → IsInside (group_counts (groups_of (is_sought (Some axis)) dims) dims) idx → length idx ≡ length dims
rank_of_groups axis dims idx h =
    inside-length (group_counts (groups_of (is_sought (Some axis)) dims) dims) idx h ∙ length-group_counts (groups_of (is_sought (Some axis)) dims) dims (length-groups_of (is_sought (Some axis)) dims)

counted_at : (lo idx : List ℕ) (axis j : ℕ) → axis < length lo → axis < length idx → get_or (sums lo (set idx axis j)) axis 0 ≡ get_or lo axis 0 + j
counted_at lo idx axis j b c =
    let long = length-set idx axis j in
    get_or-axis_by_axis (λ m n. m + n) lo (set idx axis j) axis b (omega arith) ∙ ap (λ m. get_or lo axis 0 + m) (get_or-set_same idx axis j 0 c)

pub counted_told : (least : Test) (t : Dtype) (input beside shape lo dims : List ℕ) (axis first width blocks count : ℕ) (values places : List ℕ) → HasSizes dims axis width blocks count
    → length dims ≡ length lo → first ≡ get_or lo axis 0
    → HasBestsAlong least (table t width input (Some first) beside) (sizes blocks count) values places
    → (idx : List ℕ) (best : Found) → IsInside (group_counts (groups_of (is_sought (Some axis)) dims) dims) idx
    → best_of least (map (found_in_area t input (area shape lo dims (Some axis))) (group_indices (groups_of (is_sought (Some axis)) dims) dims idx)) ≡ Some best
    → HasFound t values places (place_of (group_counts (groups_of (is_sought (Some axis)) dims) dims) idx) best
counted_told least t input beside shape lo dims axis first width blocks count values places h ranks start done idx best inside e =
    let below = h.below in
    let rank = rank_of_groups axis dims idx inside in
    along_told least t input (Some first) beside dims axis width blocks count values places (found_in_area t input (area shape lo dims (Some axis)))
    below (splits dims axis below h.some).size h.behind h.before h.own done idx inside
    (λ j b.
    let at : get_or (sums lo (set idx axis j)) axis 0 ≡ first + j = counted_at lo idx axis j (omega arith) (omega arith) ∙ ap (λ m. m + j) (sym start) in
    ap (λ p. found (element_at Little t input (place_of dims (set idx axis j))) (pos p)) at) best e

pub whole_told : (least : Test) (t : Dtype) (input shape lo dims values places : List ℕ) (stands : Found) → HasElements (groups_of (is_sought None) dims) dims
    → IsBestOf least (in_part t input shape lo dims) (product dims) stands → HasFound t values places 0 stands
    → (idx : List ℕ) (best : Found) → IsInside (group_counts (groups_of (is_sought None) dims) dims) idx
    → best_of least (map (found_in_area t input (area shape lo dims None)) (group_indices (groups_of (is_sought None) dims) dims idx)) ≡ Some best
    → HasFound t values places (place_of (group_counts (groups_of (is_sought None) dims) dims) idx) best
whole_told least t input shape lo dims values places stands some is has idx best inside e =
    let all = indices_all dims idx some inside in
    let list : map (found_in_area t input (area shape lo dims None)) (group_indices (groups_of (is_sought None) dims) dims idx) ≡ map (in_part t input shape lo dims) (range_with_len 0 (product dims)) =
    ap (map (found_in_area t input (area shape lo dims None))) all.0 ∙ map-map (found_in_area t input (area shape lo dims None)) (index_at dims) (range_with_len 0 (product dims)) in
    let same : stands ≡ best = sym (best_told least (in_part t input shape lo dims) (product dims) stands best is (sym (ap (best_of least) list) ∙ e)) in
    subst (λ p. HasFound t values places p best) (sym all.1) (subst (HasFound t values places 0) same has)

-- what a search of a region leaves, as its contract says it
abbrev pub IsTold : Test → Dtype → List ℕ → Area → List ℕ → List ℕ → Type 0
IsTold least t input r values places = (idx : List ℕ) (best : Found) → IsInside (group_counts (sought_groups r.axis r.dims) r.dims) idx
    → best_of least (map (found_in_area t input r) (group_indices (sought_groups r.axis r.dims) r.dims idx)) ≡ Some best
    → HasFound t values places (place_of (group_counts (sought_groups r.axis r.dims) r.dims) idx) best
