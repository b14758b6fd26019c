-- Groups along one axis: the elements of one result, and results that are made of rows.
use Rattle.std.proofs.Common.{◌≡◌, inl, inr, ℕ, zero, suc, ◌+◌, ◌-◌, ◌*◌, ◌/◌, ◌%◌, ◌<◌, ◌==◌, ℤ, List, [], ◌∷◌, length, map, get_or, set, min, max, None, Some, refl, sym, ap, ◌∙◌, subst, arith}
use Rattle.std.specs.Int.{div_ceil}
use Rattle.std.specs.List.{range_with_len}
use Rattle.std.proofs.Math.Nat.{div_self, mod_self}
use Rattle.std.proofs.lemmas.Bool.Decides.{eqb_tells}
use Rattle.std.proofs.lemmas.List.{get_or-set_same}
use Rattle.std.proofs.lemmas.Nat.{div-mul-add, mod-mul-add}
use Rattle.cu_grid.proofs.Regions.{inside-at}
use Rattle.cu_num.specs.Element.{element_at}
use Rattle.cu_num.specs.declared.folds.FoldKind.{FoldKind}
use Rattle.cu_num.specs.declared.folds.FoldKind.TheVariants.{Sum, Prod, Min, Max, Any, All as Every}
use Rattle.cu_num.specs.declared.layout.Endian.TheVariants.{Little}
use Rattle.cu_num.specs.declared.types.Dtype.{Dtype}
use Rattle.cu_reduce.specs.Folds.{fold_of}
use Rattle.cu_reduce.specs.Groups.{Groups, groups_from, groups_of, group_counts, group_hi, group_indices, group_lo, HasElements}
use Rattle.cu_reduce.specs.Kinds.{HasEnough}
use Rattle.cu_reduce.specs.Numbers.{HasNumber}
use Rattle.cu_reduce.proofs.Ranges.{map-map, map_ranges}
use Rattle.cu_shape.specs.Index.{product, place_of, index_at, sums, differences, IsInside}
use Rattle.cu_shape.proofs.Places.{inside-length, place-below}
use Rattle.cu_task.specs.Merges.{place_by_parts, without_axis}
use Rattle.cu_task.proofs.PartPlaces.{inside_without, place_without, product_without}

-- ---- axes that are kept

abbrev kept_groups : List ℕ → Groups
kept_groups [] = []
kept_groups (d ∷ ds) = None ∷ kept_groups ds

-- those behind the axis
behind : (axis first : ℕ) (ds : List ℕ) → axis < first → groups_from (λ d. d == axis) first ds ≡ kept_groups ds
behind axis first [] h = refl
behind axis first (d ∷ ds) h =
    let rest = behind axis (first + 1) ds (omega (arith, h)) in
    elim (eqb_tells first axis) [
      | inl here ↦ absurd (let e = here.1 in omega (arith, e, h))
      | inr apart ↦ rw (apart.0, rest) refl
    ]

-- the sizes of one group
abbrev group_sizes : Groups → List ℕ → List ℕ → List ℕ
group_sizes gs ds is = differences (group_hi gs ds (map suc is)) (group_lo gs is)

-- the group has so many elements, and these are they
record IsGroupOf (gs : Groups) (ds is : List ℕ) (count : ℕ) (element : ℕ → List ℕ) : Type 0 where
  counts : product (group_sizes gs ds is) ≡ count
  at : (p : ℕ) → p < count → sums (group_lo gs is) (index_at (group_sizes gs ds is) p) ≡ element p

cons_same : (x y : ℕ) (xs ys : List ℕ) → x ≡ y → xs ≡ ys → x ∷ xs ≡ y ∷ ys
cons_same x y xs ys e f = cc

one_more : (x : ℕ) → suc x - x ≡ 1
one_more x = omega arith

div_small : (p n : ℕ) → p < n → p / n ≡ 0
div_small p n below = let e : p ≡ 0 * n + p = omega arith in ap (λ m. m / n) e ∙ div-mul-add 0 n p below

mod_small : (p n : ℕ) → p < n → p % n ≡ p
mod_small p n below = let e : p ≡ 0 * n + p = omega arith in ap (λ m. m % n) e ∙ mod-mul-add 0 n p below

kept_group : (ds is : List ℕ) → length is ≡ length ds → IsGroupOf (kept_groups ds) ds is 1 (λ p. is)
kept_group [] [] e = record { counts = refl; at = λ p below. refl }
kept_group (d ∷ ds) (i ∷ is) e =
    let rest = kept_group ds is (omega (arith, e)) in
    let count = rest.counts in
    record {
      counts = rw (one_more i, count) refl;
      at = λ p below. rw (count, div_small p 1 below, mod_small p 1 below) (cons_same _ _ _ _ (let s : i + 0 ≡ i = omega arith in s) (rest.at p below));
    }
kept_group ds is e = absurd (omega (arith, e))

-- ---- the axis that is reduced

whole_size : (d x : ℕ) → x ≡ 0 → min d (suc x * d) - x * d ≡ d
whole_size d x e = rw e (same d)
  where
    same : (d : ℕ) → min d (1 * d) - 0 * d ≡ d
    same d = omega arith

along_group : (axis first k : ℕ) (ds is : List ℕ) → axis ≡ first + k → length is ≡ length ds → k < length ds → get_or is k 0 ≡ 0
    → IsGroupOf (groups_from (λ d. d == axis) first ds) ds is (get_or ds k 0) (set is k)
along_group axis first k [] is at e b none = absurd (omega arith)
along_group axis first k (d ∷ ds) [] at e b none = absurd (omega (arith, e))
along_group axis first zero (d ∷ ds) (i ∷ is) at e b none =
    elim (eqb_tells first axis) [
      | inr apart ↦ absurd (apart.1 (let h : first ≡ axis = omega (arith, at) in h))
      | inl here ↦
          let rest = kept_group ds is (omega (arith, e)) in
          let count = rest.counts in
          let kept = behind axis (first + 1) ds (omega (arith, at)) in
          let size = whole_size d i none in
          rw (here.0, kept) (record {
            counts = rw (count, size) (let s : d * 1 ≡ d = omega arith in s);
            at = λ p below. rw (count, let s : p / 1 ≡ p = omega arith in s, let s : p % 1 ≡ 0 = omega arith in s)
                (cons_same _ _ _ _ (rw none (let s : 0 * d + p ≡ p = omega arith in s)) (rest.at 0 (omega arith)));
          })
    ]
along_group axis first (suc k) (d ∷ ds) (i ∷ is) at e b none =
    elim (eqb_tells first axis) [
      | inl here ↦ absurd (let same = here.1 in omega (arith, at, same))
      | inr apart ↦
          let rest = along_group axis (first + 1) k ds is (omega (arith, at)) (omega (arith, e)) (omega (arith, b)) none in
          let count = rest.counts in
          rw apart.0 (record {
            counts = rw (one_more i, count) (let s : 1 * get_or ds k 0 ≡ get_or ds k 0 = omega arith in s);
            at = λ p below. rw (count, div_small p (get_or ds k 0) below, mod_small p (get_or ds k 0) below) (cons_same _ _ _ _ (let s : i + 0 ≡ i = omega arith in s) (rest.at p below));
          })
    ]

-- the indices of one group: all on the axis
pub indices_along : (axis : ℕ) (ds is : List ℕ) → length is ≡ length ds → axis < length ds → get_or is axis 0 ≡ 0
    → group_indices (groups_of (λ d. d == axis) ds) ds is ≡ map (set is axis) (range_with_len 0 (get_or ds axis 0))
indices_along axis ds is e b none =
    let gs : Groups = groups_of (λ d. d == axis) ds in
    let known = along_group axis 0 axis ds is (omega arith) e b none in
    let low = group_lo gs is in
    let sizes = group_sizes gs ds is in
    map-map (sums low) (index_at sizes) (range_with_len 0 (product sizes))
    ∙ ap (λ (n : ℕ). map (λ p. sums low (index_at sizes p)) (range_with_len 0 n)) known.counts
    ∙ map_ranges (λ p. sums low (index_at sizes p)) (set is axis) 0 0 (get_or ds axis 0)
    (λ q below. let s : 0 + q ≡ q = omega arith in rw s (known.at q below))

-- ---- how many results

one_group : (d : ℕ) → max 1 (div_ceil d d) ≡ 1
one_group zero = refl
one_group (suc d) =
    let q : suc d / suc d ≡ 1 = div_self {n = suc d} (omega arith) in
    let r : suc d % suc d ≡ 0 = mod_self (suc d) in
    rw (q, r) refl

record AreCountsAlong (k : ℕ) (counts ds : List ℕ) : Type 0 where
  rank : length counts ≡ length ds
  one : get_or counts k 0 ≡ 1
  others : without_axis k counts ≡ without_axis k ds

kept_counts : (ds : List ℕ) → group_counts (kept_groups ds) ds ≡ ds
kept_counts [] = refl
kept_counts (d ∷ ds) = ap (λ ns. d ∷ ns) (kept_counts ds)

counts_along : (axis first k : ℕ) (ds : List ℕ) → axis ≡ first + k → k < length ds → AreCountsAlong k (group_counts (groups_from (λ d. d == axis) first ds) ds) ds
counts_along axis first k [] at b = absurd (omega arith)
counts_along axis first zero (d ∷ ds) at b =
    elim (eqb_tells first axis) [
      | inr apart ↦ absurd (apart.1 (let h : first ≡ axis = omega (arith, at) in h))
      | inl here ↦
          let kept = behind axis (first + 1) ds (omega (arith, at)) in
          let same = kept_counts ds in
          rw (here.0, kept) (record { rank = ap (λ ns. suc (length ns)) same; one = one_group d; others = same })
    ]
counts_along axis first (suc k) (d ∷ ds) at b =
    elim (eqb_tells first axis) [
      | inl here ↦ absurd (let same = here.1 in omega (arith, at, same))
      | inr apart ↦
          let rest = counts_along axis (first + 1) k ds (omega (arith, at)) (omega (arith, b)) in
          rw apart.0 (record { rank = ap suc rest.rank; one = rest.one; others = ap (λ ns. d ∷ ns) rest.others })
    ]

elements_along : (axis first k : ℕ) (ds : List ℕ) → axis ≡ first + k → k < length ds → HasElements (groups_from (λ d. d == axis) first ds) ds → 0 < get_or ds k 0
elements_along axis first k [] at b has = absurd (omega arith)
elements_along axis first zero (d ∷ ds) at b has =
    elim (eqb_tells first axis) [
      | inr apart ↦ absurd (apart.1 (let h : first ≡ axis = omega (arith, at) in h))
      | inl here ↦ let own : HasElements (Some d ∷ groups_from (λ d. d == axis) (first + 1) ds) (d ∷ ds) = rw here.0 at has in own.0
    ]
elements_along axis first (suc k) (d ∷ ds) at b has =
    elim (eqb_tells first axis) [
      | inl here ↦ absurd (let same = here.1 in omega (arith, at, same))
      | inr apart ↦ elements_along axis (first + 1) k ds (omega (arith, at)) (omega (arith, b)) (rw apart.0 at has)
    ]

-- ---- the same results, of rows

-- an array with an axis for the parts and one for the results
abbrev pub rows_of : ℕ → List ℕ → List ℕ
rows_of axis ds = get_or ds axis 0 ∷ product (without_axis axis ds) ∷ []

abbrev pub axis_groups : ℕ → List ℕ → Groups
axis_groups axis ds = groups_of (λ d. d == axis) ds

-- each result is the reduction of these elements
abbrev pub HasMerged : FoldKind → Dtype → ℕ → List ℕ → (List ℕ → ℤ) → List ℕ → Type 0
HasMerged kind acc axis ds element output = (x : List ℕ) → IsInside (group_counts (axis_groups axis ds) ds) x
    → HasNumber acc output (place_of (group_counts (axis_groups axis ds) ds) x) (fold_of kind (map element (group_indices (axis_groups axis ds) ds x)))

module _ (axis : ℕ) (ds : List ℕ) (b : axis < length ds) where
  abbrev counts : List ℕ
  counts = group_counts (axis_groups axis ds) ds

  along : AreCountsAlong axis counts ds
  along = counts_along axis 0 axis ds (omega arith) b

  pub results_count : product counts ≡ product (without_axis axis ds)
  results_count =
      let rank = along.rank in
      product_without axis counts (omega (arith, rank, b)) ∙ rw (along.one, along.others) (let s : 1 * product (without_axis axis ds) ≡ product (without_axis axis ds) = omega arith in s)

  pub rows_count : product (rows_of axis ds) ≡ product ds
  rows_count = let all = product_without axis ds b in let one : product (without_axis axis ds) * 1 ≡ product (without_axis axis ds) = omega arith in rw one (sym all)

  pub rows_results : product (group_counts (axis_groups 0 (rows_of axis ds)) (rows_of axis ds)) ≡ product (without_axis axis ds)
  rows_results = rw (one_group (get_or ds axis 0)) (omega arith)

  pub rows_enough : (kind : FoldKind) → HasEnough kind (axis_groups axis ds) ds → HasEnough kind (axis_groups 0 (rows_of axis ds)) (rows_of axis ds)
  rows_enough Sum e = tt
  rows_enough Prod e = tt
  rows_enough Min e = (elements_along axis 0 axis ds (omega arith) b e, tt)
  rows_enough Max e = (elements_along axis 0 axis ds (omega arith) b e, tt)
  rows_enough Any e = tt
  rows_enough Every e = tt

  without_set : (axis : ℕ) (is : List ℕ) (p : ℕ) → without_axis axis (set is axis p) ≡ without_axis axis is
  without_set axis [] p = refl
  without_set zero (i ∷ is) p = refl
  without_set (suc axis) (i ∷ is) p = ap (λ ns. i ∷ ns) (without_set axis is p)

  pub rows_merged : (kind : FoldKind) (acc : Dtype) (input output : List ℕ) → HasMerged kind acc 0 (rows_of axis ds) (λ i. element_at Little acc input (place_of (rows_of axis ds) i)) output
      → HasMerged kind acc axis ds (λ i. element_at Little acc input (place_by_parts axis ds i)) output
  rows_merged kind acc input output has x inside =
      let parts : ℕ = get_or ds axis 0 in
      let results : ℕ = product (without_axis axis ds) in
      let j : ℕ = place_of (without_axis axis ds) (without_axis axis x) in
      let long : length x ≡ length ds = inside-length counts x inside ∙ along.rank in
      let low : get_or x axis 0 < get_or counts axis 0 = inside-at counts x axis inside (let r = along.rank in omega (arith, r, b)) in
      let none : get_or x axis 0 ≡ 0 = (let one = along.one in omega (arith, low, one)) in
      let row : IsInside (without_axis axis ds) (without_axis axis x) = subst (λ (ns : List ℕ). IsInside ns (without_axis axis x)) along.others (inside_without axis counts x inside) in
      let below = place-below (without_axis axis ds) (without_axis axis x) row in
      let one_part = one_group parts in
      let first : 0 < max 1 (div_ceil parts parts) = omega (arith, one_part) in
      let own = has (0 ∷ j ∷ []) (first, (below, tt)) in
      let own_place : place_of (group_counts (axis_groups 0 (rows_of axis ds)) (rows_of axis ds)) (0 ∷ j ∷ []) ≡ j = omega arith in
      let place : place_of counts x ≡ j = place_without axis counts x (long ∙ sym along.rank) (let r = along.rank in omega (arith, r, b)) along.one none ∙ ap (λ (ns : List ℕ). place_of ns (without_axis axis x)) along.others in
      let element : ℕ → ℤ = λ n. element_at Little acc input n in
      let rows : map (λ i. element (place_of (rows_of axis ds) i)) (group_indices (axis_groups 0 (rows_of axis ds)) (rows_of axis ds) (0 ∷ j ∷ [])) ≡ map (λ p. element (p * results + j)) (range_with_len 0 parts)
      = ap (map (λ i. element (place_of (rows_of axis ds) i))) (indices_along 0 (rows_of axis ds) (0 ∷ j ∷ []) refl (omega arith) refl)
      ∙ map-map (λ i. element (place_of (rows_of axis ds) i)) (set (0 ∷ j ∷ []) 0) (range_with_len 0 parts)
      ∙ map_ranges (λ p. element (p * (results * 1) + (j * 1 + 0))) (λ p. element (p * results + j)) 0 0 parts (λ q here. ap element (at_row (0 + q) results j)) in
      let all : map (λ i. element (place_by_parts axis ds i)) (group_indices (axis_groups axis ds) ds x) ≡ map (λ p. element (p * results + j)) (range_with_len 0 parts)
      = ap (map (λ i. element (place_by_parts axis ds i))) (indices_along axis ds x long b none)
      ∙ map-map (λ i. element (place_by_parts axis ds i)) (set x axis) (range_with_len 0 parts)
      ∙ map_ranges (λ p. element (place_by_parts axis ds (set x axis p))) (λ p. element (p * results + j)) 0 0 parts
      (λ q here. ap element (rw (get_or-set_same x axis (0 + q) 0 (omega (arith, long, b)), without_set axis x (0 + q)) refl)) in
      subst (λ (n : ℕ). HasNumber acc output n (fold_of kind (map (λ i. element (place_by_parts axis ds i)) (group_indices (axis_groups axis ds) ds x)))) (own_place ∙ sym place)
      (subst (λ (xs : List ℤ). HasNumber acc output (place_of (group_counts (axis_groups 0 (rows_of axis ds)) (rows_of axis ds)) (0 ∷ j ∷ [])) (fold_of kind xs)) (rows ∙ sym all) own)
    where
      at_row : (p n j : ℕ) → p * (n * 1) + (j * 1 + 0) ≡ p * n + j
      at_row p n j = let e : n * 1 ≡ n = omega arith in rw e (omega arith)
