-- Lists that have a number for each axis of a reduction: counts of groups, and where a group begins and ends.
use Rattle.std.proofs.Common.{◌≡◌, ℕ, zero, suc, ◌<◌, ◌≤◌, ◌+◌, ◌-◌, ◌*◌, ◌^◌, Bool, true, false, List, [], ◌∷◌, length, map, max, All, Option, None, Some, get_or, refl, ap, sym, ◌∙◌, subst, arith, if◌then◌else◌}
use Rattle.std.specs.Int.{div_ceil}
use Rattle.std.proofs.lemmas.List.{length-map}
use Rattle.cu_shape.specs.Index.{IsInside, product}
use Rattle.cu_shape.specs.Counts.{at_least_one}
use Rattle.cu_shape.proofs.Places.{inside-length}
use Rattle.cu_shape.proofs.Products.{size_within, at_least_one_same}
use Rattle.cu_shape.proofs.Rounded.{counts_below}
use Rattle.cu_grid.specs.Grid.{RegularGrid, IsGrid}
use Rattle.cu_grid.proofs.Regions.{inside-at}
use Rattle.cu_reduce.specs.Groups.{Groups, groups_from, groups_of, group_counts, group_lo, group_hi}
use Rattle.cu_op.specs.Grouping.{label_chunks}
use Rattle.cu_op.specs.Matrix.{left_inner, inner_chunk_count}
use Rattle.cu_op.specs.Partial.{AreGroupSizes, count_on, start_on, end_on}
use Rattle.cu_op.proofs.Grouped.{begins_on}

cons_same : (x y : ℕ) (xs ys : List ℕ) → x ≡ y → xs ≡ ys → x ∷ xs ≡ y ∷ ys
cons_same x y xs ys e f = cc

-- an axis more
abbrev group_on : Bool → ℕ → Option ℕ
group_on t s = if t then Some s else None

counts_step : (t : Bool) (s n : ℕ) (gs : Groups) (ns : List ℕ) → group_counts (group_on t s ∷ gs) (n ∷ ns) ≡ count_on t s n ∷ group_counts gs ns
counts_step true s n gs ns = refl
counts_step false s n gs ns = refl

starts_step : (t : Bool) (s i : ℕ) (gs : Groups) (is : List ℕ) → group_lo (group_on t s ∷ gs) (i ∷ is) ≡ start_on t s i ∷ group_lo gs is
starts_step true s i gs is = refl
starts_step false s i gs is = refl

ends_step : (t : Bool) (s n e : ℕ) (gs : Groups) (ns es : List ℕ) → group_hi (group_on t s ∷ gs) (n ∷ ns) (e ∷ es) ≡ end_on t s n e ∷ group_hi gs ns es
ends_step true s n e gs ns es = refl
ends_step false s n e gs ns es = refl

-- ---- lists that have these numbers are these lists

module _ (f : ℕ → Bool) where
  counts_along : (first : ℕ) (r sizes shape : List ℕ) → length r ≡ length shape → length sizes ≡ length shape
      → ((k : ℕ) → k < length shape → get_or r k 0 ≡ count_on (f (first + k)) (get_or sizes k 0) (get_or shape k 0)) → r ≡ group_counts (groups_from f first sizes) shape
  counts_along first [] [] [] p q h = refl
  counts_along first (x ∷ r) (s ∷ sizes) (n ∷ shape) p q h =
      let here : x ≡ count_on (f first) s n = h 0 (omega arith) ∙ ap (λ d. count_on (f d) s n) (let z : first + 0 ≡ first = omega arith in z) in
      let rest = counts_along (first + 1) r sizes shape (omega arith) (omega arith)
      (λ k l. h (suc k) (omega arith) ∙ ap (λ d. count_on (f d) (get_or sizes k 0) (get_or shape k 0)) (let z : first + suc k ≡ first + 1 + k = omega arith in z)) in
      cons_same x (count_on (f first) s n) r (group_counts (groups_from f (first + 1) sizes) shape) here rest ∙ sym (counts_step (f first) s n (groups_from f (first + 1) sizes) shape)
  counts_along first r sizes shape p q h = absurd (omega arith)

  pub counts_from : (r sizes shape : List ℕ) → length r ≡ length shape → length sizes ≡ length shape
      → ((k : ℕ) → k < length shape → get_or r k 0 ≡ count_on (f k) (get_or sizes k 0) (get_or shape k 0)) → r ≡ group_counts (groups_of f sizes) shape
  counts_from r sizes shape p q h =
      counts_along 0 r sizes shape p q (λ k l. h k l ∙ ap (λ d. count_on (f d) (get_or sizes k 0) (get_or shape k 0)) (let z : k ≡ 0 + k = omega arith in z))

  starts_along : (first : ℕ) (r sizes is : List ℕ) → length r ≡ length is → length sizes ≡ length is
      → ((k : ℕ) → k < length is → get_or r k 0 ≡ start_on (f (first + k)) (get_or sizes k 0) (get_or is k 0)) → r ≡ group_lo (groups_from f first sizes) is
  starts_along first [] [] [] p q h = refl
  starts_along first (x ∷ r) (s ∷ sizes) (i ∷ is) p q h =
      let here : x ≡ start_on (f first) s i = h 0 (omega arith) ∙ ap (λ d. start_on (f d) s i) (let z : first + 0 ≡ first = omega arith in z) in
      let rest = starts_along (first + 1) r sizes is (omega arith) (omega arith)
      (λ k l. h (suc k) (omega arith) ∙ ap (λ d. start_on (f d) (get_or sizes k 0) (get_or is k 0)) (let z : first + suc k ≡ first + 1 + k = omega arith in z)) in
      cons_same x (start_on (f first) s i) r (group_lo (groups_from f (first + 1) sizes) is) here rest ∙ sym (starts_step (f first) s i (groups_from f (first + 1) sizes) is)
  starts_along first r sizes is p q h = absurd (omega arith)

  pub starts_from : (r sizes is : List ℕ) → length r ≡ length is → length sizes ≡ length is
      → ((k : ℕ) → k < length is → get_or r k 0 ≡ start_on (f k) (get_or sizes k 0) (get_or is k 0)) → r ≡ group_lo (groups_of f sizes) is
  starts_from r sizes is p q h =
      starts_along 0 r sizes is p q (λ k l. h k l ∙ ap (λ d. start_on (f d) (get_or sizes k 0) (get_or is k 0)) (let z : k ≡ 0 + k = omega arith in z))

  ends_along : (first : ℕ) (r sizes shape is : List ℕ) → length r ≡ length is → length sizes ≡ length is → length shape ≡ length is
      → ((k : ℕ) → k < length is → get_or r k 0 ≡ end_on (f (first + k)) (get_or sizes k 0) (get_or shape k 0) (get_or is k 0 + 1)) → r ≡ group_hi (groups_from f first sizes) shape (map suc is)
  ends_along first [] [] [] [] p q w h = refl
  ends_along first (x ∷ r) (s ∷ sizes) (n ∷ shape) (i ∷ is) p q w h =
      let here : x ≡ end_on (f first) s n (suc i) = h 0 (omega arith) ∙ ap (λ d. end_on (f d) s n (i + 1)) (let z : first + 0 ≡ first = omega arith in z) ∙ ap (λ e. end_on (f first) s n e) (let z : i + 1 ≡ suc i = omega arith in z) in
      let rest = ends_along (first + 1) r sizes shape is (omega arith) (omega arith) (omega arith)
      (λ k l. h (suc k) (omega arith) ∙ ap (λ d. end_on (f d) (get_or sizes k 0) (get_or shape k 0) (get_or is k 0 + 1)) (let z : first + suc k ≡ first + 1 + k = omega arith in z)) in
      cons_same x (end_on (f first) s n (suc i)) r (group_hi (groups_from f (first + 1) sizes) shape (map suc is)) here rest ∙ sym (ends_step (f first) s n (suc i) (groups_from f (first + 1) sizes) shape (map suc is))
  ends_along first r sizes shape is p q w h = absurd (omega arith)

  pub ends_from : (r sizes shape is : List ℕ) → length r ≡ length is → length sizes ≡ length is → length shape ≡ length is
      → ((k : ℕ) → k < length is → get_or r k 0 ≡ end_on (f k) (get_or sizes k 0) (get_or shape k 0) (get_or is k 0 + 1)) → r ≡ group_hi (groups_of f sizes) shape (map suc is)
  ends_from r sizes shape is p q w h =
      ends_along 0 r sizes shape is p q w (λ k l. h k l ∙ ap (λ d. end_on (f d) (get_or sizes k 0) (get_or shape k 0) (get_or is k 0 + 1)) (let z : k ≡ 0 + k = omega arith in z))

  -- ---- the counts of an axis

  counts_length_along : (first : ℕ) (sizes shape : List ℕ) → length sizes ≡ length shape → length (group_counts (groups_from f first sizes) shape) ≡ length shape
  counts_length_along first [] [] e = refl
  counts_length_along first (s ∷ sizes) (n ∷ shape) e =
      ap length (counts_step (f first) s n (groups_from f (first + 1) sizes) shape) ∙ ap suc (counts_length_along (first + 1) sizes shape (omega arith))
  counts_length_along first sizes shape e = absurd (omega arith)

  pub length-counts : (sizes shape : List ℕ) → length sizes ≡ length shape → length (group_counts (groups_of f sizes) shape) ≡ length shape
  length-counts sizes shape e = counts_length_along 0 sizes shape e

  counts_at_along : (first : ℕ) (sizes shape : List ℕ) (k : ℕ) → length sizes ≡ length shape → k < length shape
      → get_or (group_counts (groups_from f first sizes) shape) k 0 ≡ count_on (f (first + k)) (get_or sizes k 0) (get_or shape k 0)
  counts_at_along first (s ∷ sizes) (n ∷ shape) zero e l =
      ap (λ (cs : List ℕ). get_or cs 0 0) (counts_step (f first) s n (groups_from f (first + 1) sizes) shape) ∙ ap (λ d. count_on (f d) s n) (let z : first ≡ first + 0 = omega arith in z)
  counts_at_along first (s ∷ sizes) (n ∷ shape) (suc k) e l =
      ap (λ (cs : List ℕ). get_or cs (suc k) 0) (counts_step (f first) s n (groups_from f (first + 1) sizes) shape) ∙ counts_at_along (first + 1) sizes shape k (omega arith) (omega arith)
      ∙ ap (λ d. count_on (f d) (get_or sizes k 0) (get_or shape k 0)) (let z : first + 1 + k ≡ first + suc k = omega arith in z)
  counts_at_along first sizes shape k e l = absurd (omega arith)

  pub counts_at : (sizes shape : List ℕ) (k : ℕ) → length sizes ≡ length shape → k < length shape
      → get_or (group_counts (groups_of f sizes) shape) k 0 ≡ count_on (f k) (get_or sizes k 0) (get_or shape k 0)
  counts_at sizes shape k e l = counts_at_along 0 sizes shape k e l ∙ ap (λ d. count_on (f d) (get_or sizes k 0) (get_or shape k 0)) (let z : 0 + k ≡ k = omega arith in z)

  pub long_index : (sizes shape idx : List ℕ) → length sizes ≡ length shape → IsInside (group_counts (groups_of f sizes) shape) idx → length idx ≡ length shape
  long_index sizes shape idx e inside = inside-length (group_counts (groups_of f sizes) shape) idx inside ∙ length-counts sizes shape e

  -- ---- numbers on an axis fit 64 bits

  pub record IsSmallGroup (sizes shape idx : List ℕ) (k : ℕ) : Type 0 where
    pub starts : f k ≡ true → get_or idx k 0 * get_or sizes k 0 < 2 ^ 64
    pub ends : f k ≡ true → (get_or idx k 0 + 1) * get_or sizes k 0 < 2 ^ 64
    pub next : get_or idx k 0 + 1 < 2 ^ 64

  pub small_group : (sizes shape idx : List ℕ) (k : ℕ) → AreGroupSizes sizes shape → product (at_least_one shape) ≤ 2 ^ 56 → IsInside (group_counts (groups_of f sizes) shape) idx → k < length shape → IsSmallGroup sizes shape idx k
  small_group sizes shape idx k ok few inside l =
      let e = ok.ranks in
      let n = length-counts sizes shape e in
      let below : get_or idx k 0 < count_on (f k) (get_or sizes k 0) (get_or shape k 0) = subst (λ m. get_or idx k 0 < m) (counts_at sizes shape k e l) (inside-at (group_counts (groups_of f sizes) shape) idx k inside (omega (arith, n, l))) in
      let size : get_or shape k 0 ≤ 2 ^ 56 = (let w = size_within shape k l in omega (arith, w, few)) in
      let positive : 0 < get_or sizes k 0 = ok.positive k 0 (omega (arith, e, l)) in
      let small : get_or sizes k 0 ≤ 2 ^ 40 = ok.small k 0 (omega (arith, e, l)) in
      record {
        starts = λ t. (starts_small (f k) (get_or sizes k 0) (get_or shape k 0) (get_or idx k 0) t below size small).0;
        ends = λ t. (starts_small (f k) (get_or sizes k 0) (get_or shape k 0) (get_or idx k 0) t below size small).1;
        next = next_small (f k) (get_or sizes k 0) (get_or shape k 0) (get_or idx k 0) below size positive;
      }
    where
      starts_small : (t : Bool) (s n i : ℕ) → t ≡ true → i < count_on t s n → n ≤ 2 ^ 56 → s ≤ 2 ^ 40 → (i * s < 2 ^ 64) × ((i + 1) * s < 2 ^ 64)
      starts_small true s n i e below size small =
          let b : i * s ≤ n = begins_on n s i below in
          let m : (i + 1) * s ≡ i * s + s = omega arith in
          (omega (arith, b, size), omega (arith, m, b, size, small))
      starts_small false s n i e below size small = cc

      next_small : (t : Bool) (s n i : ℕ) → i < count_on t s n → n ≤ 2 ^ 56 → 0 < s → i + 1 < 2 ^ 64
      next_small true s n i below size positive = let c = counts_below n s positive in omega (arith, below, size, c)
      next_small false s n i below size positive = omega (arith, below, size)

-- ---- the sizes of groups

pub chunk_sizes : (g : RegularGrid) → IsGrid g → AreGroupSizes g.chunk g.shape
chunk_sizes g ok = record {
  ranks = ok.ranks;
  positive = ok.positive;
  small = λ k d l.
      let w = size_within g.chunk k l in
      let e : at_least_one g.chunk ≡ g.chunk = at_least_one_same g.chunk ok.positive in
      let p : product (at_least_one g.chunk) ≡ product g.chunk = ap product e in
      let few = ok.chunk_elements in
      subst (λ m. m ≤ 2 ^ 40) (default g.chunk k d l) (omega (arith, w, p, few));
}
  where
    default : (xs : List ℕ) (k d : ℕ) → k < length xs → get_or xs k 0 ≡ get_or xs k d
    default [] k d l = absurd (omega arith)
    default (x ∷ xs) zero d l = refl
    default (x ∷ xs) (suc k) d l = default xs k d (omega arith)

pub merge_sizes : (shape sizes : List ℕ) (group : ℕ) → sizes ≡ map (λ n. group) shape → 0 < group → group ≤ 65536 → AreGroupSizes sizes shape
merge_sizes shape sizes group e some few = subst (λ (ss : List ℕ). AreGroupSizes ss shape) (sym e) (record {
  ranks = length-map shape (λ n. group);
  positive = each shape (λ s. 0 < s) some;
  small = each shape (λ s. s ≤ 2 ^ 40) (omega (arith, few));
})
  where
    each : (ns : List ℕ) (P : ℕ → Type 0) → P group → All P (map (λ n. group) ns)
    each [] P h k d l = absurd (omega arith)
    each (n ∷ ns) P h zero d l = h
    each (n ∷ ns) P h (suc k) d l = each ns P h k d (omega arith)

-- ---- the inner places of parts fit 64 bits

pub record AreSmallParts (n c first end : ℕ) : Type 0 where
  pub starts : first * c < 2 ^ 64
  pub ends : end * c < 2 ^ 64

parts_on : (n c first end : ℕ) → n ≤ 2 ^ 56 → c ≤ 2 ^ 40 → first < max 1 (div_ceil n c) → end ≤ max 1 (div_ceil n c) → AreSmallParts n c first end
parts_on n c first end n_small c_small p q = record { starts = (let b = begins_on n c first p in omega (arith, b, n_small)); ends = ends_small n c end q n_small c_small }
  where
    ends_small : (n c h : ℕ) → h ≤ max 1 (div_ceil n c) → n ≤ 2 ^ 56 → c ≤ 2 ^ 40 → h * c < 2 ^ 64
    ends_small n c zero b p q = omega arith
    ends_small n c (suc h) b p q =
        let e : h * c ≤ n = begins_on n c h b in
        let m : suc h * c ≡ h * c + c = omega arith in
        omega (arith, e, m, p, q)

pub small_parts : (g : RegularGrid) (first end : ℕ) → IsGrid g → 1 ≤ length g.shape → first < max 1 (inner_chunk_count g) → end ≤ max 1 (inner_chunk_count g) → AreSmallParts (left_inner g.shape) (left_inner g.chunk) first end
small_parts g first end ok one p q =
    let n_small : left_inner g.shape ≤ 2 ^ 56 = (let w = size_within g.shape (length g.shape - 1) (omega (arith, one)) in let few = ok.elements in omega (arith, w, few)) in
    let c_small : left_inner g.chunk ≤ 2 ^ 40 = (let r = ok.ranks in (chunk_sizes g ok).small (length g.chunk - 1) 0 (omega (arith, one, r))) in
    parts_on (left_inner g.shape) (left_inner g.chunk) first end n_small c_small p q

-- and the places of parts of any axis
pub axis_parts : (g : RegularGrid) (axis first end : ℕ) → IsGrid g → axis < length g.shape → first < max 1 (label_chunks g axis) → end ≤ max 1 (label_chunks g axis)
    → AreSmallParts (get_or g.shape axis 0) (get_or g.chunk axis 0) first end
axis_parts g axis first end ok along p q =
    let n_small : get_or g.shape axis 0 ≤ 2 ^ 56 = (let w = size_within g.shape axis along in let few = ok.elements in omega (arith, w, few)) in
    let c_small : get_or g.chunk axis 0 ≤ 2 ^ 40 = (let r = ok.ranks in (chunk_sizes g ok).small axis 0 (omega (arith, along, r))) in
    parts_on (get_or g.shape axis 0) (get_or g.chunk axis 0) first end n_small c_small p q
