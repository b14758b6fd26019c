-- The chunks of a region that is parted along an axis on which each chunk has one index.
use Rattle.std.proofs.Common.{◌≡◌, inl, inr, ℕ, zero, suc, ◌+◌, ◌-◌, ◌/◌, ◌%◌, ◌<◌, ◌≤◌, List, [], ◌∷◌, length, map, get_or, set, refl, sym, ap, ◌∙◌, subst, arith}
use Rattle.std.specs.Prelude.{sum_by, Contains}
use Rattle.std.specs.Int.{div_ceil}
use Rattle.std.specs.List.{range_with_len, flat_map}
use Rattle.std.proofs.lemmas.List.Sums.{sum_by-append, sum_by-cons}
use Rattle.cu_grid.specs.Counts.{IsRegion, IsWithin}
use Rattle.cu_grid.specs.Cover.{covering, span_on, spans_of}
use Rattle.cu_grid.specs.Grid.{IsGrid}
use Rattle.cu_grid.proofs.Covers.{span_cases}
use Rattle.cu_op.specs.Arrays.{grid_at}
use Rattle.cu_op.specs.Chunks.{cell}
use Rattle.cu_op.specs.Walks.{walk_cells, IsWalkOver}
use Rattle.cu_op.specs.declared.cells.Cell.{Cell}
use Rattle.cu_op.specs.declared.layout.ArrayInfo.{ArrayInfo}
use Rattle.cu_op.specs.declared.walks.Walk.{Walk}
use Rattle.cu_op.proofs.WalkCells.{meets_walk, walk_meets}
use Rattle.cu_reduce.proofs.Ranges.{range_append, range_shift}
use Rattle.cu_reduce.proofs.Regions.{indices_front}
use Rattle.cu_shape.specs.Index.{product, index_at, indices_of, quotients, sums}

-- ---- sums

sum_map : {X Y : Type 0} (f : Y → ℕ) (h : X → Y) (xs : List X) → sum_by f (map h xs) ≡ sum_by (λ x. f (h x)) xs
sum_map f h [] = refl
sum_map f h (x ∷ xs) = sum_by-cons f (h x) (map h xs) ∙ ap (λ (n : ℕ). f (h x) + n) (sum_map f h xs) ∙ sym (sum_by-cons (λ y. f (h y)) x xs)

sum_flat : {X Y : Type 0} (f : Y → ℕ) (h : X → List Y) (xs : List X) → sum_by f (flat_map h xs) ≡ sum_by (λ x. sum_by f (h x)) xs
sum_flat f h [] = refl
sum_flat f h (x ∷ xs) = sum_by-append f (h x) (flat_map h xs) ∙ ap (λ (n : ℕ). sum_by f (h x) + n) (sum_flat f h xs) ∙ sym (sum_by-cons (λ y. sum_by f (h y)) x xs)

sum_same : {X : Type 0} (f g : X → ℕ) (xs : List X) → ((x : X) → f x ≡ g x) → sum_by f xs ≡ sum_by g xs
sum_same f g [] same = refl
sum_same f g (x ∷ xs) same =
    let first = same x in
    let rest = sum_same f g xs same in
    let a = sum_by-cons f x xs in
    let b = sum_by-cons g x xs in
    omega (arith, first, rest, a, b)

sum_both : {X : Type 0} (f g h : X → ℕ) (xs : List X) → ((x : X) → f x ≡ g x + h x) → sum_by f xs ≡ sum_by g xs + sum_by h xs
sum_both f g h [] each = refl
sum_both f g h (x ∷ xs) each =
    let first = each x in
    let rest = sum_both f g h xs each in
    let a = sum_by-cons f x xs in
    let b = sum_by-cons g x xs in
    let d = sum_by-cons h x xs in
    omega (arith, first, rest, a, b, d)

-- over the numbers below a sum
sum_parted : (g : ℕ → ℕ) (a b : ℕ) → sum_by g (range_with_len 0 (a + b)) ≡ sum_by g (range_with_len 0 a) + sum_by (λ i. g (a + i)) (range_with_len 0 b)
sum_parted g a b =
    let none : 0 + a ≡ a + 0 = omega arith in
    ap (sum_by g) (sym (range_append 0 a b))
    ∙ sum_by-append g (range_with_len 0 a) (range_with_len (0 + a) b)
    ∙ ap (λ (ns : List ℕ). sum_by g (range_with_len 0 a) + sum_by g ns) (ap (λ (n : ℕ). range_with_len n b) none ∙ range_shift a 0 b)
    ∙ ap (λ (n : ℕ). sum_by g (range_with_len 0 a) + n) (sum_map g (λ i. a + i) (range_with_len 0 b))

-- ---- over a box of chunks

abbrev box_sum : (List ℕ → ℕ) → List ℕ → List ℕ → ℕ
box_sum f corner spans = sum_by (λ i. f (sums corner i)) (indices_of spans)

-- over the first axis, the sums over the others
box_front : (f : List ℕ → ℕ) (c n : ℕ) (cs ns : List ℕ) → box_sum f (c ∷ cs) (n ∷ ns) ≡ sum_by (λ i. box_sum (λ x. f ((c + i) ∷ x)) cs ns) (range_with_len 0 n)
box_front f c n cs ns =
    ap (sum_by (λ i. f (sums (c ∷ cs) i))) (indices_front n ns)
    ∙ sum_flat (λ i. f (sums (c ∷ cs) i)) (λ i. map (λ is. i ∷ is) (indices_of ns)) (range_with_len 0 n)
    ∙ sum_same (λ i. sum_by (λ x. f (sums (c ∷ cs) x)) (map (λ is. i ∷ is) (indices_of ns))) (λ i. box_sum (λ x. f ((c + i) ∷ x)) cs ns) (range_with_len 0 n)
    (λ i. sum_map (λ x. f (sums (c ∷ cs) x)) (λ is. i ∷ is) (indices_of ns))

-- an interval of an axis in chunks of one
ones_on : (l h c : ℕ) → c ≡ 1 → l ≤ h → (span_on l h c ≡ h - l) × (l / c ≡ l)
ones_on l h c one ordered =
    let start : l / 1 ≡ l = omega arith in
    let end : h / 1 ≡ h = omega arith in
    let left : h % 1 ≡ 0 = omega arith in
    let ceiling : div_ceil h 1 ≡ h = rw (end, left) (omega arith) in (
      rw one (elim (span_cases l h 1) [
        | inl some ↦ some.1 ∙ rw (ceiling, start) refl
        | inr none ↦ let high = none.0 in none.1 ∙ (let e : 0 ≡ h - l = omega (arith, high) in e)
      ]),
      rw one start,
    )

box_parted : (f : List ℕ → ℕ) (axis at : ℕ) (ns ls hs cs : List ℕ) → IsRegion ns ls hs → axis < length ns → length cs ≡ length ns → get_or cs axis 0 ≡ 1
    → get_or ls axis 0 ≤ at → at ≤ get_or hs axis 0
    → box_sum f (quotients ls cs) (spans_of ls hs cs) ≡ box_sum f (quotients ls cs) (spans_of ls (set hs axis at) cs) + box_sum f (quotients (set ls axis at) cs) (spans_of (set ls axis at) hs cs)
box_parted f axis at [] ls hs cs r b e one low high = absurd (omega (arith, b))
box_parted f zero at (n ∷ ns) (l ∷ ls) (h ∷ hs) (c ∷ cs) r b e one low high =
    let all = ones_on l h c one (omega (arith, low, high)) in
    let front = ones_on l at c one low in
    let back = ones_on at h c one high in
    let each : ℕ → ℕ = λ i. box_sum (λ x. f (i ∷ x)) (quotients ls cs) (spans_of ls hs cs) in
    let count : h - l ≡ at - l + (h - at) = omega (arith, low, high) in
    let there : l + (at - l) ≡ at = omega (arith, low) in
    let whole : box_sum f (quotients (l ∷ ls) (c ∷ cs)) (spans_of (l ∷ ls) (h ∷ hs) (c ∷ cs)) ≡ sum_by (λ i. each (l + i)) (range_with_len 0 (at - l + (h - at)))
    = box_front f (l / c) (span_on l h c) (quotients ls cs) (spans_of ls hs cs) ∙ rw (all.0, all.1, count) refl in
    let first : box_sum f (quotients (l ∷ ls) (c ∷ cs)) (spans_of (l ∷ ls) (at ∷ hs) (c ∷ cs)) ≡ sum_by (λ i. each (l + i)) (range_with_len 0 (at - l))
    = box_front f (l / c) (span_on l at c) (quotients ls cs) (spans_of ls hs cs) ∙ rw (front.0, front.1) refl in
    let second : box_sum f (quotients (at ∷ ls) (c ∷ cs)) (spans_of (at ∷ ls) (h ∷ hs) (c ∷ cs)) ≡ sum_by (λ i. each (at + i)) (range_with_len 0 (h - at))
    = box_front f (at / c) (span_on at h c) (quotients ls cs) (spans_of ls hs cs) ∙ rw (back.0, back.1) refl in
    let shifted : sum_by (λ i. each (l + (at - l + i))) (range_with_len 0 (h - at)) ≡ sum_by (λ i. each (at + i)) (range_with_len 0 (h - at))
    = sum_same (λ i. each (l + (at - l + i))) (λ i. each (at + i)) (range_with_len 0 (h - at)) (λ i. ap each (let e : l + (at - l + i) ≡ at + i = omega (arith, there) in e)) in
    let parted = sum_parted (λ i. each (l + i)) (at - l) (h - at) in
    omega (arith, whole, first, second, shifted, parted)
box_parted f (suc axis) at (n ∷ ns) (l ∷ ls) (h ∷ hs) (c ∷ cs) r b e one low high =
    box_front f (l / c) (span_on l h c) (quotients ls cs) (spans_of ls hs cs)
    ∙ sum_both _ (λ i. box_sum (λ x. f ((l / c + i) ∷ x)) (quotients ls cs) (spans_of ls (set hs axis at) cs)) (λ i. box_sum (λ x. f ((l / c + i) ∷ x)) (quotients (set ls axis at) cs) (spans_of (set ls axis at) hs cs)) (range_with_len 0 (span_on l h c))
    (λ i. box_parted (λ x. f ((l / c + i) ∷ x)) axis at ns ls hs cs r.2 (omega (arith, b)) (omega (arith, e)) one low high)
    ∙ ap (λ (m : ℕ). m + sum_by (λ i. box_sum (λ x. f ((l / c + i) ∷ x)) (quotients (set ls axis at) cs) (spans_of (set ls axis at) hs cs)) (range_with_len 0 (span_on l h c))) (sym (box_front f (l / c) (span_on l h c) (quotients ls cs) (spans_of ls (set hs axis at) cs)))
    ∙ ap (λ (m : ℕ). box_sum f (l / c ∷ quotients ls cs) (span_on l h c ∷ spans_of ls (set hs axis at) cs) + m) (sym (box_front f (l / c) (span_on l h c) (quotients (set ls axis at) cs) (spans_of (set ls axis at) hs cs)))
box_parted f axis at (n ∷ ns) (l ∷ ls) (h ∷ hs) [] r b e one low high = absurd (omega (arith, e))
box_parted f axis at (n ∷ ns) ls hs cs r b e one low high = absurd r

-- ---- of a walk

cells_sum : (f : Cell → ℕ) (arrays : List ArrayInfo) (w : Walk)
    → sum_by f (walk_cells arrays w) ≡ box_sum (λ coord. f (cell w.array coord)) (quotients w.region.lo (grid_at arrays w.array).chunk) (spans_of w.region.lo w.region.hi (grid_at arrays w.array).chunk)
cells_sum f arrays w =
    let chunk = (grid_at arrays w.array).chunk in
    let spans = spans_of w.region.lo w.region.hi chunk in
    let corner = quotients w.region.lo chunk in
    sum_map f (cell w.array) (covering chunk w.region.lo w.region.hi)
    ∙ sum_map (λ coord. f (cell w.array coord)) (λ q. sums corner (index_at spans q)) (range_with_len 0 (product spans))
    ∙ sym (sum_map (λ i. f (cell w.array (sums corner i))) (index_at spans) (range_with_len 0 (product spans)))

-- a walk before an index on an axis, and from it on
abbrev pub walk_before : Walk → ℕ → ℕ → Walk
walk_before w axis at = record { array = w.array; region = record { lo = w.region.lo; hi = set w.region.hi axis at } }

abbrev pub walk_after : Walk → ℕ → ℕ → Walk
walk_after w axis at = record { array = w.array; region = record { lo = set w.region.lo axis at; hi = w.region.hi } }

-- a walk over an array in chunks of one on an axis, and an index on it between the first and the end of its region
pub record IsPartedAt (arrays : List ArrayInfo) (w : Walk) (axis at : ℕ) : Type 0 where
  pub grid : IsGrid (grid_at arrays w.array)
  pub over : IsWalkOver arrays w
  pub along : axis < length (grid_at arrays w.array).shape
  pub one : get_or (grid_at arrays w.array).chunk axis 0 ≡ 1
  pub low : get_or w.region.lo axis 0 ≤ at
  pub high : at ≤ get_or w.region.hi axis 0

-- a region begins before it ends
pub ordered_at : (axis : ℕ) (ns ls hs : List ℕ) → IsRegion ns ls hs → get_or ls axis 0 ≤ get_or hs axis 0
ordered_at axis [] [] [] r = omega arith
ordered_at zero (n ∷ ns) (l ∷ ls) (h ∷ hs) r = r.0
ordered_at (suc axis) (n ∷ ns) (l ∷ ls) (h ∷ hs) r = ordered_at axis ns ls hs r.2
ordered_at axis ns ls hs r = absurd r

front_region : (axis at : ℕ) (ns ls hs : List ℕ) → IsRegion ns ls hs → get_or ls axis 0 ≤ at → at ≤ get_or hs axis 0 → IsRegion ns ls (set hs axis at)
front_region axis at [] [] [] r low high = tt
front_region zero at (n ∷ ns) (l ∷ ls) (h ∷ hs) r low high = (low, (let most = r.1 in omega (arith, high)), r.2)
front_region (suc axis) at (n ∷ ns) (l ∷ ls) (h ∷ hs) r low high = (r.0, r.1, front_region axis at ns ls hs r.2 low high)
front_region axis at ns ls hs r low high = absurd r

back_region : (axis at : ℕ) (ns ls hs : List ℕ) → IsRegion ns ls hs → at ≤ get_or hs axis 0 → IsRegion ns (set ls axis at) hs
back_region axis at [] [] [] r high = tt
back_region zero at (n ∷ ns) (l ∷ ls) (h ∷ hs) r high = (high, r.1, r.2)
back_region (suc axis) at (n ∷ ns) (l ∷ ls) (h ∷ hs) r high = (r.0, r.1, back_region axis at ns ls hs r.2 high)
back_region axis at ns ls hs r high = absurd r

within_front : (axis at : ℕ) (ls hs is : List ℕ) → at ≤ get_or hs axis 0 → IsWithin ls (set hs axis at) is → IsWithin ls hs is
within_front axis at [] [] [] high w = tt
within_front zero at (l ∷ ls) (h ∷ hs) (i ∷ is) high w = (w.0, (let below = w.1 in omega (arith, high)), w.2)
within_front (suc axis) at (l ∷ ls) (h ∷ hs) (i ∷ is) high w = (w.0, w.1, within_front axis at ls hs is high w.2)
within_front zero at ls hs is high w = absurd w
within_front (suc axis) at ls hs is high w = absurd w

within_back : (axis at : ℕ) (ls hs is : List ℕ) → get_or ls axis 0 ≤ at → IsWithin (set ls axis at) hs is → IsWithin ls hs is
within_back axis at [] [] [] low w = tt
within_back zero at (l ∷ ls) (h ∷ hs) (i ∷ is) low w = ((let above = w.0 in omega (arith, low)), w.1, w.2)
within_back (suc axis) at (l ∷ ls) (h ∷ hs) (i ∷ is) low w = (w.0, w.1, within_back axis at ls hs is low w.2)
within_back zero at ls hs is low w = absurd w
within_back (suc axis) at ls hs is low w = absurd w

module _ (arrays : List ArrayInfo) (w : Walk) (axis at : ℕ) (p : IsPartedAt arrays w axis at) where
  pub front_over : IsWalkOver arrays (walk_before w axis at)
  front_over = (p.over.0, front_region axis at (grid_at arrays w.array).shape w.region.lo w.region.hi p.over.1 p.low p.high)

  pub back_over : IsWalkOver arrays (walk_after w axis at)
  back_over = (p.over.0, back_region axis at (grid_at arrays w.array).shape w.region.lo w.region.hi p.over.1 p.high)

  -- each of its chunks is one of one of both
  pub cells_parted : (f : Cell → ℕ) → sum_by f (walk_cells arrays w) ≡ sum_by f (walk_cells arrays (walk_before w axis at)) + sum_by f (walk_cells arrays (walk_after w axis at))
  cells_parted f =
      let parted = box_parted (λ coord. f (cell w.array coord)) axis at (grid_at arrays w.array).shape w.region.lo w.region.hi (grid_at arrays w.array).chunk p.over.1 p.along p.grid.ranks p.one p.low p.high in
      let all = cells_sum f arrays w in
      let front = cells_sum f arrays (walk_before w axis at) in
      let back = cells_sum f arrays (walk_after w axis at) in
      omega (arith, parted, all, front, back)

  pub front_cell : (c : Cell) → Contains (walk_cells arrays (walk_before w axis at)) c → Contains (walk_cells arrays w) c
  front_cell c there =
      let (same, m) = walk_meets arrays (walk_before w axis at) c p.grid front_over there in
      let (coordinate, (idx, inside, in_chunk)) = m in
      let here = meets_walk arrays w c.coord p.grid p.over (coordinate, (idx, within_front axis at w.region.lo w.region.hi idx p.high inside, in_chunk)) in
      subst (λ (a : ℕ). Contains (walk_cells arrays w) (cell a c.coord)) (sym same) here

  pub back_cell : (c : Cell) → Contains (walk_cells arrays (walk_after w axis at)) c → Contains (walk_cells arrays w) c
  back_cell c there =
      let (same, m) = walk_meets arrays (walk_after w axis at) c p.grid back_over there in
      let (coordinate, (idx, inside, in_chunk)) = m in
      let here = meets_walk arrays w c.coord p.grid p.over (coordinate, (idx, within_back axis at w.region.lo w.region.hi idx p.low inside, in_chunk)) in
      subst (λ (a : ℕ). Contains (walk_cells arrays w) (cell a c.coord)) (sym same) here
