-- The elements that a chunk and a region share, as a box in each of them.
use Rattle.std.proofs.Common.{◌≡◌, ℕ, ◌+◌, ◌-◌, ◌*◌, ◌/◌, ◌%◌, ◌^◌, ◌<◌, ◌≤◌, List, [], ◌∷◌, length, get_or, min, max, refl, sym, ap, ◌∙◌, subst, arith}
use Rattle.std.proofs.lemmas.Nat.{div-add-mod'}
use Rattle.cu_shape.specs.Index.{product, axis_by_axis, sums, products, quotients, remainders, IsInside, differences}
use Rattle.cu_shape.proofs.Axes.{length-axis_by_axis, get_or-axis_by_axis, axis_by_axis_from}
use Rattle.cu_shape.proofs.Places.{inside-length}
use Rattle.cu_grid.specs.Counts.{chunk_lo, chunk_hi, at_least_one, IsRegion, IsWithin}
use Rattle.cu_grid.specs.Grid.{RegularGrid, IsGrid, IsCoordinate, IsInChunk}
use Rattle.cu_grid.proofs.Covers.{bounds_of, product_most}
use Rattle.cu_grid.proofs.Meeting.{inside_from, within_from, within_of}
use Rattle.cu_grid.proofs.Parting.{inner_inside, only_chunk, in_array}
use Rattle.cu_grid.proofs.Products.{product_within, at_least_one_same}
use Rattle.cu_grid.proofs.Regions.{inside-at, region_inside, coordinate-length}
use Rattle.cu_codec.specs.Box.{IsSame, IsSharedBox}
use Rattle.cu_codec.specs.Parts.{part}

-- ---- boxes that two regions share, axis by axis

abbrev pub first_of : List ℕ → List ℕ → List ℕ
first_of a lo = axis_by_axis max a lo

abbrev pub sizes_of : List ℕ → List ℕ → List ℕ → List ℕ → List ℕ
sizes_of a b lo hi = differences (axis_by_axis min b hi) (axis_by_axis max a lo)

pub record Ranks (a b lo hi : List ℕ) : Type 0 where
  pub a_rank : length a ≡ length lo
  pub b_rank : length b ≡ length lo
  pub hi_rank : length hi ≡ length lo

pub record At (a b lo hi : List ℕ) (k : ℕ) : Type 0 where
  pub first : get_or (first_of a lo) k 0 ≡ max (get_or a k 0) (get_or lo k 0)
  pub size : get_or (sizes_of a b lo hi) k 0 ≡ min (get_or b k 0) (get_or hi k 0) - max (get_or a k 0) (get_or lo k 0)
  pub in_a : get_or (differences (first_of a lo) a) k 0 ≡ max (get_or a k 0) (get_or lo k 0) - get_or a k 0
  pub in_lo : get_or (differences (first_of a lo) lo) k 0 ≡ max (get_or a k 0) (get_or lo k 0) - get_or lo k 0

pub record Lengths (a b lo hi : List ℕ) : Type 0 where
  pub first : length (first_of a lo) ≡ length lo
  pub last : length (axis_by_axis min b hi) ≡ length lo
  pub size : length (sizes_of a b lo hi) ≡ length lo
  pub in_a : length (differences (first_of a lo) a) ≡ length lo
  pub in_lo : length (differences (first_of a lo) lo) ≡ length lo

pub lengths_of : (a b lo hi : List ℕ) → Ranks a b lo hi → Lengths a b lo hi
lengths_of a b lo hi r =
    let f : length (first_of a lo) ≡ length lo = length-axis_by_axis max a lo r.a_rank ∙ r.a_rank in
    let l : length (axis_by_axis min b hi) ≡ length lo = length-axis_by_axis min b hi (r.b_rank ∙ sym r.hi_rank) ∙ r.b_rank in
    record {
      first = f;
      last = l;
      size = length-axis_by_axis (λ i j. i - j) (axis_by_axis min b hi) (first_of a lo) (l ∙ sym f) ∙ l;
      in_a = length-axis_by_axis (λ i j. i - j) (first_of a lo) a (f ∙ sym r.a_rank) ∙ f;
      in_lo = length-axis_by_axis (λ i j. i - j) (first_of a lo) lo f ∙ f;
    }

at_of : (a b lo hi : List ℕ) (k : ℕ) → Ranks a b lo hi → k < length lo → At a b lo hi k
at_of a b lo hi k r h =
    let l = lengths_of a b lo hi r in
    let l0 = l.first in
    let l1 = l.last in
    let r0 = r.a_rank in
    let r1 = r.b_rank in
    let r2 = r.hi_rank in
    let f : get_or (first_of a lo) k 0 ≡ max (get_or a k 0) (get_or lo k 0) = get_or-axis_by_axis max a lo k (omega arith) h in
    let z : get_or (axis_by_axis min b hi) k 0 ≡ min (get_or b k 0) (get_or hi k 0) = get_or-axis_by_axis min b hi k (omega arith) (omega arith) in
    let s = get_or-axis_by_axis (λ i j. i - j) (axis_by_axis min b hi) (first_of a lo) k (omega arith) (omega arith) in
    let p = get_or-axis_by_axis (λ i j. i - j) (first_of a lo) a k (omega arith) (omega arith) in
    let q = get_or-axis_by_axis (λ i j. i - j) (first_of a lo) lo k (omega arith) (omega arith) in
    record {
      first = f;
      size = s ∙ ap (λ n. n - get_or (first_of a lo) k 0) z ∙ ap (λ n. min (get_or b k 0) (get_or hi k 0) - n) f;
      in_a = p ∙ ap (λ n. n - get_or a k 0) f;
      in_lo = q ∙ ap (λ n. n - get_or lo k 0) f;
    }

-- an index of both regions, as an index of the box
pub record Pair (a b lo hi i idx : List ℕ) : Type 0 where
  pub inside : IsInside (sizes_of a b lo hi) i
  pub in_first : IsWithin a b idx
  pub in_second : IsWithin lo hi idx
  pub from_first : sums (differences (first_of a lo) a) i ≡ differences idx a
  pub from_second : sums (differences (first_of a lo) lo) i ≡ differences idx lo

pub pair_up : (a b lo hi idx : List ℕ) → Ranks a b lo hi → IsWithin a b idx → IsWithin lo hi idx → (i : List ℕ) × Pair a b lo hi i idx
pair_up a b lo hi idx r v w =
    let x = within_of a b idx v in
    let y = within_of lo hi idx w in
    let l = lengths_of a b lo hi r in
    let i = differences idx (first_of a lo) in
    let n : length idx ≡ length lo = sym y.lo_rank in
    let rank : length (differences idx (first_of a lo)) ≡ length lo = length-axis_by_axis (λ i j. i - j) idx (first_of a lo) (n ∙ sym l.first) ∙ n in
    let here : (k : ℕ) → k < length lo → get_or (differences idx (first_of a lo)) k 0 ≡ get_or idx k 0 - get_or (first_of a lo) k 0 =
    λ k h. get_or-axis_by_axis (λ i j. i - j) idx (first_of a lo) k (omega (arith, n)) (omega (arith, l.first)) in (
      differences idx (first_of a lo),
      record {
        inside = inside_from (sizes_of a b lo hi) (differences idx (first_of a lo)) (rank ∙ sym l.size)
            (λ k h. let m : k < length lo = omega (arith, l.size) in let t = at_of a b lo hi k r m in let e = here k m in let p = x.at k (omega (arith, n)) in let q = y.at k (omega (arith, n)) in
            let p0 = p.0 in let p1 = p.1 in let q0 = q.0 in let q1 = q.1 in rw (e, t.size, t.first) (omega arith));
        in_first = v;
        in_second = w;
        from_first = axis_by_axis_from (λ i j. i - j) (sums (differences (first_of a lo) a) (differences idx (first_of a lo))) idx a
            (length-axis_by_axis (λ i j. i + j) (differences (first_of a lo) a) (differences idx (first_of a lo)) (l.in_a ∙ sym rank) ∙ l.in_a ∙ sym n) (n ∙ sym r.a_rank)
            (λ k h. let m : k < length lo = omega (arith, n) in let t = at_of a b lo hi k r m in let e = here k m in
            let p = x.at k (omega (arith, n)) in let q = y.at k (omega (arith, n)) in let p0 = p.0 in let q0 = q.0 in
            get_or-axis_by_axis (λ i j. i + j) (differences (first_of a lo) a) (differences idx (first_of a lo)) k (omega (arith, l.in_a)) (omega (arith, rank))
            ∙ rw (t.in_a, e, t.first) (omega arith));
        from_second = axis_by_axis_from (λ i j. i - j) (sums (differences (first_of a lo) lo) (differences idx (first_of a lo))) idx lo
            (length-axis_by_axis (λ i j. i + j) (differences (first_of a lo) lo) (differences idx (first_of a lo)) (l.in_lo ∙ sym rank) ∙ l.in_lo ∙ sym n) n
            (λ k h. let m : k < length lo = omega (arith, n) in let t = at_of a b lo hi k r m in let e = here k m in
            let p = x.at k (omega (arith, n)) in let q = y.at k (omega (arith, n)) in let p0 = p.0 in let q0 = q.0 in
            get_or-axis_by_axis (λ i j. i + j) (differences (first_of a lo) lo) (differences idx (first_of a lo)) k (omega (arith, l.in_lo)) (omega (arith, rank))
            ∙ rw (t.in_lo, e, t.first) (omega arith));
      },
    )

pub pair_down : (a b lo hi i : List ℕ) → Ranks a b lo hi → IsInside (sizes_of a b lo hi) i → Pair a b lo hi i (sums (first_of a lo) i)
pair_down a b lo hi i r v =
    let l = lengths_of a b lo hi r in
    let rank : length i ≡ length lo = inside-length (sizes_of a b lo hi) i v ∙ l.size in
    let n : length (sums (first_of a lo) i) ≡ length lo = length-axis_by_axis (λ i j. i + j) (first_of a lo) i (l.first ∙ sym rank) ∙ l.first in
    let here : (k : ℕ) → k < length lo → get_or (sums (first_of a lo) i) k 0 ≡ get_or (first_of a lo) k 0 + get_or i k 0 =
    λ k h. get_or-axis_by_axis (λ i j. i + j) (first_of a lo) i k (omega (arith, l.first)) (omega (arith, rank)) in
    let low : (k : ℕ) → k < length lo → get_or i k 0 < get_or (sizes_of a b lo hi) k 0 = λ k h. inside-at (sizes_of a b lo hi) i k v (omega (arith, l.size)) in
    record {
      inside = v;
      in_first = within_from a b (sums (first_of a lo) i) (r.a_rank ∙ sym n) (r.b_rank ∙ sym n)
          (λ k h. let m : k < length lo = omega (arith, n) in let t = at_of a b lo hi k r m in let e = here k m in let p = low k m in
          let t0 = t.first in let t1 = t.size in (omega arith, omega arith));
      in_second = within_from lo hi (sums (first_of a lo) i) (sym n) (r.hi_rank ∙ sym n)
          (λ k h. let m : k < length lo = omega (arith, n) in let t = at_of a b lo hi k r m in let e = here k m in let p = low k m in
          let t0 = t.first in let t1 = t.size in (omega arith, omega arith));
      from_first = axis_by_axis_from (λ i j. i - j) (sums (differences (first_of a lo) a) i) (sums (first_of a lo) i) a
          (length-axis_by_axis (λ i j. i + j) (differences (first_of a lo) a) i (l.in_a ∙ sym rank) ∙ l.in_a ∙ sym n) (n ∙ sym r.a_rank)
          (λ k h. let m : k < length lo = omega (arith, n) in let t = at_of a b lo hi k r m in let e = here k m in
          get_or-axis_by_axis (λ i j. i + j) (differences (first_of a lo) a) i k (omega (arith, l.in_a)) (omega (arith, rank))
          ∙ rw (t.in_a, e, t.first) (omega arith));
      from_second = axis_by_axis_from (λ i j. i - j) (sums (differences (first_of a lo) lo) i) (sums (first_of a lo) i) lo
          (length-axis_by_axis (λ i j. i + j) (differences (first_of a lo) lo) i (l.in_lo ∙ sym rank) ∙ l.in_lo ∙ sym n) n
          (λ k h. let m : k < length lo = omega (arith, n) in let t = at_of a b lo hi k r m in let e = here k m in
          get_or-axis_by_axis (λ i j. i + j) (differences (first_of a lo) lo) i k (omega (arith, l.in_lo)) (omega (arith, rank))
          ∙ rw (t.in_lo, e, t.first) (omega arith));
    }

-- an index of a region, counted from its corner, lies inside its sizes
pub within_sizes : (lo hi idx : List ℕ) → IsWithin lo hi idx → IsInside (differences hi lo) (differences idx lo)
within_sizes [] [] [] w = tt
within_sizes [] [] (i ∷ is) w = absurd w
within_sizes [] (h ∷ hs) is w = absurd w
within_sizes (l ∷ ls) [] is w = absurd w
within_sizes (l ∷ ls) (h ∷ hs) [] w = absurd w
within_sizes (l ∷ ls) (h ∷ hs) (i ∷ is) w = let p = w.0 in let q = w.1 in (omega arith, within_sizes ls hs is w.2)

pub within_same : (lo hi idx other : List ℕ) → IsWithin lo hi idx → IsWithin lo hi other → differences idx lo ≡ differences other lo → idx ≡ other
within_same [] [] [] [] v w e = refl
within_same [] [] [] (o ∷ os) v w e = absurd w
within_same [] [] (i ∷ is) other v w e = absurd v
within_same [] (h ∷ hs) is other v w e = absurd v
within_same (l ∷ ls) [] is other v w e = absurd v
within_same (l ∷ ls) (h ∷ hs) [] other v w e = absurd v
within_same (l ∷ ls) (h ∷ hs) (i ∷ is) [] v w e = absurd w
within_same (l ∷ ls) (h ∷ hs) (i ∷ is) (o ∷ os) v w e =
    let head : i - l ≡ o - l = cc in
    let tail : differences is ls ≡ differences os ls = cc in
    let p = v.0 in
    let q = w.0 in
    let same : i ≡ o = omega arith in
    let rest : is ≡ os = within_same ls hs is os v.2 w.2 tail in
    cc

-- an index counted from the corner of its chunk is its remainders
pub remainders_are : (idx chunk : List ℕ) → length idx ≡ length chunk → differences idx (products (quotients idx chunk) chunk) ≡ remainders idx chunk
remainders_are [] [] h = refl
remainders_are [] (c ∷ cs) h = absurd (omega arith)
remainders_are (i ∷ is) [] h = absurd (omega arith)
remainders_are (i ∷ is) (c ∷ cs) h =
    let d : i / c * c + i % c ≡ i = div-add-mod' i c in
    let e : i - i / c * c ≡ i % c = omega arith in
    let rest : differences is (products (quotients is cs) cs) ≡ remainders is cs = remainders_are is cs (omega arith) in
    rw (e, rest) refl

-- ---- a chunk of a grid and a region

pub ranks_of : (g : RegularGrid) (coord lo hi : List ℕ) → IsGrid g → IsCoordinate g coord → IsRegion g.shape lo hi → Ranks (chunk_lo g.chunk coord) (chunk_hi g.shape g.chunk coord) lo hi
ranks_of g coord lo hi ok here region =
    let b = bounds_of g.shape lo hi region in
    let a = bounds_of g.shape (chunk_lo g.chunk coord) (chunk_hi g.shape g.chunk coord) (region_inside g.shape g.chunk coord ok.positive ok.ranks here) in
    record { a_rank = a.lo_rank ∙ sym b.lo_rank; b_rank = a.hi_rank ∙ sym b.lo_rank; hi_rank = b.hi_rank ∙ sym b.lo_rank }

-- where an index of the chunk stands in it
pub chunk_rest : (g : RegularGrid) (coord idx : List ℕ) → IsGrid g → IsCoordinate g coord → IsInChunk g coord idx → differences idx (chunk_lo g.chunk coord) ≡ remainders idx g.chunk
chunk_rest g coord idx ok here w =
    let e = only_chunk g coord idx ok here w in
    let n = inside-length g.shape idx (in_array g coord idx ok here w) in
    ap (λ c. differences idx (products c g.chunk)) e ∙ remainders_are idx g.chunk (n ∙ sym ok.ranks)

pub chunk_rest_inside : (g : RegularGrid) (coord idx : List ℕ) → IsGrid g → IsCoordinate g coord → IsInChunk g coord idx → IsInside g.chunk (remainders idx g.chunk)
chunk_rest_inside g coord idx ok here w = inner_inside g idx ok (in_array g coord idx ok here w)

-- a region that lies inside the array has at most as many elements
pub few_elements : (g : RegularGrid) (lo hi : List ℕ) → IsGrid g → IsRegion g.shape lo hi → product (differences hi lo) ≤ 2 ^ 56
few_elements g lo hi ok region =
    let b = bounds_of g.shape lo hi region in
    let n : length (differences hi lo) ≡ length g.shape = length-axis_by_axis (λ i j. i - j) hi lo (b.hi_rank ∙ sym b.lo_rank) ∙ b.hi_rank in
    let most = product_most (differences hi lo) g.shape n
    (λ k h. let m : k < length g.shape = omega (arith, n) in let q = b.at k m in let q1 = q.1 in
    rw (get_or-axis_by_axis (λ i j. i - j) hi lo k (omega (arith, b.hi_rank)) (omega (arith, b.lo_rank))) (omega arith)) in
    let p = product_within (differences hi lo) in
    let e = ok.elements in
    omega arith

pub few_in_box : (g : RegularGrid) (sizes corner : List ℕ) → IsGrid g → length sizes ≡ length g.chunk → ((k : ℕ) → k < length sizes → get_or sizes k 0 ≤ get_or g.chunk k 0) → product sizes ≤ 2 ^ 40
few_in_box g sizes corner ok n h =
    let most = product_most sizes g.chunk n h in
    let p = product_within sizes in
    let e = ok.chunk_elements in
    let same = at_least_one_same g.chunk ok.positive in
    let bound : product (at_least_one g.chunk) ≤ 2 ^ 40 = rw same e in
    omega arith

module _ (g : RegularGrid) (coord lo hi : List ℕ) (ok : IsGrid g) (here : IsCoordinate g coord) (region : IsRegion g.shape lo hi) where
  abbrev a : List ℕ
  a = chunk_lo g.chunk coord

  abbrev b : List ℕ
  b = chunk_hi g.shape g.chunk coord

  r : Ranks a b lo hi
  r = ranks_of g coord lo hi ok here region

  abbrev sizes : List ℕ
  sizes = sizes_of a b lo hi

  abbrev in_chunk : List ℕ
  in_chunk = differences (first_of a lo) a

  abbrev in_region : List ℕ
  in_region = differences (first_of a lo) lo

  same_of : (i idx : List ℕ) → Pair a b lo hi i idx → IsSame (part g coord lo hi) sizes in_chunk in_region i idx
  same_of i idx p = record {
    inside = p.inside;
    chunk = p.in_first;
    region = p.in_second;
    of_chunk = p.from_first ∙ chunk_rest g coord idx ok here p.in_first;
    of_region = p.from_second;
  }

  chunk_rank : length g.chunk ≡ length lo
  chunk_rank = let e = bounds_of g.shape lo hi region in ok.ranks ∙ sym e.lo_rank

  inside_chunk : (i : List ℕ) → IsInside sizes i → IsInside g.chunk (sums in_chunk i)
  inside_chunk i h =
      let p = pair_down a b lo hi i r h in
      let idx = sums (first_of a lo) i in
      subst (λ (x : List ℕ). IsInside g.chunk x) (sym (p.from_first ∙ chunk_rest g coord (sums (first_of a lo) i) ok here p.in_first)) (chunk_rest_inside g coord (sums (first_of a lo) i) ok here p.in_first)

  inside_region : (i : List ℕ) → IsInside sizes i → IsInside (differences hi lo) (sums in_region i)
  inside_region i h =
      let p = pair_down a b lo hi i r h in
      subst (λ (x : List ℕ). IsInside (differences hi lo) x) (sym p.from_second) (within_sizes lo hi (sums (first_of a lo) i) p.in_second)

  small_on : (k : ℕ) → k < length lo → get_or sizes k 0 ≤ get_or g.chunk k 0
  small_on k h =
      let t = at_of a b lo hi k r h in
      let n = chunk_rank in
      let c = coordinate-length g coord ok here in
      let e = bounds_of g.shape lo hi region in
      let e0 = e.lo_rank in
      let ea = get_or-axis_by_axis (λ i c. i * c) coord g.chunk k (omega arith) (omega arith) in
      let m = length-axis_by_axis (λ c size. (c + 1) * size) coord g.chunk (c ∙ sym ok.ranks) in
      let eb = get_or-axis_by_axis min (axis_by_axis (λ c size. (c + 1) * size) coord g.chunk) g.shape k (omega arith) (omega arith) in
      let ec = get_or-axis_by_axis (λ c size. (c + 1) * size) coord g.chunk k (omega arith) (omega arith) in
      let z = t.size in
      bound (get_or coord k 0) (get_or g.chunk k 0) _ _ (get_or lo k 0) (get_or hi k 0) (get_or g.shape k 0) (get_or sizes k 0) ea (eb ∙ ap (λ n. min n (get_or g.shape k 0)) ec) z
    where
      bound : (x c al bh l h s z : ℕ) → al ≡ x * c → bh ≡ min ((x + 1) * c) s → z ≡ min bh h - max al l → z ≤ c
      bound x c al bh l h s z p q e =
          let w : (x + 1) * c ≡ x * c + c = omega arith in
          omega arith

  pub shared_of : IsSharedBox (part g coord lo hi) sizes in_chunk in_region
  shared_of =
      let l = lengths_of a b lo hi r in
      let n = chunk_rank in
      let e = bounds_of g.shape lo hi region in
      record {
        box_chunk = record { corner_rank = l.in_a ∙ sym l.size; shape_rank = n ∙ sym l.size; inside = inside_chunk };
        box_region = record {
          corner_rank = l.in_lo ∙ sym l.size;
          shape_rank = length-axis_by_axis (λ i j. i - j) hi lo r.hi_rank ∙ r.hi_rank ∙ sym l.size;
          inside = inside_region;
        };
        few = few_in_box g sizes lo ok (l.size ∙ sym n) (λ k h. small_on k (omega (arith, l.size)));
        all = λ idx v w. let (i, p) = pair_up a b lo hi idx r v w in (i, same_of i idx p);
        only = λ i h. (sums (first_of a lo) i, same_of i (sums (first_of a lo) i) (pair_down a b lo hi i r h));
      }
