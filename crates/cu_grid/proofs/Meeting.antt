-- The chunks of a cover are those that share an element with the region, in the order of their places.
use Rattle.std.proofs.Common.{◌≡◌, ◌<◌, ◌≤◌, ◌↔◌, ◌⊎◌, ℕ, zero, suc, ◌+◌, ◌-◌, ◌*◌, ◌/◌, ◌%◌, List, [], ◌∷◌, map, length, min, max, get_or, Contains, refl, ap, subst, ◌∙◌, sym, arith, inl, inr}
use Rattle.std.specs.Int.{div_ceil}
use Rattle.std.specs.List.{range_with_len}
use Rattle.std.specs.List.Sorted.{IsStrictlyIncreasing}
use Rattle.std.proofs.Math.Nat.{lt-div-mul-add}
use Rattle.std.proofs.lemmas.Bool.{cases_lt}
use Rattle.std.proofs.lemmas.Nat.{mul-le, div_below, div-add-mod', mod_below}
use Rattle.std.proofs.lemmas.List.{get_or-map, length-map}
use Rattle.std.proofs.lemmas.List.Elements.{All-get_or}
use Rattle.std.proofs.lemmas.List.FromFn.{length-map-range_with_len, get_or-map-range_with_len}
use Rattle.cu_shape.specs.Index.{product, IsInside, axis_by_axis, index_at, place_of, quotients, sums, products}
use Rattle.cu_shape.proofs.Axes.{length-axis_by_axis, get_or-axis_by_axis, axis_by_axis_from}
use Rattle.cu_shape.proofs.Places.{inside-length, index-inside, index-place, place-below, size_positive}
use Rattle.cu_grid.specs.Counts.{counts_of, chunk_lo, chunk_hi, IsRegion, IsWithin}
use Rattle.cu_grid.specs.Cover.{Meets, span_on, spans_of, covering}
use Rattle.cu_grid.specs.Grid.{RegularGrid, IsGrid, IsCoordinate}
use Rattle.cu_shape.proofs.Rounded.{before_end, within_counts}
use Rattle.cu_grid.proofs.Regions.{inside-at}
use Rattle.cu_grid.proofs.Covers.{span_cases, length-spans_of, get_or-spans_of, bounds_of, Bounds}

-- ---- facts of lists, axis by axis
pub inside_from : (ds is : List ℕ) → length is ≡ length ds → ((k : ℕ) → k < length ds → get_or is k 0 < get_or ds k 0) → IsInside ds is
inside_from [] [] e h = tt
inside_from [] (i ∷ is) e h = absurd (omega arith)
inside_from (d ∷ ds) [] e h = absurd (omega arith)
inside_from (d ∷ ds) (i ∷ is) e h = (h 0 (omega arith), inside_from ds is (omega arith) (λ k b. h (suc k) (omega arith)))

pub within_from : (lo hi is : List ℕ) → length lo ≡ length is → length hi ≡ length is → ((k : ℕ) → k < length is → (get_or lo k 0 ≤ get_or is k 0) × (get_or is k 0 < get_or hi k 0)) → IsWithin lo hi is
within_from [] [] [] p q h = tt
within_from [] [] (i ∷ is) p q h = absurd (omega arith)
within_from [] (x ∷ hi) [] p q h = absurd (omega arith)
within_from [] (x ∷ hi) (i ∷ is) p q h = absurd (omega arith)
within_from (l ∷ lo) [] [] p q h = absurd (omega arith)
within_from (l ∷ lo) [] (i ∷ is) p q h = absurd (omega arith)
within_from (l ∷ lo) (x ∷ hi) [] p q h = absurd (omega arith)
within_from (l ∷ lo) (x ∷ hi) (i ∷ is) p q h =
    let z = h 0 (omega arith) in
    (z.0, z.1, within_from lo hi is (omega arith) (omega arith) (λ k b. h (suc k) (omega arith)))

pub record Within (lo hi is : List ℕ) : Type 0 where
  pub lo_rank : length lo ≡ length is
  pub hi_rank : length hi ≡ length is
  pub at : (k : ℕ) → k < length is → (get_or lo k 0 ≤ get_or is k 0) × (get_or is k 0 < get_or hi k 0)

within_more : (ls hs is : List ℕ) (l h i : ℕ) → l ≤ i → i < h → Within ls hs is → Within (l ∷ ls) (h ∷ hs) (i ∷ is)
within_more ls hs is l h i p q w = record { lo_rank = ap suc w.lo_rank; hi_rank = ap suc w.hi_rank; at = at }
  where
    at : (k : ℕ) → k < length (i ∷ is) → (get_or (l ∷ ls) k 0 ≤ get_or (i ∷ is) k 0) × (get_or (i ∷ is) k 0 < get_or (h ∷ hs) k 0)
    at zero b = (p, q)
    at (suc k) b = w.at k (omega arith)

pub within_of : (lo hi is : List ℕ) → IsWithin lo hi is → Within lo hi is
within_of [] [] [] w = record { lo_rank = refl; hi_rank = refl; at = λ k b. absurd (omega arith) }
within_of [] [] (i ∷ is) w = absurd w
within_of [] (x ∷ hi) is w = absurd w
within_of (l ∷ lo) [] is w = absurd w
within_of (l ∷ lo) (x ∷ hi) [] w = absurd w
within_of (l ∷ lo) (x ∷ hi) (i ∷ is) w = within_more lo hi is l x i w.0 w.1 (within_of lo hi is w.2)

-- ---- one axis
pub axis_meets : (n l h c i : ℕ) → 0 < c → h ≤ n → i < span_on l h c → (l ≤ max l ((l / c + i) * c)) × (max l ((l / c + i) * c) < h) × ((l / c + i) * c ≤ max l ((l / c + i) * c)) × (max l ((l / c + i) * c) < min ((l / c + i + 1) * c) n)
axis_meets n l h c i hc hn hi =
    elim (span_cases l h c) [
      | inl s ↦
          let e = s.1 in
          let lt = s.0 in
          let q : (l / c + i) * c < h = before_end h c (l / c + i) hc (omega arith) in
          let a : l < l / c * c + c = lt-div-mul-add {a = l} {b = c} hc in
          let m : l / c * c ≤ (l / c + i) * c = mul-le (l / c) c (l / c + i) c (omega arith) (omega arith) in
          (omega arith, omega arith, omega arith, omega arith)
      | inr s ↦ absurd (let e = s.1 in omega arith)
    ]

pub axis_back : (n l h c q x : ℕ) → 0 < c → l ≤ x → x < h → q * c ≤ x → x < min ((q + 1) * c) n → (l / c ≤ q) × (q - l / c < span_on l h c)
axis_back n l h c q x hc a b d e =
    let f : l / c < q + 1 = div_below l c (q + 1) hc (omega arith) in
    let g : q < div_ceil h c = within_counts h c q hc (omega arith) in
    elim (span_cases l h c) [
      | inl s ↦ let w = s.1 in (omega arith, omega arith)
      | inr s ↦ absurd (let w = s.0 in omega arith)
    ]

-- ---- a chunk of the box meets the region
module _ (g : RegularGrid) (lo hi : List ℕ) (ok : IsGrid g) (region : IsRegion g.shape lo hi) where
  abbrev corner : List ℕ
  corner = quotients lo g.chunk

  abbrev spans : List ℕ
  spans = spans_of lo hi g.chunk

  bounds : Bounds g.shape lo hi
  bounds = bounds_of g.shape lo hi region

  record Ranks : Type 0 where
    lo_rank : length lo ≡ length g.chunk
    hi_rank : length hi ≡ length g.chunk
    corner_rank : length (quotients lo g.chunk) ≡ length g.chunk
    spans_rank : length (spans_of lo hi g.chunk) ≡ length g.chunk

  ranks : Ranks
  ranks =
      let r = ok.ranks in
      let p : length lo ≡ length g.chunk = bounds.lo_rank ∙ sym ok.ranks in
      let q : length hi ≡ length g.chunk = bounds.hi_rank ∙ sym ok.ranks in
      record {
        lo_rank = p;
        hi_rank = q;
        corner_rank = length-axis_by_axis (λ i c. i / c) lo g.chunk p ∙ p;
        spans_rank = length-spans_of lo hi g.chunk p q;
      }

  positive : (k : ℕ) → k < length g.chunk → 0 < get_or g.chunk k 0
  positive k b = All-get_or (λ (n : ℕ). 0 < n) g.chunk k 0 b ok.positive

  coord_at : (i : List ℕ) (k : ℕ) → IsInside spans i → k < length g.chunk → get_or (sums corner i) k 0 ≡ get_or lo k 0 / get_or g.chunk k 0 + get_or i k 0
  coord_at i k h b =
      let r = ranks in
      let r1 = r.lo_rank in
      let r2 = r.corner_rank in
      let r3 = r.spans_rank in
      let li = inside-length (spans_of lo hi g.chunk) i h in
      get_or-axis_by_axis (λ p q. p + q) (quotients lo g.chunk) i k (omega arith) (omega arith)
      ∙ ap (λ n. n + get_or i k 0) (get_or-axis_by_axis (λ p c. p / c) lo g.chunk k (omega arith) b)

  length-coord : (i : List ℕ) → IsInside spans i → length (sums corner i) ≡ length g.chunk
  length-coord i h =
      let r = ranks in
      let r2 = r.corner_rank in
      let r3 = r.spans_rank in
      let li = inside-length (spans_of lo hi g.chunk) i h in
      length-axis_by_axis (λ p q. p + q) (quotients lo g.chunk) i (omega arith) ∙ r.corner_rank

  meets_at : (i : List ℕ) (k : ℕ) → IsInside spans i → k < length g.chunk
      → let l = get_or lo k 0 in let c = get_or g.chunk k 0 in let q = get_or lo k 0 / get_or g.chunk k 0 + get_or i k 0 in
      (l ≤ max l (q * c)) × (max l (q * c) < get_or hi k 0) × (q * c ≤ max l (q * c)) × (max l (q * c) < min ((q + 1) * c) (get_or g.shape k 0))
  meets_at i k h b =
      let r = ranks in
      let e = ok.ranks in
      let s = get_or-spans_of lo hi g.chunk k r.lo_rank r.hi_rank b in
      let r3 = r.spans_rank in
      let v = inside-at (spans_of lo hi g.chunk) i k h (omega arith) in
      let w = rw s at v in
      axis_meets (get_or g.shape k 0) (get_or lo k 0) (get_or hi k 0) (get_or g.chunk k 0) (get_or i k 0) (positive k b) (bounds.at k (omega arith)).1 w

  -- an index in both: on each axis the greater of the two beginnings
  abbrev shared : List ℕ → List ℕ
  shared coord = axis_by_axis max lo (products coord g.chunk)

  length-shared : (coord : List ℕ) → length coord ≡ length g.chunk → length (shared coord) ≡ length g.chunk
  length-shared coord e =
      let r = ranks in
      let p = length-axis_by_axis (λ i c. i * c) coord g.chunk e in
      length-axis_by_axis max lo (products coord g.chunk) (r.lo_rank ∙ sym (p ∙ e)) ∙ r.lo_rank

  lo_at : (coord : List ℕ) (k : ℕ) → length coord ≡ length g.chunk → k < length g.chunk → get_or (products coord g.chunk) k 0 ≡ get_or coord k 0 * get_or g.chunk k 0
  lo_at coord k e b = get_or-axis_by_axis (λ i c. i * c) coord g.chunk k (omega arith) b

  hi_at : (coord : List ℕ) (k : ℕ) → length coord ≡ length g.chunk → k < length g.chunk → get_or (chunk_hi g.shape g.chunk coord) k 0 ≡ min ((get_or coord k 0 + 1) * get_or g.chunk k 0) (get_or g.shape k 0)
  hi_at coord k e b =
      let r = ok.ranks in
      let p = length-axis_by_axis (λ c size. (c + 1) * size) coord g.chunk e in
      get_or-axis_by_axis min (axis_by_axis (λ c size. (c + 1) * size) coord g.chunk) g.shape k (omega arith) (omega arith)
      ∙ ap (λ n. min n (get_or g.shape k 0)) (get_or-axis_by_axis (λ c size. (c + 1) * size) coord g.chunk k (omega arith) b)

  shared_at : (coord : List ℕ) (k : ℕ) → length coord ≡ length g.chunk → k < length g.chunk → get_or (shared coord) k 0 ≡ max (get_or lo k 0) (get_or coord k 0 * get_or g.chunk k 0)
  shared_at coord k e b =
      let r = ranks in
      let r1 = r.lo_rank in
      let p = length-axis_by_axis (λ i c. i * c) coord g.chunk e in
      get_or-axis_by_axis max lo (products coord g.chunk) k (omega arith) (omega arith) ∙ ap (max (get_or lo k 0)) (lo_at coord k e b)

  length-chunk_hi : (coord : List ℕ) → length coord ≡ length g.chunk → length (chunk_hi g.shape g.chunk coord) ≡ length g.chunk
  length-chunk_hi coord e =
      let p = length-axis_by_axis (λ c size. (c + 1) * size) coord g.chunk e in
      length-axis_by_axis min (axis_by_axis (λ c size. (c + 1) * size) coord g.chunk) g.shape (p ∙ (e ∙ ok.ranks)) ∙ (p ∙ e)

  coordinate_inside : (i : List ℕ) → IsInside spans i → IsCoordinate g (sums corner i)
  coordinate_inside i h =
      let e = ok.ranks in
      let lc = length-coord i h in
      let n = length-axis_by_axis div_ceil g.shape g.chunk (sym ok.ranks) in
      inside_from (counts_of g.shape g.chunk) (sums corner i) (omega arith) (λ k b.
      let bc : k < length g.chunk = omega arith in
      let m = meets_at i k h bc in
      let m2 = m.2 in
      let m3 = m.3 in
      rw (coord_at i k h bc, get_or-axis_by_axis div_ceil g.shape g.chunk k (omega arith) bc)
      (within_counts (get_or g.shape k 0) (get_or g.chunk k 0) (get_or lo k 0 / get_or g.chunk k 0 + get_or i k 0) (positive k bc) (omega arith)))

  pub meets_inside : (i : List ℕ) → IsInside spans i → Meets g lo hi (sums corner i)
  meets_inside i h =
      let r = ranks in
      let r1 = r.lo_rank in
      let r2 = r.hi_rank in
      let e = length-coord i h in
      let ls = length-shared (sums corner i) e in
      let lh = length-chunk_hi (sums corner i) e in
      let ll = length-axis_by_axis (λ p c. p * c) (sums corner i) g.chunk e in (
        coordinate_inside i h,
        (
          shared (sums corner i),
          within_from lo hi (shared (sums corner i)) (omega arith) (omega arith) (λ k b.
              let bc : k < length g.chunk = omega arith in
              let m = meets_at i k h bc in
              rw (shared_at (sums corner i) k e bc, coord_at i k h bc) (m.0, m.1)),
          within_from (chunk_lo g.chunk (sums corner i)) (chunk_hi g.shape g.chunk (sums corner i)) (shared (sums corner i)) (omega arith) (omega arith) (λ k b.
              let bc : k < length g.chunk = omega arith in
              let m = meets_at i k h bc in
              rw (shared_at (sums corner i) k e bc, lo_at (sums corner i) k e bc, hi_at (sums corner i) k e bc, coord_at i k h bc) (m.2, m.3)),
        ),
      )

  -- ---- a chunk that meets the region is in the box
  away : List ℕ → List ℕ
  away coord = axis_by_axis (λ q l. q - l) coord corner

  record Back (coord : List ℕ) : Type 0 where
    inside : IsInside spans (axis_by_axis (λ q l. q - l) coord corner)
    same : coord ≡ sums corner (axis_by_axis (λ q l. q - l) coord corner)

  coord-rank : (coord : List ℕ) → IsCoordinate g coord → length coord ≡ length g.chunk
  coord-rank coord h = inside-length (counts_of g.shape g.chunk) coord h ∙ (length-axis_by_axis div_ceil g.shape g.chunk (sym ok.ranks) ∙ sym ok.ranks)

  away_at : (coord : List ℕ) (k : ℕ) → length coord ≡ length g.chunk → k < length g.chunk → get_or (axis_by_axis (λ q l. q - l) coord corner) k 0 ≡ get_or coord k 0 - get_or lo k 0 / get_or g.chunk k 0
  away_at coord k e b =
      let r = ranks in
      let r1 = r.lo_rank in
      let r2 = r.corner_rank in
      get_or-axis_by_axis (λ q l. q - l) coord (quotients lo g.chunk) k (omega arith) (omega arith)
      ∙ ap (λ n. get_or coord k 0 - n) (get_or-axis_by_axis (λ p c. p / c) lo g.chunk k (omega arith) b)

  back_at : (coord : List ℕ) (k : ℕ) → Meets g lo hi coord → k < length g.chunk → (get_or lo k 0 / get_or g.chunk k 0 ≤ get_or coord k 0) × (get_or coord k 0 - get_or lo k 0 / get_or g.chunk k 0 < span_on (get_or lo k 0) (get_or hi k 0) (get_or g.chunk k 0))
  back_at coord k m b =
      let e = coord-rank coord m.0 in
      let w = within_of lo hi m.1.0 m.1.1 in
      let v = within_of (chunk_lo g.chunk coord) (chunk_hi g.shape g.chunk coord) m.1.0 m.1.2 in
      let r = ranks in
      let r1 = r.lo_rank in
      let wl = w.lo_rank in
      let wa = w.at k (omega arith) in
      let va = v.at k (omega arith) in
      let va2 = rw (lo_at coord k e b, hi_at coord k e b) at va in
      axis_back (get_or g.shape k 0) (get_or lo k 0) (get_or hi k 0) (get_or g.chunk k 0) (get_or coord k 0) (get_or m.1.0 k 0) (positive k b) wa.0 wa.1 va2.0 va2.1

  back : (coord : List ℕ) → Meets g lo hi coord → Back coord
  back coord m =
      let e = coord-rank coord m.0 in
      let r = ranks in
      let r1 = r.lo_rank in
      let r2 = r.corner_rank in
      let r3 = r.spans_rank in
      let la : length (axis_by_axis (λ q l. q - l) coord corner) ≡ length coord = length-axis_by_axis (λ q l. q - l) coord (quotients lo g.chunk) (omega arith) in
      record {
        inside = inside_from (spans_of lo hi g.chunk) (axis_by_axis (λ q l. q - l) coord corner) (omega arith) (λ k b.
            let bc : k < length g.chunk = omega arith in
            rw (away_at coord k e bc, get_or-spans_of lo hi g.chunk k r.lo_rank r.hi_rank bc) (back_at coord k m bc).1);
        same = axis_by_axis_from (λ p q. p + q) coord corner (axis_by_axis (λ q l. q - l) coord corner) (omega arith) (omega arith) (λ k b.
            let bc : k < length g.chunk = omega arith in
            let f = (back_at coord k m bc).0 in
            rw (away_at coord k e bc, get_or-axis_by_axis (λ p c. p / c) lo g.chunk k (omega arith) bc) (omega arith));
      }

  -- ---- the list
  coord_of : ℕ → List ℕ
  coord_of p = sums corner (index_at spans p)

  pub covers_only : (coord : List ℕ) → Contains (covering g.chunk lo hi) coord → Meets g lo hi coord
  covers_only coord h =
      let n = length-map-range_with_len (λ p. sums corner (index_at spans p)) 0 (product spans) in
      let b : h.0 < product spans = (let q = h.1 in omega arith) in
      let e : get_or (covering g.chunk lo hi) h.0 coord ≡ sums corner (index_at spans h.0) =
      get_or-map-range_with_len (λ p. sums corner (index_at spans p)) 0 (product spans) h.0 h.0 coord b (omega arith) in
      let s : sums corner (index_at spans h.0) ≡ coord = sym e ∙ h.2 in
      subst (λ (x : List ℕ). Meets g lo hi x) s (meets_inside (index_at spans h.0) (index-inside spans h.0 b))

  pub covers_each : (coord : List ℕ) → Meets g lo hi coord → Contains (covering g.chunk lo hi) coord
  covers_each coord m =
      let w = back coord m in
      let i = axis_by_axis (λ q l. q - l) coord corner in
      let p = place_of spans i in
      let b : place_of spans i < product spans = place-below spans i w.inside in
      let n = length-map-range_with_len (λ p. sums corner (index_at spans p)) 0 (product spans) in
      let e : get_or (covering g.chunk lo hi) (place_of spans i) coord ≡ sums corner (index_at spans (place_of spans i)) =
      get_or-map-range_with_len (λ p. sums corner (index_at spans p)) 0 (product spans) (place_of spans i) (place_of spans i) coord b (omega arith) in
      (place_of spans i, omega arith, e ∙ (ap (sums corner) (index-place spans i w.inside) ∙ sym w.same))

-- ---- the order
later_row : (a b r t p : ℕ) → r < p → t < p → a * p + r < b * p + t → (a < b) ⊎ ((a ≡ b) × (r < t))
later_row a b r t p hr ht h =
    elim (cases_lt a b) [
      | inl l ↦ inl l
      | inr m ↦ elim (cases_lt b a) [
        | inl l ↦ absurd (let q : (b + 1) * p ≤ a * p = mul-le (b + 1) p a p (omega arith) (omega arith) in omega arith)
        | inr n ↦ let e : a ≡ b = omega arith in let q : a * p ≡ b * p = ap (λ x. x * p) e in inr (e, omega arith)
      ]
    ]

-- a later place of a box is a later place of the array
pub place_later : (spans corner counts : List ℕ) (p q : ℕ) → length corner ≡ length spans → p < q → q < product spans → ((is : List ℕ) → IsInside spans is → IsInside counts (sums corner is)) → place_of counts (sums corner (index_at spans p)) < place_of counts (sums corner (index_at spans q))
place_later [] corner counts p q e l b h = absurd (omega arith)
place_later (s ∷ ss) [] counts p q e l b h = absurd (omega arith)
place_later (s ∷ ss) (f ∷ fs) [] p q e l b h = absurd (h (index_at (s ∷ ss) q) (index-inside (s ∷ ss) q b))
place_later (s ∷ ss) (f ∷ fs) (n ∷ ns) p q e l b h =
    let pos = size_positive (s ∷ ss) 0 (omega arith) (omega arith) in
    let small : 0 < product ss = pos.1 in
    let rp : p % product ss < product ss = mod_below p (product ss) small in
    let rq : q % product ss < product ss = mod_below q (product ss) small in
    let dp : p / product ss * product ss + p % product ss ≡ p = div-add-mod' p (product ss) in
    let dq : q / product ss * product ss + q % product ss ≡ q = div-add-mod' q (product ss) in
    let rest : (is : List ℕ) → IsInside ss is → IsInside ns (sums fs is) = λ is i. (h (0 ∷ is) (pos.0, i)).1 in
    let ip : IsInside ns (sums fs (index_at ss (p % product ss))) = rest (index_at ss (p % product ss)) (index-inside ss (p % product ss) rp) in
    let bp : place_of ns (sums fs (index_at ss (p % product ss))) < product ns = place-below ns (sums fs (index_at ss (p % product ss))) ip in
    elim (later_row (p / product ss) (q / product ss) (p % product ss) (q % product ss) (product ss) rp rq (omega arith)) [
      | inl lt ↦
          let m : (f + p / product ss + 1) * product ns ≤ (f + q / product ss) * product ns =
          mul-le (f + p / product ss + 1) (product ns) (f + q / product ss) (product ns) (omega arith) (omega arith) in
          omega arith
      | inr same ↦
          let i : place_of ns (sums fs (index_at ss (p % product ss))) < place_of ns (sums fs (index_at ss (q % product ss))) =
          place_later ss fs ns (p % product ss) (q % product ss) (omega arith) same.1 rq rest in
          let m : (f + p / product ss) * product ns ≡ (f + q / product ss) * product ns = ap (λ a. (f + a) * product ns) same.0 in
          omega arith
    ]

place_at : (f : List ℕ → ℕ) (coord : ℕ → List ℕ) (n p : ℕ) → p < n → get_or (map f (map coord (range_with_len 0 n))) p 0 ≡ f (coord p)
place_at f coord n p b =
    let l = length-map-range_with_len coord 0 n in
    get_or-map f (map coord (range_with_len 0 n)) p [] 0 (omega arith) ∙ ap f (get_or-map-range_with_len coord 0 n p p [] b (omega arith))

pub covers_in_order : (g : RegularGrid) (lo hi : List ℕ) → IsGrid g → IsRegion g.shape lo hi → IsStrictlyIncreasing (map (place_of (counts_of g.shape g.chunk)) (covering g.chunk lo hi))
covers_in_order g lo hi ok region k b =
    let n = product (spans_of lo hi g.chunk) in
    let r = ranks g lo hi ok region in
    let l = length-map (covering g.chunk lo hi) (place_of (counts_of g.shape g.chunk)) in
    let m = length-map-range_with_len (λ p. sums (quotients lo g.chunk) (index_at (spans_of lo hi g.chunk) p)) 0 (product (spans_of lo hi g.chunk)) in
    let x = place_at (place_of (counts_of g.shape g.chunk)) (λ p. sums (quotients lo g.chunk) (index_at (spans_of lo hi g.chunk) p)) (product (spans_of lo hi g.chunk)) k (omega arith) in
    let y = place_at (place_of (counts_of g.shape g.chunk)) (λ p. sums (quotients lo g.chunk) (index_at (spans_of lo hi g.chunk) p)) (product (spans_of lo hi g.chunk)) (k + 1) (omega arith) in
    rw (x, y) (place_later (spans_of lo hi g.chunk) (quotients lo g.chunk) (counts_of g.shape g.chunk) k (k + 1)
    (r.corner_rank ∙ sym r.spans_rank) (omega arith) (omega arith) (coordinate_inside g lo hi ok region))

-- what is said of a list that is the cover
pub exact_of : (g : RegularGrid) (lo hi : List ℕ) (r : List (List ℕ)) → IsGrid g → IsRegion g.shape lo hi → r ≡ covering g.chunk lo hi → (coord : List ℕ) → (Contains r coord) ↔ (Meets g lo hi coord)
exact_of g lo hi r ok region e coord = (
  λ h. covers_only g lo hi ok region coord (subst (λ (x : List (List ℕ)). Contains x coord) e h),
  λ m. subst (λ (x : List (List ℕ)). Contains x coord) (sym e) (covers_each g lo hi ok region coord m),
)

pub order_of : (g : RegularGrid) (lo hi : List ℕ) (r : List (List ℕ)) → IsGrid g → IsRegion g.shape lo hi → r ≡ covering g.chunk lo hi → IsStrictlyIncreasing (map (place_of (counts_of g.shape g.chunk)) r)
order_of g lo hi r ok region e = subst (λ (x : List (List ℕ)). IsStrictlyIncreasing (map (place_of (counts_of g.shape g.chunk)) x)) (sym e) (covers_in_order g lo hi ok region)
