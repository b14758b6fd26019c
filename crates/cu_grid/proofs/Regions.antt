-- Chunks as regions of an array.
use Rattle.std.proofs.Common.{◌≡◌, ◌<◌, ◌≤◌, ℕ, zero, suc, ◌+◌, ◌*◌, ◌^◌, List, [], ◌∷◌, length, min, get_or, All, set, inl, inr, ◌≢◌, ap, ◌∙◌, sym, arith}
use Rattle.std.specs.Int.{div_ceil}
use Rattle.std.proofs.lemmas.List.{get_or-set_same, get_or-set_other}
use Rattle.std.proofs.lemmas.Bool.Decides.{eqb_tells}
use Rattle.std.proofs.lemmas.List.Elements.{All-get_or}
use Rattle.cu_shape.specs.Index.{product, IsInside, axis_by_axis}
use Rattle.cu_shape.proofs.Axes.{length-axis_by_axis, get_or-axis_by_axis, axis_by_axis_from}
use Rattle.cu_shape.proofs.Places.{inside-length}
use Rattle.cu_grid.specs.Counts.{counts_of, chunk_lo, chunk_hi, at_least_one, IsRegion}
use Rattle.cu_grid.specs.Grid.{RegularGrid, IsGrid, IsCoordinate}
use Rattle.cu_shape.proofs.Rounded.{before_end}
use Rattle.cu_shape.proofs.Products.{size_within, at_least_one_same}

-- an index inside, read at an axis
pub inside-at : (ds is : List ℕ) (k : ℕ) → IsInside ds is → k < length ds → get_or is k 0 < get_or ds k 0
inside-at [] is k h p = absurd (omega arith)
inside-at (d ∷ ds) [] k h p = absurd h
inside-at (d ∷ ds) (i ∷ is) zero h p = h.0
inside-at (d ∷ ds) (i ∷ is) (suc k) h p = inside-at ds is k h.1 (omega arith)

pub coordinate-length : (g : RegularGrid) (coord : List ℕ) → IsGrid g → IsCoordinate g coord → length coord ≡ length g.shape
coordinate-length g coord k h = inside-length (counts_of g.shape g.chunk) coord h ∙ length-axis_by_axis div_ceil g.shape g.chunk (sym k.ranks)

-- a chunk begins inside the array on each axis, and its sizes are bounded
pub record Bounded (g : RegularGrid) (coord : List ℕ) (k : ℕ) : Type 0 where
  pub starts : get_or coord k 0 * get_or g.chunk k 0 < get_or g.shape k 0
  pub shape_small : get_or g.shape k 0 ≤ 2 ^ 56
  pub chunk_small : get_or g.chunk k 0 ≤ 2 ^ 40

pub bounded : (g : RegularGrid) (coord : List ℕ) (k : ℕ) → IsGrid g → IsCoordinate g coord → k < length g.shape → Bounded g coord k
bounded g coord k ok h l =
    let r = ok.ranks in
    let e = get_or-axis_by_axis div_ceil g.shape g.chunk k l (omega arith) in
    let n = length-axis_by_axis div_ceil g.shape g.chunk (sym r) in
    let i : get_or coord k 0 < get_or (counts_of g.shape g.chunk) k 0 = inside-at (counts_of g.shape g.chunk) coord k h (omega arith) in
    let s = size_within g.shape k l in
    let c : get_or g.chunk k 0 ≤ product (at_least_one g.chunk) = size_within g.chunk k (omega arith) in
    let c2 = rw (at_least_one_same g.chunk ok.positive) at c in
    let b1 = ok.elements in
    let b2 = ok.chunk_elements in
    record {
      starts = before_end (get_or g.shape k 0) (get_or g.chunk k 0) (get_or coord k 0) (All-get_or (λ (n : ℕ). 0 < n) g.chunk k 0 (omega arith) ok.positive) (omega arith);
      shape_small = omega arith;
      chunk_small = omega arith;
    }

-- the chunk's region lies inside the array
pub region_inside : (shape chunk coord : List ℕ) → All (λ c. 0 < c) chunk → length chunk ≡ length shape → IsInside (counts_of shape chunk) coord → IsRegion shape (chunk_lo chunk coord) (chunk_hi shape chunk coord)
region_inside [] [] [] p e h = tt
region_inside [] [] (i ∷ is) p e h = absurd h
region_inside [] (c ∷ cs) is p e h = absurd (omega arith)
region_inside (n ∷ ns) [] is p e h = absurd (omega arith)
region_inside (n ∷ ns) (c ∷ cs) [] p e h = absurd h
region_inside (n ∷ ns) (c ∷ cs) (i ∷ is) p e h =
    let b : i * c < n = before_end n c i (p 0 0 (omega arith)) h.0 in
    (omega arith, omega arith, region_inside ns cs is (λ k d l. p (suc k) d (omega arith)) (omega arith) h.1)

pub lo_from : (lo chunk coord : List ℕ) → length lo ≡ length coord → length coord ≡ length chunk → ((k : ℕ) → k < length coord → get_or lo k 0 ≡ get_or coord k 0 * get_or chunk k 0) → lo ≡ chunk_lo chunk coord
lo_from lo chunk coord p q h = axis_by_axis_from (λ i c. i * c) lo coord chunk p q h

pub hi_from : (hi shape chunk coord : List ℕ) → length hi ≡ length coord → length coord ≡ length chunk → length coord ≡ length shape → ((k : ℕ) → k < length coord → get_or hi k 0 ≡ min ((get_or coord k 0 + 1) * get_or chunk k 0) (get_or shape k 0)) → hi ≡ chunk_hi shape chunk coord
hi_from hi shape chunk coord p q r h =
    let m = length-axis_by_axis (λ c size. (c + 1) * size) coord chunk q in
    axis_by_axis_from min hi (axis_by_axis (λ c size. (c + 1) * size) coord chunk) shape (p ∙ sym m) (m ∙ r)
    (λ k l. let b : k < length coord = omega arith in h k b ∙ ap (λ n. min n (get_or shape k 0)) (sym (get_or-axis_by_axis (λ c size. (c + 1) * size) coord chunk k b (omega arith))))

-- one entry more is written
pub written_more : (xs ys : List ℕ) (f : ℕ → ℕ) (n v : ℕ) → n < length xs → ys ≡ set xs n v → v ≡ f n → ((k : ℕ) → k < n → get_or xs k 0 ≡ f k) → (k : ℕ) → k < n + 1 → get_or ys k 0 ≡ f k
written_more xs ys f n v l e w h k b =
    elim (eqb_tells k n) [
      | inl p ↦ rw (p.1, e) (get_or-set_same xs n v 0 l ∙ w)
      | inr p ↦ let ne : k ≢ n = p.1 in rw e (get_or-set_other xs n k v 0 ne ∙ h k (omega arith))
    ]
