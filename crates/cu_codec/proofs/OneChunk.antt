-- A region that is one whole chunk, axis by axis.
use Rattle.std.proofs.Common.{◌≡◌, ℕ, ◌+◌, ◌-◌, ◌*◌, ◌/◌, ◌%◌, ◌<◌, List, [], ◌∷◌, length, get_or, true, refl, sym, ap, ◌∙◌, arith}
use Rattle.std.specs.Prelude.{ℤ}
use Rattle.std.proofs.lemmas.Nat.{div-mul-add, mod-mul-add}
use Rattle.cu_num.specs.Dtype.{size_of}
use Rattle.cu_num.specs.declared.types.Dtype.{Dtype}
use Rattle.cu_shape.specs.Index.{product, place_of, index_at, products, sums, quotients, remainders, is_inside, IsInside, differences}
use Rattle.cu_shape.proofs.Axes.{get_or-axis_by_axis, length-axis_by_axis, axis_by_axis_from}
use Rattle.cu_shape.proofs.Places.{inside-length, index-inside, place-index, test_from_inside}
use Rattle.cu_grid.specs.Counts.{IsRegion, IsWithin}
use Rattle.cu_grid.specs.Grid.{RegularGrid, IsGrid, IsCoordinate, index_at_place}
use Rattle.cu_grid.proofs.Covers.{bounds_of}
use Rattle.cu_grid.proofs.Regions.{coordinate-length}
use Rattle.cu_codec.specs.Parts.{part, part_at, place_within, HasFill, IsLaid, IsWholeChunk}

pub one_chunk_at : (chunk coord lo hi : List ℕ) (k : ℕ) → length coord ≡ length chunk → k < length chunk → IsWholeChunk chunk coord lo hi
    → (get_or lo k 0 ≡ get_or coord k 0 * get_or chunk k 0) × (get_or hi k 0 ≡ get_or lo k 0 + get_or chunk k 0)
one_chunk_at chunk coord lo hi k rank below one =
    let long = length-axis_by_axis (λ i c. i * c) coord chunk rank in
    let first = get_or-axis_by_axis (λ i c. i * c) coord chunk k (omega arith) below in
    let last = get_or-axis_by_axis (λ i j. i + j) (products coord chunk) chunk k (omega arith) below in (
      ap (λ x. get_or x k 0) one.0 ∙ first,
      ap (λ x. get_or x k 0) one.1 ∙ last ∙ ap (λ x. get_or x k 0 + get_or chunk k 0) (sym one.0),
    )

pub one_chunk_from : (chunk coord lo hi : List ℕ) → length coord ≡ length chunk → length lo ≡ length chunk → length hi ≡ length chunk
    → ((k : ℕ) → k < length chunk → (get_or lo k 0 ≡ get_or coord k 0 * get_or chunk k 0) × (get_or hi k 0 ≡ get_or lo k 0 + get_or chunk k 0))
    → IsWholeChunk chunk coord lo hi
one_chunk_from chunk coord lo hi rank lo_rank hi_rank axes =
    let first : lo ≡ products coord chunk = axis_by_axis_from (λ i c. i * c) lo coord chunk (lo_rank ∙ sym rank) rank (λ k b. (axes k (omega arith)).0) in
    let last : hi ≡ sums lo chunk = axis_by_axis_from (λ i j. i + j) hi lo chunk (hi_rank ∙ sym lo_rank) lo_rank (λ k b. (axes k (omega arith)).1) in
    (first, last ∙ ap (λ x. sums x chunk) first)

-- as many axes everywhere
pub record Sides (chunk coord lo hi : List ℕ) : Type 0 where
  pub coord_rank : length coord ≡ length chunk
  pub lo_rank : length lo ≡ length chunk
  pub hi_rank : length hi ≡ length chunk

pub sides_of : (g : RegularGrid) (coord lo hi : List ℕ) → IsGrid g → IsCoordinate g coord → IsRegion g.shape lo hi → Sides g.chunk coord lo hi
sides_of g coord lo hi ok here region =
    let b = bounds_of g.shape lo hi region in
    record {
      coord_rank = coordinate-length g coord ok here ∙ sym ok.ranks;
      lo_rank = b.lo_rank ∙ sym ok.ranks;
      hi_rank = b.hi_rank ∙ sym ok.ranks;
    }

-- the indices of a whole chunk that lies in the array lie in it
inside_whole : (shape chunk coord i : List ℕ) → length shape ≡ length chunk → length coord ≡ length chunk → IsInside chunk i
    → IsRegion shape (products coord chunk) (sums (products coord chunk) chunk) → IsInside shape (sums (products coord chunk) i)
inside_whole [] [] [] [] shape_rank rank inside whole = tt
inside_whole [] [] [] (x ∷ i) shape_rank rank inside whole = absurd inside
inside_whole [] [] (q ∷ coord) i shape_rank rank inside whole = absurd (omega arith)
inside_whole [] (c ∷ chunk) coord i shape_rank rank inside whole = absurd (omega arith)
inside_whole (n ∷ shape) [] coord i shape_rank rank inside whole = absurd (omega arith)
inside_whole (n ∷ shape) (c ∷ chunk) [] i shape_rank rank inside whole = absurd (omega arith)
inside_whole (n ∷ shape) (c ∷ chunk) (q ∷ coord) [] shape_rank rank inside whole = absurd inside
inside_whole (n ∷ shape) (c ∷ chunk) (q ∷ coord) (x ∷ i) shape_rank rank inside whole =
    let below = inside.0 in
    let most = whole.1 in
    (omega arith, inside_whole shape chunk coord i (omega arith) (omega arith) inside.1 whole.2)

-- the sizes of a region that is one chunk
pub one_chunk_sizes : (chunk coord : List ℕ) → length coord ≡ length chunk → differences (sums (products coord chunk) chunk) (products coord chunk) ≡ chunk
one_chunk_sizes [] [] rank = refl
one_chunk_sizes [] (q ∷ coord) rank = absurd (omega arith)
one_chunk_sizes (c ∷ chunk) [] rank = absurd (omega arith)
one_chunk_sizes (c ∷ chunk) (q ∷ coord) rank =
    let rest = one_chunk_sizes chunk coord (omega arith) in
    let first : q * c + c - q * c ≡ c = omega arith in
    cc

-- an index of such a region lies in the chunk, and stands there where it stands in the region
pub in_one_chunk : (chunk coord idx : List ℕ) → length coord ≡ length chunk → IsWithin (products coord chunk) (sums (products coord chunk) chunk) idx
    → (quotients idx chunk ≡ coord) × (differences idx (products coord chunk) ≡ remainders idx chunk)
in_one_chunk [] [] [] rank w = (refl, refl)
in_one_chunk [] [] (x ∷ idx) rank w = absurd w
in_one_chunk [] (q ∷ coord) idx rank w = absurd (omega arith)
in_one_chunk (c ∷ chunk) [] idx rank w = absurd (omega arith)
in_one_chunk (c ∷ chunk) (q ∷ coord) [] rank w = absurd w
in_one_chunk (c ∷ chunk) (q ∷ coord) (x ∷ idx) rank w =
    let rest = in_one_chunk chunk coord idx (omega arith) w.2 in
    let low = w.0 in
    let high = w.1 in
    let is : x ≡ q * c + (x - q * c) = omega arith in
    let quotient : x / c ≡ q = ap (λ n. n / c) is ∙ div-mul-add q c (x - q * c) (omega arith) in
    let remainder : x % c ≡ x - q * c = ap (λ n. n % c) is ∙ mod-mul-add q c (x - q * c) (omega arith) in
    (rw (quotient, rest.0) refl, rw (remainder, rest.1) refl)

-- a place of the chunk is the same place of the region
place_again : (chunk coord i : List ℕ) → length coord ≡ length chunk → length i ≡ length chunk → differences (sums (products coord chunk) i) (products coord chunk) ≡ i
place_again [] [] [] rank same = refl
place_again [] [] (x ∷ i) rank same = absurd (omega arith)
place_again [] (q ∷ coord) i rank same = absurd (omega arith)
place_again (c ∷ chunk) [] i rank same = absurd (omega arith)
place_again (c ∷ chunk) (q ∷ coord) [] rank same = absurd (omega arith)
place_again (c ∷ chunk) (q ∷ coord) (x ∷ i) rank same =
    let rest = place_again chunk coord i (omega arith) (omega arith) in
    let first : q * c + x - q * c ≡ x = omega arith in
    cc

module _ (g : RegularGrid) (coord lo hi : List ℕ) (ok : IsGrid g) (here : IsCoordinate g coord) (region : IsRegion g.shape lo hi) (one : IsWholeChunk g.chunk coord lo hi) where
  rank : length coord ≡ length g.chunk
  rank = coordinate-length g coord ok here ∙ sym ok.ranks

  inside_test : (p : ℕ) → p < product g.chunk → is_inside g.shape (index_at_place g.chunk coord p) ≡ true
  inside_test p below =
      let whole : IsRegion g.shape (products coord g.chunk) (sums (products coord g.chunk) g.chunk) = rw (one.0, one.1) at region in
      test_from_inside g.shape (index_at_place g.chunk coord p) (inside_whole g.shape g.chunk coord (index_at g.chunk p) (sym ok.ranks) rank (index-inside g.chunk p below) whole)

  -- a chunk that is whole has no element past the edge
  pub no_fill : (t : Dtype) (fill : ℤ) (new : List ℕ) → HasFill g t fill coord new
  no_fill t fill new p below outside = let test = inside_test p below in cc

  pub one_chunk_differences : differences hi lo ≡ g.chunk
  one_chunk_differences = ap (λ x. differences x lo) one.1 ∙ ap (differences (sums (products coord g.chunk) g.chunk)) one.0 ∙ one_chunk_sizes g.chunk coord rank

  -- the region's buffer is the chunk
  pub whole_laid : (t : Dtype) (fill : ℤ) (input : List ℕ) → IsLaid t fill (part g coord lo hi) input input
  whole_laid t fill input p below =
      let i = index_at g.chunk p in
      let place : place_within lo hi (index_at_place g.chunk coord p) ≡ p =
      ap (λ x. place_of x (differences (index_at_place g.chunk coord p) lo)) one_chunk_differences
      ∙ ap (λ x. place_of g.chunk (differences (index_at_place g.chunk coord p) x)) one.0
      ∙ ap (place_of g.chunk) (place_again g.chunk coord (index_at g.chunk p) rank (inside-length g.chunk (index_at g.chunk p) (index-inside g.chunk p below)))
      ∙ place-index g.chunk p below in
      rw (inside_test p below) (ap (part_at (size_of t) input) (sym place))

  -- an index of the region is one of the chunk, and its place is that in the chunk
  pub one_chunk_place : (idx : List ℕ) → IsWithin lo hi idx → (quotients idx g.chunk ≡ coord) × (place_within lo hi idx ≡ place_of g.chunk (remainders idx g.chunk))
  one_chunk_place idx w =
      let within = rw (one.0, one.1) at w in
      let at = in_one_chunk g.chunk coord idx rank within in
      (at.0, ap (λ x. place_of x (differences idx lo)) one_chunk_differences ∙ ap (λ x. place_of g.chunk (differences idx x)) one.0 ∙ ap (place_of g.chunk) at.1)
