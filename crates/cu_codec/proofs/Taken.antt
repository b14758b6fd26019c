-- What is copied between a chunk and a region, by the indices of its elements.
use Rattle.std.proofs.Common.{◌≡◌, ℕ, ℤ, List, [], ◌∷◌, length, Bool, true, false, refl, sym, ap, ◌∙◌, subst, arith}
use Rattle.std.specs.Prelude.{if◌then◌else◌}
use Rattle.std.proofs.lemmas.Nat.{div-mul-add, mod-mul-add}
use Rattle.cu_num.specs.Dtype.{size_of}
use Rattle.cu_num.specs.Element.{element_bytes, in_order}
use Rattle.cu_num.specs.declared.types.Dtype.{Dtype}
use Rattle.cu_num.specs.declared.layout.Endian.{Endian}
use Rattle.cu_num.specs.declared.layout.Endian.TheVariants.{Little}
use Rattle.cu_shape.specs.Index.{place_of, index_at, sums, products, quotients, remainders, IsInside, is_inside, differences}
use Rattle.cu_shape.proofs.Places.{inside-length, place-below, place-index, index-place, index-inside, inside_from_test, test_from_inside}
use Rattle.cu_grid.specs.Counts.{IsRegion, IsWithin}
use Rattle.cu_grid.specs.Grid.{RegularGrid, IsGrid, IsCoordinate, IsInChunk, index_at_place}
use Rattle.cu_grid.proofs.Covers.{bounds_of}
use Rattle.cu_grid.proofs.Meeting.{inside_from, within_of}
use Rattle.cu_grid.proofs.Parting.{lies_within, only_chunk, in_array}
use Rattle.cu_grid.proofs.Regions.{coordinate-length}
use Rattle.cu_zarr.proofs.Spelled.{rejoined}
use Rattle.cu_codec.specs.Box.{IsCopied, IsSharedBox}
use Rattle.cu_codec.specs.Parts.{part_at, place_within, part, HasFill, IsPartTaken, IsLaid}
use Rattle.cu_codec.proofs.Shared.{within_sizes, within_same}

-- what lies in a region lies in the array
pub region_in_array : (shape lo hi idx : List ℕ) → IsRegion shape lo hi → IsWithin lo hi idx → IsInside shape idx
region_in_array shape lo hi idx region w =
    let b = bounds_of shape lo hi region in
    let v = within_of lo hi idx w in
    let n : length idx ≡ length shape = sym v.lo_rank ∙ b.lo_rank in
    inside_from shape idx n (λ k h. let p = b.at k h in let q = v.at k (omega (arith, n)) in let p1 = p.1 in let q1 = q.1 in omega arith)

-- an index by its chunk and its place in it
pub corner_parts : (coord chunk i : List ℕ) → length coord ≡ length chunk → IsInside chunk i
    → (quotients (sums (products coord chunk) i) chunk ≡ coord) × (remainders (sums (products coord chunk) i) chunk ≡ i)
corner_parts [] [] [] n h = (refl, refl)
corner_parts [] [] (x ∷ i) n h = absurd h
corner_parts [] (c ∷ cs) i n h = absurd (omega arith)
corner_parts (q ∷ qs) [] i n h = absurd (omega arith)
corner_parts (q ∷ qs) (c ∷ cs) [] n h = absurd h
corner_parts (q ∷ qs) (c ∷ cs) (x ∷ i) n h =
    let rest = corner_parts qs cs i (omega arith) h.1 in
    (rw (div-mul-add q c x h.0, rest.0) refl, rw (mod-mul-add q c x h.0, rest.1) refl)

module _ (g : RegularGrid) (coord lo hi : List ℕ) (ok : IsGrid g) (here : IsCoordinate g coord) (region : IsRegion g.shape lo hi)
    (sizes in_chunk in_region : List ℕ) (shared : IsSharedBox (part g coord lo hi) sizes in_chunk in_region) where
  pub taken_of : (size : ℕ) (e : Endian) (bytes old new : List ℕ)
      → IsCopied size e (record { sizes = sizes; from = g.chunk; start = in_chunk; to = differences hi lo; corner = in_region }) bytes old new → IsPartTaken size e (part g coord lo hi) bytes old new
  taken_of size e bytes old new copy = record {
    taken = λ idx w q.
        let inside = region_in_array g.shape lo hi idx region w in
        let in_own : IsInChunk g coord idx = subst (λ (x : List ℕ). IsInChunk g x idx) q (lies_within g idx ok inside) in
        let (i, s) = shared.all idx in_own w in
        ap (λ n. part_at size new (place_of (differences hi lo) n)) (sym s.of_region) ∙ copy.copied i s.inside ∙ ap (λ n. in_order e (part_at size bytes (place_of g.chunk n))) s.of_chunk;
    others = λ idx w apart. copy.others (place_within lo hi idx) (place-below (differences hi lo) (differences idx lo) (within_sizes lo hi idx w))
        (λ i h at. let (other, s) = shared.only i h in
        let place : sums in_region i ≡ differences idx lo = sym (index-place (differences hi lo) (sums in_region i) (shared.box_region.inside i h)) ∙ ap (index_at (differences hi lo)) at
        ∙ index-place (differences hi lo) (differences idx lo) (within_sizes lo hi idx w) in
        let same : other ≡ idx = within_same lo hi other idx s.region w (sym s.of_region ∙ place) in
        apart (ap (λ x. quotients x g.chunk) (sym same) ∙ sym (only_chunk g coord other ok here s.chunk)));
  }

  pub laid_of : (t : Dtype) (fill : ℤ) (input old new : List ℕ) → ((idx : List ℕ) → IsInChunk g coord idx → IsWithin lo hi idx)
      → IsCopied (size_of t) Little (record { sizes = sizes; from = differences hi lo; start = in_region; to = g.chunk; corner = in_chunk }) input old new
      → HasFill g t fill coord old
      → IsLaid t fill (part g coord lo hi) input new
  laid_of t fill input old new whole copy filled p below = by_test (is_inside g.shape (index_at_place g.chunk coord p)) refl
    where
      rank : length coord ≡ length g.chunk
      rank = coordinate-length g coord ok here ∙ sym ok.ranks

      parts : (quotients (index_at_place g.chunk coord p) g.chunk ≡ coord) × (remainders (index_at_place g.chunk coord p) g.chunk ≡ index_at g.chunk p)
      parts = corner_parts coord g.chunk (index_at g.chunk p) rank (index-inside g.chunk p below)

      by_test : (b : Bool) → is_inside g.shape (index_at_place g.chunk coord p) ≡ b
          → part_at (size_of t) new p ≡ (if is_inside g.shape (index_at_place g.chunk coord p)
          then part_at (size_of t) input (place_within lo hi (index_at_place g.chunk coord p)) else element_bytes Little t fill)
      by_test true e =
          let idx = index_at_place g.chunk coord p in
          let inside = inside_from_test g.shape (index_at_place g.chunk coord p) e in
          let in_own : IsInChunk g coord (index_at_place g.chunk coord p) =
          subst (λ (x : List ℕ). IsInChunk g x (index_at_place g.chunk coord p)) parts.0 (lies_within g (index_at_place g.chunk coord p) ok inside) in
          let (i, s) = shared.all (index_at_place g.chunk coord p) in_own (whole (index_at_place g.chunk coord p) in_own) in
          let at : place_of g.chunk (sums in_chunk i) ≡ p = ap (place_of g.chunk) (s.of_chunk ∙ parts.1) ∙ place-index g.chunk p below in
          rw e (ap (part_at (size_of t) new) (sym at) ∙ copy.copied i s.inside ∙ ap (λ n. part_at (size_of t) input (place_of (differences hi lo) n)) s.of_region)
      by_test false e =
          rw e (copy.others p below
          (λ i h at. let (other, s) = shared.only i h in
          let place : index_at g.chunk p ≡ remainders other g.chunk = ap (index_at g.chunk) (sym at)
          ∙ index-place g.chunk (sums in_chunk i) (shared.box_chunk.inside i h) ∙ s.of_chunk in
          let inside = in_array g coord other ok here s.chunk in
          let n = inside-length g.shape other inside in
          let same : index_at_place g.chunk coord p ≡ other = ap (λ x. sums (products coord g.chunk) x) place
          ∙ ap (λ x. sums (products x g.chunk) (remainders other g.chunk)) (only_chunk g coord other ok here s.chunk)
          ∙ rejoined other g.chunk (n ∙ sym ok.ranks) in
          let test : is_inside g.shape (index_at_place g.chunk coord p) ≡ true = ap (is_inside g.shape) same ∙ test_from_inside g.shape other inside in
          cc)
          ∙ filled p below e)
