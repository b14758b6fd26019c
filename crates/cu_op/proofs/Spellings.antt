-- The spelling of a chunk, and the elements at its indices.
use Rattle.std.proofs.Common.{◌≡◌, inl, inr, ℕ, zero, suc, ◌<◌, ◌+◌, ◌*◌, ℤ, List, [], ◌∷◌, length, Option, None, Some, option_map, refl, ap, sym, ◌∙◌, arith}
use Rattle.cu_num.specs.Dtype.{size_of}
use Rattle.cu_num.specs.Element.{element_bytes}
use Rattle.cu_num.proofs.ElementBytes.{length-element_bytes}
use Rattle.cu_shape.specs.Index.{product, IsInside, is_inside, place_of, index_at, remainders, sums, products}
use Rattle.cu_shape.proofs.Places.{inside-length, place-below, index-inside, inside_from_test, test_from_inside}
use Rattle.cu_grid.specs.Counts.{counts_of, chunk_lo, chunk_hi, IsWithin}
use Rattle.cu_grid.specs.Grid.{RegularGrid, IsGrid, IsCoordinate, IsInChunk}
use Rattle.cu_grid.proofs.Parting.{only_chunk, in_array, inner_inside}
use Rattle.cu_zarr.specs.Layout.{ArrayLayout, index_in_chunk}
use Rattle.cu_zarr.specs.Spelling.{parts_in_order, padded_element, spelled}
use Rattle.cu_zarr.proofs.Joined.{joined_parts}
use Rattle.cu_zarr.proofs.Spelled.{index_in_chunk_again}
use Rattle.cu_op.proofs.Members.{bool_cases}

-- the grid of a layout
abbrev pub grid_of : ArrayLayout → RegularGrid
grid_of l = record { shape = l.shape; chunk = l.chunk }

-- ---- a chunk that has a spelling has its elements

padded_at : (l : ArrayLayout) (f : List ℕ → Option ℤ) (coord idx : List ℕ) (p : ℕ) → index_in_chunk l coord p ≡ idx → IsInside l.shape idx → padded_element l f coord p ≡ f idx
padded_at l f coord idx p here inside = rw (here, test_from_inside l.shape idx inside) refl

some_number : (l : ArrayLayout) (x : Option ℤ) (b : List ℕ) → option_map (element_bytes l.endian l.dtype) x ≡ Some b → (n : ℤ) × (x ≡ Some n)
some_number l None b e = cc
some_number l (Some n) b e = (n, refl)

part_length : (l : ArrayLayout) (x : Option ℤ) (b : List ℕ) → option_map (element_bytes l.endian l.dtype) x ≡ Some b → length b ≡ size_of l.dtype
part_length l None b e = cc
part_length l (Some x) b e = let same : element_bytes l.endian l.dtype x ≡ b = cc in rw (← same) (length-element_bytes l.endian l.dtype x)

pub defined_at : (l : ArrayLayout) (f : List ℕ → Option ℤ) (coord idx bytes : List ℕ) → IsGrid (grid_of l) → IsCoordinate (grid_of l) coord
    → spelled l f coord ≡ Some bytes → IsInChunk (grid_of l) coord idx → (x : ℤ) × (f idx ≡ Some x)
defined_at l f coord idx bytes ok here e within =
    let g = grid_of l in
    let own = only_chunk g coord idx ok here within in
    let inside : IsInside l.shape idx = in_array g coord idx ok here within in
    let inner : IsInside l.chunk (remainders idx l.chunk) = inner_inside g idx ok inside in
    let p = place_of l.chunk (remainders idx l.chunk) in
    let ranks : length idx ≡ length l.chunk = inside-length l.shape idx inside ∙ sym ok.ranks in
    let again : index_in_chunk l coord p ≡ idx = ap (λ x. index_in_chunk l x p) own ∙ index_in_chunk_again l idx ranks inner in
    let parts = (joined_parts (size_of l.dtype) (product l.chunk) (λ q. option_map (element_bytes l.endian l.dtype) (padded_element l f coord q)) bytes (λ q b part. part_length l (padded_element l f coord q) b part) e).1 in
    let n = some_number l (padded_element l f coord p) _ (parts p (place-below l.chunk (remainders idx l.chunk) inner)) in
    (n.0, sym (padded_at l f coord idx p again inside) ∙ n.1)

-- ---- arrays that agree in a chunk spell it alike

joined_alike : (part other : ℕ → Option (List ℕ)) (n : ℕ) → ((p : ℕ) → p < n → part p ≡ other p) → parts_in_order part n ≡ parts_in_order other n
joined_alike part other zero h = refl
joined_alike part other (suc n) h =
    let front = joined_alike part other n (λ p b. h p (omega arith)) in
    let last = h n (omega arith) in
    rw (front, last) refl

-- a place of the chunk inside the array's shape lies in the chunk
place_within : (shape chunk coord is : List ℕ) → length coord ≡ length chunk → IsInside chunk is → IsInside shape (sums (products coord chunk) is)
    → IsWithin (chunk_lo chunk coord) (chunk_hi shape chunk coord) (sums (products coord chunk) is)
place_within [] [] [] [] e h k = tt
place_within (n ∷ ns) (c ∷ cs) (q ∷ qs) (i ∷ is) e h k =
    let next : (q + 1) * c ≡ q * c + c = omega arith in
    let small : i < c = h.0 in
    let inside : q * c + i < n = k.0 in
    (omega arith, omega arith, place_within ns cs qs is (omega arith) h.1 k.1)
place_within (n ∷ ns) [] [] [] e h k = absurd k
place_within [] (c ∷ cs) (q ∷ qs) (i ∷ is) e h k = absurd k
place_within shape chunk coord is e h k = absurd (first_of (assumption, omega arith))

pub spelled_alike : (l : ArrayLayout) (f g : List ℕ → Option ℤ) (coord : List ℕ) → IsGrid (grid_of l) → IsCoordinate (grid_of l) coord
    → ((idx : List ℕ) → IsInChunk (grid_of l) coord idx → f idx ≡ g idx) → spelled l f coord ≡ spelled l g coord
spelled_alike l f g coord ok here same =
    joined_alike (λ p. option_map (element_bytes l.endian l.dtype) (padded_element l f coord p)) (λ p. option_map (element_bytes l.endian l.dtype) (padded_element l g coord p)) (product l.chunk)
    (λ p b. ap (option_map (element_bytes l.endian l.dtype)) (at p b))
  where
    at : (p : ℕ) → p < product l.chunk → padded_element l f coord p ≡ padded_element l g coord p
    at p b =
        elim (bool_cases (is_inside l.shape (index_in_chunk l coord p))) [
          | inl t ↦
              let inside = inside_from_test l.shape (index_in_chunk l coord p) t in
              let ranks : length coord ≡ length l.chunk = coordinate_rank in
              rw t (same (index_in_chunk l coord p) (place_within l.shape l.chunk coord (index_at l.chunk p) ranks (index-inside l.chunk p b) inside))
          | inr t ↦ rw t refl
        ]
      where
        coordinate_rank : length coord ≡ length l.chunk
        coordinate_rank = inside-length (counts_of l.shape l.chunk) coord here ∙ counted l.shape l.chunk ok.ranks
          where
            counted : (ns cs : List ℕ) → length cs ≡ length ns → length (counts_of ns cs) ≡ length cs
            counted [] [] e = refl
            counted [] (c ∷ cs) e = absurd (omega arith)
            counted (n ∷ ns) [] e = absurd (omega arith)
            counted (n ∷ ns) (c ∷ cs) e = ap suc (counted ns cs (omega arith))
