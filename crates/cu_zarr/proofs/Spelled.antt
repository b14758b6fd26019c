-- The stored elements of a chunk that is spelled are the elements that it spells.
use Rattle.std.proofs.Common.{◌≡◌, ℕ, ℤ, List, [], ◌∷◌, length, true, Option, Some, None, option_map, refl, sym, ap, ◌∙◌, arith, eq-eqb, nat_eq}
use Rattle.std.proofs.lemmas.Nat.{div-add-mod'}
use Rattle.cu_num.specs.Dtype.{size_of, InRange}
use Rattle.cu_num.specs.Element.{element_at, element_bytes, bytes_at}
use Rattle.cu_num.proofs.ElementBytes.{length-element_bytes, element_at_own, element_at-element_bytes_in_range}
use Rattle.cu_shape.specs.Index.{product, IsInside, place_of, quotients, remainders, sums, products}
use Rattle.cu_shape.proofs.Places.{place-below, index-place, test_from_inside}
use Rattle.cu_zarr.specs.Layout.{ArrayLayout, stored_chunk_bytes, index_in_chunk}
use Rattle.cu_zarr.specs.Spelling.{padded_element, spelled}
use Rattle.cu_zarr.specs.Stored.{element_in}
use Rattle.cu_zarr.proofs.Joined.{joined_parts}

-- an index is its chunk's corner and its place in the chunk
pub rejoined : (idx chunk : List ℕ) → length idx ≡ length chunk → sums (products (quotients idx chunk) chunk) (remainders idx chunk) ≡ idx
rejoined [] [] same = refl
rejoined [] (c ∷ cs) same = refl
rejoined (i ∷ is) [] same = absurd (omega (arith, same))
rejoined (i ∷ is) (c ∷ cs) same =
    let rest : length is ≡ length cs = omega (arith, same) in
    rw (div-add-mod' i c, rejoined is cs rest) refl

-- The place of an index in its chunk leads back to the index.
pub index_in_chunk_again : (l : ArrayLayout) (idx : List ℕ) → length idx ≡ length l.chunk → IsInside l.chunk (remainders idx l.chunk)
    → index_in_chunk l (quotients idx l.chunk) (place_of l.chunk (remainders idx l.chunk)) ≡ idx
index_in_chunk_again l idx same inside = rw (index-place l.chunk (remainders idx l.chunk) inside) (rejoined idx l.chunk same)

padded_inside : (l : ArrayLayout) (f : List ℕ → Option ℤ) (coord idx : List ℕ) (p : ℕ) → index_in_chunk l coord p ≡ idx → IsInside l.shape idx
    → padded_element l f coord p ≡ f idx
padded_inside l f coord idx p here inside = rw (here, test_from_inside l.shape idx inside) refl

part_length : (l : ArrayLayout) (x : Option ℤ) (b : List ℕ) → option_map (element_bytes l.endian l.dtype) x ≡ Some b → length b ≡ size_of l.dtype
part_length l None b e = cc
part_length l (Some x) b e = let same : element_bytes l.endian l.dtype x ≡ b = cc in rw (← same) (length-element_bytes l.endian l.dtype x)

-- the bytes of a spelled chunk: how many they are
pub length-spelled : (l : ArrayLayout) (f : List ℕ → Option ℤ) (coord bytes : List ℕ) → spelled l f coord ≡ Some bytes → length bytes ≡ stored_chunk_bytes l
length-spelled l f coord bytes e =
    (joined_parts (size_of l.dtype) (product l.chunk) _ bytes (λ p b part. part_length l (padded_element l f coord p) b part) e).0

same_value : (a b : List ℕ) → Some a ≡ Some b → a ≡ b
same_value a b e = cc

-- Each element inside the shape is read back from the chunk that is spelled.
pub spelled_element : (l : ArrayLayout) (f : List ℕ → Option ℤ) (idx bytes : List ℕ) (x : ℤ)
    → spelled l f (quotients idx l.chunk) ≡ Some bytes → length idx ≡ length l.chunk → IsInside l.chunk (remainders idx l.chunk) → IsInside l.shape idx
    → f idx ≡ Some x → InRange l.dtype x → element_in l (Some bytes) idx ≡ Some x
spelled_element l f idx bytes x e same in_chunk inside is fits =
    let p : ℕ = place_of l.chunk (remainders idx l.chunk) in
    let (long, parts) = joined_parts (size_of l.dtype) (product l.chunk) (λ p. option_map (element_bytes l.endian l.dtype) (padded_element l f (quotients idx l.chunk) p)) bytes (λ p b part. part_length l (padded_element l f (quotients idx l.chunk) p) b part) e in
    let part = parts p (place-below l.chunk (remainders idx l.chunk) in_chunk) in
    let padded_is : padded_element l f (quotients idx l.chunk) p ≡ Some x = padded_inside l f _ idx p (index_in_chunk_again l idx same in_chunk) inside ∙ is in
    let own : element_bytes l.endian l.dtype x ≡ bytes_at l.dtype bytes p = same_value _ _ (sym (ap (option_map (element_bytes l.endian l.dtype)) padded_is) ∙ part) in
    let test : nat_eq (length bytes) (stored_chunk_bytes l) ≡ true = eq-eqb _ _ long in
    rw test (ap Some (element_at_own l.endian l.dtype bytes p ∙ ap (λ own. element_at l.endian l.dtype own 0) (sym own) ∙ element_at-element_bytes_in_range l.endian l.dtype x fits))
