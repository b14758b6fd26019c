-- The bytes of a chunk that is laid out of all elements are its value.
use Rattle.std.proofs.Common.{◌≡◌, ℕ, zero, suc, ◌+◌, ◌-◌, ◌*◌, ◌<◌, ◌≤◌, ◌^◌, ℤ, List, [], ◌∷◌, length, replicate, get_or, All, Option, Some, None, Bool, true, false, option_map, refl, sym, ap, ◌∙◌, arith, nat_lt, inl, inr, ◌≢◌}
use Rattle.std.specs.Prelude.{if◌then◌else◌, slice_get, pos, not, ◌==◌}
use Rattle.std.specs.List.{list_any}
use Rattle.std.proofs.lemmas.List.{take_all}
use Rattle.std.proofs.lemmas.Nat.{mul-le}
use Rattle.std.proofs.lemmas.Option.{slice_get-get_or, get_or_from_slice_get}
use Rattle.std.proofs.Math.Nat.{eq-or-lt_of_le}
use Rattle.cu_num.specs.Dtype.{size_of}
use Rattle.cu_num.specs.Element.{element_bytes}
use Rattle.cu_num.specs.declared.types.Dtype.{Dtype}
use Rattle.cu_num.specs.declared.layout.Endian.TheVariants.{Little}
use Rattle.cu_num.proofs.ElementBytes.{written_at, bytes_at-written_at_same, bytes_at-written_at_other, length-element_bytes}
use Rattle.cu_shape.specs.Index.{product, place_of, is_inside, IsInside, differences}
use Rattle.cu_shape.proofs.Places.{inside-length, inside_from_test, index-inside, place-below}
use Rattle.cu_grid.specs.Counts.{counts_of, at_least_one, IsWithin, IsRegion}
use Rattle.cu_grid.specs.Grid.{RegularGrid, IsGrid, IsCoordinate, IsInChunk}
use Rattle.cu_grid.specs.Limits.{first_fault, IsWithinLimits}
use Rattle.cu_grid.specs.declared.fault.GridFault.TheVariants.{ZeroChunk, Rank, TooManyElements, TooManyChunks, ChunkTooLarge}
use Rattle.cu_grid.proofs.Parting.{in_array}
use Rattle.cu_grid.proofs.Products.{product_within, size_within}
use Rattle.cu_grid.proofs.Regions.{inside-at}
use Rattle.cu_zarr.specs.Layout.{stored_chunk_bytes, index_in_chunk}
use Rattle.cu_zarr.specs.Spelling.{padded_element, spelled}
use Rattle.cu_zarr.proofs.Joined.{joined_by_place}
use Rattle.cu_codec.specs.Parts.{part, part_at, place_within, IsLaid}
use Rattle.cu_load.specs.Load.{HasBytes, given_at, chunks_in, given_coord}
use Rattle.cu_load.specs.LoadForm.{GivenArray, IsGivenArray}

-- ---- the bytes of the elements

pub element_fits : (count size at : ℕ) → at < count → at * size + size ≤ count * size
element_fits count size at below =
    let far : suc at * size ≤ count * size = mul-le (suc at) size count size below (omega arith) in
    omega arith

abbrev pub AreSaved : Dtype → List ℤ → List ℕ → ℕ → Type 0
AreSaved t elements bytes n = (p : ℕ) (x : ℤ) → p < n → slice_get elements p ≡ Some x → part_at (size_of t) bytes p ≡ element_bytes Little t x

pub one_more_saved : (t : Dtype) (elements : List ℤ) (old new : List ℕ) (at : ℕ) → at * size_of t + size_of t ≤ length old
    → new ≡ written_at t old at (element_bytes Little t (get_or elements at (pos 0))) → AreSaved t elements old at → AreSaved t elements new (at + 1)
one_more_saved t elements old new at fits is before p x below here =
    elim (eq-or-lt_of_le (le_of_lt_more p at below)) [
      | inl same ↦
          let element : get_or elements p (pos 0) ≡ x = get_or_from_slice_get elements p x (pos 0) here in
          rw (is, same) (bytes_at-written_at_same t old (element_bytes Little t (get_or elements at (pos 0))) at (length-element_bytes Little t (get_or elements at (pos 0))) fits
          ∙ ap (element_bytes Little t) (ap (λ (q : ℕ). get_or elements q (pos 0)) (sym same) ∙ element))
      | inr earlier ↦
          let apart : p ≢ at = omega arith in
          rw is (bytes_at-written_at_other t old (element_bytes Little t (get_or elements at (pos 0))) at p apart (length-element_bytes Little t (get_or elements at (pos 0))) fits
          ∙ before p x earlier here)
    ]
  where
    le_of_lt_more : (p n : ℕ) → p < n + 1 → p ≤ n
    le_of_lt_more p n below = omega arith

-- ---- the region that is the whole array

within_all : (shape idx : List ℕ) → IsInside shape idx → IsWithin (replicate (length shape) 0) shape idx
within_all [] [] h = tt
within_all [] (i ∷ is) h = absurd h
within_all (n ∷ ns) [] h = absurd h
within_all (n ∷ ns) (i ∷ is) h = (omega arith, h.0, within_all ns is h.1)

pub whole_chunk : (g : RegularGrid) (coord lo hi : List ℕ) → IsGrid g → IsCoordinate g coord → lo ≡ replicate (length g.shape) 0 → hi ≡ g.shape
    → (idx : List ℕ) → IsInChunk g coord idx → IsWithin lo hi idx
whole_chunk g coord lo hi ok here low high idx own = rw (low, high) (within_all g.shape idx (in_array g coord idx ok here own))

region_at : (shape : List ℕ) → IsRegion shape (replicate (length shape) 0) shape
region_at [] = tt
region_at (n ∷ ns) = (omega arith, omega arith, region_at ns)

pub whole_region : (shape lo hi : List ℕ) → lo ≡ replicate (length shape) 0 → hi ≡ shape → IsRegion shape lo hi
whole_region shape lo hi low high = rw (low, high) (region_at shape)

differences_zero : (shape xs : List ℕ) → length xs ≡ length shape → differences xs (replicate (length shape) 0) ≡ xs
differences_zero [] [] same = refl
differences_zero [] (x ∷ xs) same = absurd (omega arith)
differences_zero (n ∷ ns) [] same = absurd (omega arith)
differences_zero (n ∷ ns) (x ∷ xs) same =
    let rest = differences_zero ns xs (omega arith) in
    let first : x - 0 ≡ x = omega arith in
    cc

pub whole_sizes : (shape lo hi : List ℕ) → lo ≡ replicate (length shape) 0 → hi ≡ shape → differences hi lo ≡ shape
whole_sizes shape lo hi low high = rw (low, high) (differences_zero shape shape refl)

whole_place : (shape lo hi idx : List ℕ) → lo ≡ replicate (length shape) 0 → hi ≡ shape → length idx ≡ length shape → place_within lo hi idx ≡ place_of shape idx
whole_place shape lo hi idx low high same = rw (low, high, differences_zero shape shape refl, differences_zero shape idx same) refl

-- ---- the bytes of a chunk

part_given : (a : GivenArray) (coord lo hi input new : List ℕ) (p : ℕ) (b : Bool) → IsGivenArray a → HasBytes a.layout.dtype a.elements input
    → lo ≡ replicate (length a.layout.shape) 0 → hi ≡ a.layout.shape → is_inside a.layout.shape (index_in_chunk a.layout coord p) ≡ b
    → part_at (size_of a.layout.dtype) new p ≡ (if is_inside a.layout.shape (index_in_chunk a.layout coord p)
    then part_at (size_of a.layout.dtype) input (place_within lo hi (index_in_chunk a.layout coord p)) else element_bytes Little a.layout.dtype a.layout.fill)
    → option_map (element_bytes a.layout.endian a.layout.dtype) (padded_element a.layout (given_at a) coord p) ≡ Some (part_at (size_of a.layout.dtype) new p)
part_given a coord lo hi input new p true ok bytes low high test laid =
    let idx : List ℕ = index_in_chunk a.layout coord p in
    let inside = inside_from_test a.layout.shape idx test in
    let place : place_within lo hi idx ≡ place_of a.layout.shape idx = whole_place a.layout.shape lo hi idx low high (inside-length a.layout.shape idx inside) in
    let below : place_of a.layout.shape idx < length a.elements = rw ok.count (place-below a.layout.shape idx inside) in
    let x : ℤ = get_or a.elements (place_of a.layout.shape idx) (pos 0) in
    let is : given_at a idx ≡ Some x = slice_get-get_or a.elements (place_of a.layout.shape idx) (pos 0) below in
    let own = bytes.parts (place_of a.layout.shape idx) x is in
    let laid_in = rw test at laid in
    rw (test, is, ok.order) (ap Some (sym (laid_in ∙ ap (part_at (size_of a.layout.dtype) input) place ∙ own)))
part_given a coord lo hi input new p false ok bytes low high test laid =
    let laid_out = rw test at laid in
    rw (test, ok.order) (ap Some (sym laid_out))

pub laid_value : (a : GivenArray) (coord lo hi input new : List ℕ) → IsGivenArray a
    → HasBytes a.layout.dtype a.elements input → lo ≡ replicate (length a.layout.shape) 0 → hi ≡ a.layout.shape
    → IsLaid a.layout.dtype a.layout.fill (part (record { shape = a.layout.shape; chunk = a.layout.chunk }) coord lo hi) input new → length new ≡ stored_chunk_bytes a.layout
    → spelled a.layout (given_at a) coord ≡ Some new
laid_value a coord lo hi input new ok bytes low high laid long =
    joined_by_place (size_of a.layout.dtype) (product a.layout.chunk)
    (λ p. option_map (element_bytes a.layout.endian a.layout.dtype) (padded_element a.layout (given_at a) coord p)) new
    (λ p below. part_given a coord lo hi input new p (is_inside a.layout.shape (index_in_chunk a.layout coord p)) ok bytes low high refl (laid p below))
    ∙ ap Some (take_all (stored_chunk_bytes a.layout) new (omega arith))

-- ---- the limits of the grid

module _ {A : Type 0} where
  unless : (b : Bool) (x : A) (rest : Option A) → (if b then Some x else rest) ≡ None → (b ≡ false) × (rest ≡ None)
  unless true x rest e = cc
  unless false x rest e = (refl, e)

not_below : (m n : ℕ) → nat_lt m n ≡ false → n ≤ m
not_below m n e = grind arith

limits_of : (g : RegularGrid) (size : ℕ) → first_fault g.shape g.chunk size ≡ None → IsWithinLimits g size
limits_of g size none =
    let a = unless (list_any (λ c. c == 0) g.chunk) ZeroChunk _ none in
    let b = unless (not (length g.shape == length g.chunk)) Rank _ a.1 in
    let c = unless (nat_lt (2 ^ 40) (product (at_least_one g.shape))) TooManyElements _ b.1 in
    let d = unless (nat_lt 65536 (product (at_least_one (counts_of g.shape g.chunk)))) TooManyChunks _ c.1 in
    let e = unless (nat_lt (2 ^ 28) (product g.chunk * size)) ChunkTooLarge None d.1 in
    record { elements = not_below _ _ c.0; chunks = not_below _ _ d.0; bytes = not_below _ _ e.0 }

pub given_limits : (a : GivenArray) → IsGivenArray a → IsWithinLimits (record { shape = a.layout.shape; chunk = a.layout.chunk }) (size_of a.layout.dtype)
given_limits a ok = limits_of (record { shape = a.layout.shape; chunk = a.layout.chunk }) (size_of a.layout.dtype) ok.layout.grid

pub few_elements : (a : GivenArray) → IsGivenArray a → product a.layout.shape ≤ 2 ^ 40
few_elements a ok =
    let most = product_within a.layout.shape in
    let limit = (given_limits a ok).elements in
    omega (arith, most, limit)

-- the coordinate of a chunk is one that a key can have
pub small_coord : (a : GivenArray) (k most : ℕ) → IsGivenArray a → 65536 ≤ most → k < chunks_in a → All (λ i. i < most) (given_coord a k)
small_coord a k most ok large below n d within =
    let inside = index-inside (counts_of a.layout.shape a.layout.chunk) k below in
    let long = inside-length (counts_of a.layout.shape a.layout.chunk) (given_coord a k) inside in
    let here : n < length (counts_of a.layout.shape a.layout.chunk) = omega (arith, within, long) in
    let there = inside-at (counts_of a.layout.shape a.layout.chunk) (given_coord a k) n inside here in
    let whole = size_within (counts_of a.layout.shape a.layout.chunk) n here in
    let chunks = (given_limits a ok).chunks in
    let any = get_or_any (given_coord a k) n d within in
    omega (arith, large, there, whole, chunks, any)
  where
    get_or_any : (xs : List ℕ) (n d : ℕ) → n < length xs → get_or xs n d ≡ get_or xs n 0
    get_or_any [] n d h = absurd (omega arith)
    get_or_any (x ∷ xs) zero d h = refl
    get_or_any (x ∷ xs) (suc n) d h = get_or_any xs n d (omega arith)
