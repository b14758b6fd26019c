-- The sizes of a grid without a fault fit 64 bits.
use Rattle.std.proofs.Common.{◌≡◌, ◌<◌, ◌≤◌, ℕ, zero, suc, ◌^◌, ◌*◌, ◌==◌, max, List, [], ◌∷◌, length, nat_lt, Bool, true, false, not, None, Some, if◌then◌else◌, refl, arith}
use Rattle.std.specs.List.{list_any}
use Rattle.std.proofs.lemmas.Bool.{or_parts, ltb-false, eqb-true}
use Rattle.std.proofs.lemmas.Nat.{mul-le}
use Rattle.std.proofs.Math.Nat.{le-mul_of_pos_right}
use Rattle.cu_shape.specs.Index.{product}
use Rattle.cu_grid.specs.Counts.{at_least_one, counts_of}
use Rattle.cu_grid.specs.declared.fault.GridFault.TheVariants.{ZeroChunk, Rank, TooManyElements, TooManyChunks, ChunkTooLarge}
use Rattle.cu_grid.proofs.Products.{at_least_one-positive}
use Rattle.cu_num.specs.Dtype.{size_of}
use Rattle.cu_num.specs.declared.types.Dtype.{Dtype}
use Rattle.cu_num.specs.declared.types.Dtype.TheVariants.{Bool as Truth, Int8, Int16, Int32, Int64, Uint8, Uint16, Uint32, Uint64}
use Rattle.cu_zarr.specs.Layout.{ArrayLayout}
use Rattle.cu_meta_members.specs.Storable.{IsStorable}

-- each number fits 64 bits
abbrev pub AreSmall : List ℕ → Type 0
AreSmall [] = Unit {0}
AreSmall (n ∷ ns) = (n < 2 ^ 64) × AreSmall ns

factor_small : (n p b : ℕ) → 0 < p → max 1 n * p ≤ b → n ≤ b
factor_small n p b some h =
    let w : max 1 n ≤ max 1 n * p = le-mul_of_pos_right (max 1 n) some in
    omega arith

rest_small : (n p b : ℕ) → max 1 n * p ≤ b → p ≤ b
rest_small n p b h =
    let w : 1 * p ≤ max 1 n * p = mul-le 1 p (max 1 n) p (omega arith) (omega arith) in
    omega arith

small_factors : (b : ℕ) (ns : List ℕ) → product (at_least_one ns) ≤ b → b < 2 ^ 64 → AreSmall ns
small_factors b [] h fits = tt
small_factors b (n ∷ ns) h fits =
    let here : n ≤ b = factor_small n (product (at_least_one ns)) b (at_least_one-positive ns) h in
    (omega arith, small_factors b ns (rest_small n (product (at_least_one ns)) b h) fits)

positive_same : (n : ℕ) → (n == 0) ≡ false → max 1 n ≡ n
positive_same zero h = cc
positive_same (suc n) h = omega arith

without_zero : (ns : List ℕ) → list_any (λ c. c == 0) ns ≡ false → at_least_one ns ≡ ns
without_zero [] h = refl
without_zero (n ∷ ns) h =
    let parts = or_parts (n == 0) (list_any (λ c. c == 0) ns) h in
    rw (positive_same n parts.0, without_zero ns parts.1) refl

size_positive : (t : Dtype) → 0 < size_of t
size_positive Truth = omega arith
size_positive Int8 = omega arith
size_positive Int16 = omega arith
size_positive Int32 = omega arith
size_positive Int64 = omega arith
size_positive Uint8 = omega arith
size_positive Uint16 = omega arith
size_positive Uint32 = omega arith
size_positive Uint64 = omega arith

-- no test of the five found its fault
record FoundNone (zero_chunk same_rank elements chunks bytes : Bool) : Type 0 where
  no_zero : zero_chunk ≡ false
  ranks : same_rank ≡ true
  few_elements : elements ≡ false
  few_chunks : chunks ≡ false
  few_bytes : bytes ≡ false

found_none : (z r e c b : Bool)
    → (if z then Some ZeroChunk else if not r then Some Rank else if e then Some TooManyElements else if c then Some TooManyChunks else if b then Some ChunkTooLarge else None) ≡ None
    → FoundNone z r e c b
found_none true r e c b h = cc
found_none false false e c b h = cc
found_none false true true c b h = cc
found_none false true false true b h = cc
found_none false true false false true h = cc
found_none false true false false false h = record { no_zero = refl; ranks = refl; few_elements = refl; few_chunks = refl; few_bytes = refl }

tests_of : (l : ArrayLayout) → IsStorable l
    → FoundNone (list_any (λ c. c == 0) l.chunk) (length l.shape == length l.chunk) (nat_lt (2 ^ 40) (product (at_least_one l.shape)))
    (nat_lt 65536 (product (at_least_one (counts_of l.shape l.chunk)))) (nat_lt (2 ^ 28) (product l.chunk * size_of l.dtype))
tests_of l s = found_none _ _ _ _ _ s.grid

pub same_ranks : (l : ArrayLayout) → IsStorable l → length l.chunk ≤ 6
same_ranks l s =
    let e : length l.shape ≡ length l.chunk = eqb-true _ _ (tests_of l s).ranks in
    let short = s.axes in
    omega arith

pub small_shape : (l : ArrayLayout) → IsStorable l → AreSmall l.shape
small_shape l s = small_factors (2 ^ 40) l.shape (ltb-false _ _ (tests_of l s).few_elements) (omega arith)

pub small_chunk : (l : ArrayLayout) → IsStorable l → AreSmall l.chunk
small_chunk l s =
    let bytes : product l.chunk * size_of l.dtype ≤ 2 ^ 28 = ltb-false _ _ (tests_of l s).few_bytes in
    let over : product l.chunk ≤ product l.chunk * size_of l.dtype = le-mul_of_pos_right (product l.chunk) (size_positive l.dtype) in
    let whole : product l.chunk ≤ 2 ^ 28 = omega arith in
    let same : at_least_one l.chunk ≡ l.chunk = without_zero l.chunk (tests_of l s).no_zero in
    small_factors (2 ^ 28) l.chunk (rw same whole) (omega arith)
