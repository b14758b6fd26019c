-- Numbers in a buffer.
use Rattle.std.proofs.Common.{◌≡◌, ℕ, ℤ, pos, ◌+◌, ◌+ℤ◌, ◌*◌, ◌≤◌, List, ◌++◌, take, drop, length, sym, ap, ◌∙◌, arith}
use Rattle.std.proofs.lemmas.List.{drop-drop, length-take-le, drop_at, take_at}
use Rattle.std.proofs.lemmas.Int.{ints}
use Rattle.std.proofs.Math.IntN.{+ℤ_assoc}
use Rattle.cu_num.specs.Dtype.{size_of, IsInteger}
use Rattle.cu_num.specs.Wrap.{residue, wrapped}
use Rattle.cu_num.specs.Dtype.{InRange}
use Rattle.cu_num.specs.Element.{element_at, element_bytes, bytes_at, low_bytes}
use Rattle.cu_num.proofs.Wrapped.{wrapped-wrapped, wrapped_in_range}
use Rattle.cu_num.proofs.ElementBytes.{element_at_own, element_at-element_bytes}
use Rattle.cu_num.specs.declared.types.Dtype.{Dtype}
use Rattle.cu_num.specs.declared.layout.Endian.TheVariants.{Little}
use Rattle.cu_num.specs.declared.folds.FoldKind.TheVariants.{Sum}
use Rattle.cu_reduce.specs.Numbers.{HasNumber}
use Rattle.cu_reduce.proofs.Folding.{wrapped_first}
use Rattle.cu_pairs.proofs.Parts.{part_inside}

-- the bytes of a number that was wrapped are its own
pub bytes_wrapped : (t : Dtype) (x y : ℤ) → x ≡ wrapped t y
    → element_bytes Little t x ≡ element_bytes Little t y
unfolding element_bytes
bytes_wrapped t x y h = ap (λ z. low_bytes (size_of t) (residue (8 * size_of t) z)) (ap
    (wrapped t) h ∙ wrapped-wrapped t y)

pub bytes_same : (t : Dtype) (x y : ℤ) → wrapped t x ≡ wrapped t y
    → element_bytes Little t x ≡ element_bytes Little t y
unfolding element_bytes
bytes_same t x y h = ap (λ z. low_bytes (size_of t) (residue (8 * size_of t) z)) h

-- a number that stands there is read wrapped
pub number_read : (t : Dtype) (bytes : List ℕ) (at : ℕ) (x : ℤ) → HasNumber t bytes at x
    → element_at Little t bytes at ≡ wrapped t x
number_read t bytes at x h = element_at_own Little t bytes at
    ∙ ap (λ own. element_at Little t own 0) h ∙ element_at-element_bytes Little t x

-- a number is added to one that was read
pub number_added : (t : Dtype) (bytes : List ℕ) (at : ℕ) (own x y : ℤ) → IsInteger t
    → own ≡ wrapped t x → HasNumber t bytes at (own +ℤ y) → HasNumber t bytes at (x +ℤ y)
number_added t bytes at own x y a e h =
    h ∙ bytes_same t (own +ℤ y) (x +ℤ y) (ap (λ z. wrapped t (z +ℤ y)) e
    ∙ wrapped_first Sum t t x y a tt tt)

-- ---- a sum that is carried along

none_more : (x : ℤ) → x ≡ x +ℤ pos 0
none_more x = omega (arith, ints)

pub start_sum : (t : Dtype) (x : ℤ) → InRange t x → x ≡ wrapped t (x +ℤ pos 0)
start_sum t x h = sym (wrapped_in_range t x h) ∙ ap (wrapped t) (none_more x)

pub more_summed : (t : Dtype) (first s own y : ℤ) → IsInteger t → own ≡ wrapped t (first +ℤ s)
    → wrapped t (own +ℤ y) ≡ wrapped t (first +ℤ (s +ℤ y))
more_summed t first s own y a e =
    ap (λ z. wrapped t (z +ℤ y)) e ∙ wrapped_first Sum t t (first +ℤ s) y a tt tt
    ∙ ap (wrapped t) (+ℤ_assoc first s y)

-- ---- two parts of a buffer, the first of which has `from` bytes

pub bytes_first : (t : Dtype) (from : ℕ) (old new : List ℕ) (p : ℕ)
    → p * size_of t + size_of t ≤ from → from ≤ length old
    → bytes_at t (take from old ++ new) p ≡ bytes_at t old p
bytes_first t from old new p less room =
    sym (part_inside (size_of t) (p * size_of t) from (take from old ++ new) less)
    ∙ ap (λ xs. take (size_of t) (drop (p * size_of t) xs)) (take_at (take from old) new from
    (length-take-le from old room))
    ∙ part_inside (size_of t) (p * size_of t) from old less

pub bytes_second : (t : Dtype) (m from : ℕ) (old new : List ℕ) (k : ℕ) → from ≡ m * size_of t
    → from ≤ length old → bytes_at t (take from old ++ new) (m + k) ≡ bytes_at t new k
bytes_second t m from old new k e room =
    let at : (m + k) * size_of t ≡ from + k * size_of t = omega (arith, e) in
    ap (take (size_of t)) (ap (λ j. drop j (take from old ++ new)) at
    ∙ sym (drop-drop (k * size_of t) from (take from old ++ new))
    ∙ ap (drop (k * size_of t)) (drop_at (take from old) new from (length-take-le from old room)))
