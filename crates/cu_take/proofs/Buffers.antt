-- Numbers in a buffer of results, and in a part of it.
use Rattle.std.proofs.Common.{◌≡◌, ℕ, ℤ, ◌+◌, ◌-◌, ◌*◌, ◌<◌, ◌≤◌, List, ◌++◌, take, drop, length, refl, sym, ap, ◌∙◌, arith, length-append, length-take, length-drop}
use Rattle.std.proofs.lemmas.List.{drop-drop, drop-take, take-take, length-take-le, drop_at, take_at}
use borrow.Rule.Slice.PartMut.{put_mid, post_of}
use Rattle.std.proofs.lemmas.Slice.{take-put_mid_below}
use Rattle.cu_num.specs.Dtype.{size_of}
use Rattle.cu_num.specs.Wrap.{residue, wrapped}
use Rattle.cu_num.specs.Element.{element_at, element_bytes, bytes_at, low_bytes, IsSize}
use Rattle.cu_num.proofs.Bytes.{IsSize-size_of}
use Rattle.cu_num.proofs.Wrapped.{wrapped-wrapped}
use Rattle.cu_num.proofs.ElementBytes.{element_at_own, element_at-element_bytes, element_at_same}
use Rattle.cu_num.specs.declared.types.Dtype.{Dtype}
use Rattle.cu_num.specs.declared.layout.Endian.TheVariants.{Little}
use Rattle.cu_reduce.specs.Numbers.{HasNumber}

-- the bytes of a number that was wrapped are its own
pub bytes_wrapped : (t : Dtype) (x y : ℤ) → x ≡ wrapped t y → element_bytes Little t x ≡ element_bytes Little t y
unfolding element_bytes
bytes_wrapped t x y h = ap (λ z. low_bytes (size_of t) (residue (8 * size_of t) z)) (ap (wrapped t) h ∙ wrapped-wrapped t y)

-- a number that stands there is read wrapped
pub number_read : (t : Dtype) (bytes : List ℕ) (at : ℕ) (x : ℤ) → HasNumber t bytes at x → element_at Little t bytes at ≡ wrapped t x
number_read t bytes at x h = element_at_own Little t bytes at ∙ ap (λ own. element_at Little t own 0) h ∙ element_at-element_bytes Little t x

some_byte : (n : ℕ) → IsSize n → 0 < n
some_byte n h = grind arith

pub size_positive : (t : Dtype) → 0 < size_of t
size_positive t = some_byte (size_of t) (IsSize-size_of t)

most_bytes : (n : ℕ) → IsSize n → n ≤ 8
most_bytes n h = grind arith

pub size_most : (t : Dtype) → size_of t ≤ 8
size_most t = most_bytes (size_of t) (IsSize-size_of t)

-- ---- a part from a place on

pub bytes_at_drop : (t : Dtype) (bytes : List ℕ) (m k from : ℕ) → from ≡ m * size_of t → bytes_at t (drop from bytes) k ≡ bytes_at t bytes (m + k)
bytes_at_drop t bytes m k from e =
    ap (take (size_of t)) (drop-drop (k * size_of t) from bytes ∙ ap (λ j. drop j bytes) (let s : from + k * size_of t ≡ (m + k) * size_of t = omega (arith, e) in s))

pub element_at_drop : (t : Dtype) (bytes : List ℕ) (m k from : ℕ) → from ≡ m * size_of t → element_at Little t (drop from bytes) k ≡ element_at Little t bytes (m + k)
element_at_drop t bytes m k from e = element_at_same Little t (drop from bytes) bytes k (m + k) (bytes_at_drop t bytes m k from e)

-- ---- after a write of a part

pub part_inside : (n j m : ℕ) (xs : List ℕ) → j + n ≤ m → take n (drop j (take m xs)) ≡ take n (drop j xs)
part_inside n j m xs h =
    let sum : m ≡ j + (m - j) = omega arith in
    ap (λ k. take n (drop j (take k xs))) sum ∙ ap (take n) (drop-take j (m - j) xs) ∙ take-take n (m - j) (drop j xs) (omega arith)

pub length-put_mid : (a n : ℕ) (xs ys : List ℕ) → length ys ≡ n → a + n ≤ length xs → length (put_mid a n xs ys) ≡ length xs
length-put_mid a n xs ys e h = simp (length-append, length-take, length-drop) (omega arith)

pub bytes_below : (t : Dtype) (a n : ℕ) (xs ys : List ℕ) (p : ℕ) → p * size_of t + size_of t ≤ a → a ≤ length xs → bytes_at t (put_mid a n xs ys) p ≡ bytes_at t xs p
bytes_below t a n xs ys p less h =
    sym (part_inside (size_of t) (p * size_of t) a (put_mid a n xs ys) less)
    ∙ ap (λ part. take (size_of t) (drop (p * size_of t) part)) (take-put_mid_below a n xs ys a (omega arith) h)
    ∙ part_inside (size_of t) (p * size_of t) a xs less

pub bytes_inside : (t : Dtype) (a n : ℕ) (xs ys : List ℕ) (p k : ℕ) → p * size_of t ≡ a + k * size_of t → k * size_of t + size_of t ≤ length ys → a ≤ length xs → bytes_at t (put_mid a n xs ys) p ≡ bytes_at t ys k
bytes_inside t a n xs ys p k e less h =
    let from : drop (p * size_of t) (put_mid a n xs ys) ≡ drop (k * size_of t) (ys ++ post_of a n xs) =
    ap (λ j. drop j (put_mid a n xs ys)) e ∙ sym (drop-drop (k * size_of t) a (put_mid a n xs ys)) ∙ ap (drop (k * size_of t)) (drop_at (take a xs) (ys ++ post_of a n xs) a (length-take-le a xs h)) in
    ap (take (size_of t)) from
    ∙ sym (part_inside (size_of t) (k * size_of t) (length ys) (ys ++ post_of a n xs) less)
    ∙ ap (λ part. take (size_of t) (drop (k * size_of t) part)) (take_at ys (post_of a n xs) (length ys) refl)

pub bytes_above : (t : Dtype) (a n : ℕ) (xs ys : List ℕ) (p : ℕ) → a + n ≤ p * size_of t → length ys ≡ n → a + n ≤ length xs → bytes_at t (put_mid a n xs ys) p ≡ bytes_at t xs p
bytes_above t a n xs ys p more e h =
    let k = p * size_of t - (a + n) in
    let at : p * size_of t ≡ a + (n + k) = omega arith in
    let new : drop (p * size_of t) (put_mid a n xs ys) ≡ drop k (post_of a n xs) =
    ap (λ j. drop j (put_mid a n xs ys)) at ∙ sym (drop-drop (n + k) a (put_mid a n xs ys))
    ∙ ap (drop (n + k)) (drop_at (take a xs) (ys ++ post_of a n xs) a (length-take-le a xs (omega arith)))
    ∙ (let turn : n + k ≡ n + k = refl in sym (drop-drop k n (ys ++ post_of a n xs))) ∙ ap (drop k) (drop_at ys (post_of a n xs) n e) in
    let old : drop (p * size_of t) xs ≡ drop k (post_of a n xs) =
    ap (λ j. drop j xs) at ∙ sym (drop-drop (n + k) a xs) ∙ sym (drop-drop k n (drop a xs)) in
    ap (take (size_of t)) (new ∙ sym old)
