-- Elements of a part of a buffer, and of a list of which a part was written.
use Rattle.std.proofs.Common.{◌≡◌, ℕ, suc, ◌+◌, ◌-◌, ◌*◌, ◌/◌, ◌<◌, ◌≤◌, List, length, ◌++◌, take, drop, get_or, refl, ℤ, ap, sym, ◌∙◌, arith, length-append, length-take, length-drop, ⊎_elim}
use Rattle.std.proofs.lemmas.List.{drop-drop, drop-take, take-take, get_or-take, get_or_append_left, get_or-append_right, length-take-le, drop_at, take_at}
use borrow.Rule.Slice.PartMut.{put_mid, post_of}
use Rattle.std.proofs.lemmas.Slice.{take-put_mid_below}
use Rattle.std.specs.List.{between}
use Rattle.std.specs.Int.{w128, cast_signed, cast_unsigned}
use Rattle.std.specs.Prelude.{FitsSigned}
use Rattle.std.proofs.lemmas.Int.{to_z-of_z}
use Rattle.cu_num.specs.Dtype.{size_of}
use Rattle.std.proofs.Math.Nat.{mul-le-mul_right, div-mul-le_self, le-div_iff_mul-le}
use Rattle.std.proofs.lemmas.Nat.{div-mul-add, mul-le}
use Rattle.std.proofs.lemmas.Bool.{cases_lt}
use Rattle.cu_num.proofs.Bytes.{IsSize-size_of}
use Rattle.cu_num.specs.Element.{element_at, bytes_at, IsSize}
use Rattle.cu_num.proofs.ElementBytes.{element_at_same}
use Rattle.cu_num.specs.declared.types.Dtype.{Dtype}
use Rattle.cu_num.specs.declared.layout.Endian.TheVariants.{Little}

-- so many bytes from place j on of the first m
pub part_inside : (n j m : ℕ) (xs : List ℕ) → j + n ≤ m → take n (drop j (take m xs)) ≡ take n (drop j xs)
part_inside n j m xs h =
    let sum : m ≡ j + (m - j) = omega arith in
    ap (λ k. take n (drop j (take k xs))) sum ∙ ap (take n) (drop-take j (m - j) xs) ∙ take-take n (m - j) (drop j xs) (omega arith)

-- an element of a part is one of the buffer
pub element_of_part : (t : Dtype) (bytes : List ℕ) (first from e k : ℕ) → from ≡ first * size_of t → from + (k * size_of t + size_of t) ≤ e
    → element_at Little t (between from e bytes) k ≡ element_at Little t bytes (first + k)
element_of_part t bytes first from e k starts inside =
    element_at_same Little t (between from e bytes) bytes k (first + k)
    (part_inside (size_of t) (k * size_of t) (e - from) (drop from bytes) (omega arith)
    ∙ ap (take (size_of t)) (drop-drop (k * size_of t) from bytes ∙ ap (λ j. drop j bytes) (let same : from + k * size_of t ≡ (first + k) * size_of t = omega (arith, starts) in same)))

-- ---- elements and bytes

positive : (n : ℕ) → IsSize n → 0 < n
positive n h = grind arith

pub size_positive : (t : Dtype) → 0 < size_of t
size_positive t = positive (size_of t) (IsSize-size_of t)

most : (n : ℕ) → IsSize n → n ≤ 8
most n h = grind arith

pub size_most : (t : Dtype) → size_of t ≤ 8
size_most t = most (size_of t) (IsSize-size_of t)

pub element_count : (t : Dtype) (count size bytes : ℕ) → size ≡ size_of t → bytes ≡ count * size_of t → bytes / size ≡ count
element_count t count size bytes e h = (λ i. (h ∙ (let none : count * size_of t ≡ count * size_of t + 0 = omega arith in none)) i / e i) ∙ div-mul-add count (size_of t) 0 (size_positive t)

-- an element whose bytes lie in so many elements is one of them
pub element_below : (t : Dtype) (k count bytes : ℕ) → bytes ≡ count * size_of t → k * size_of t + size_of t ≤ bytes → k < count
element_below t k count bytes e h = ⊎_elim (λ less. less)
    (λ more. let far : count * size_of t ≤ k * size_of t = mul-le-mul_right (size_of t) more in let some = size_positive t in absurd (omega arith))
    (cases_lt k count)

-- a place below the number of elements has its bytes, and one that has them is below
pub element_fits : (t : Dtype) (k size bytes : ℕ) → size ≡ size_of t → k < bytes / size → k * size_of t + size_of t ≤ bytes
element_fits t k size bytes e h =
    let far : suc k * size ≤ bytes / size * size = mul-le-mul_right size h in
    let most = div-mul-le_self bytes size in
    let product = ap (λ s. suc k * s) e in
    omega arith

pub element_within : (t : Dtype) (k size bytes : ℕ) → size ≡ size_of t → k * size_of t + size_of t ≤ bytes → k < bytes / size
element_within t k size bytes e h =
    let product = ap (λ s. suc k * s) e in
    let some = size_positive t in
    (le-div_iff_mul-le {k = size} {x = suc k} {y = bytes} (omega arith)).1 (omega arith)

-- ---- after a write of a part

pub length-put_mid : (a n : ℕ) (xs ys : List ℕ) → length ys ≡ n → a + n ≤ length xs → length (put_mid a n xs ys) ≡ length xs
length-put_mid a n xs ys e h = simp (length-append, length-take, length-drop) (omega arith)

pub put_mid_below : (a n : ℕ) (xs ys : List ℕ) (k : ℕ) → k < a → a ≤ length xs → get_or (put_mid a n xs ys) k 0 ≡ get_or xs k 0
put_mid_below a n xs ys k less h =
    get_or_append_left (take a xs) (ys ++ post_of a n xs) 0 k (let l = length-take-le a xs h in omega arith) ∙ get_or-take a xs k 0 less

pub put_mid_inside : (a n : ℕ) (xs ys : List ℕ) (k j : ℕ) → k ≡ a + j → j < length ys → a ≤ length xs → get_or (put_mid a n xs ys) k 0 ≡ get_or ys j 0
put_mid_inside a n xs ys k j e less h =
    get_or-append_right (take a xs) (ys ++ post_of a n xs) a k 0 (length-take-le a xs h) (omega arith)
    ∙ ap (λ i. get_or (ys ++ post_of a n xs) i 0) (let same : k - a ≡ j = omega arith in same)
    ∙ get_or_append_left ys (post_of a n xs) 0 j less

pub bytes_below : (t : Dtype) (a n : ℕ) (xs ys : List ℕ) (p : ℕ) → p * size_of t + size_of t ≤ a → a ≤ length xs → bytes_at t (put_mid a n xs ys) p ≡ bytes_at t xs p
bytes_below t a n xs ys p less h =
    sym (part_inside (size_of t) (p * size_of t) a (put_mid a n xs ys) less)
    ∙ ap (λ part. take (size_of t) (drop (p * size_of t) part)) (take-put_mid_below a n xs ys a (omega arith) h)
    ∙ part_inside (size_of t) (p * size_of t) a xs less

pub bytes_inside : (t : Dtype) (a n : ℕ) (xs ys : List ℕ) (p k : ℕ) → p * size_of t ≡ a + k * size_of t → k * size_of t + size_of t ≤ length ys → a ≤ length xs → bytes_at t (put_mid a n xs ys) p ≡ bytes_at t ys k
bytes_inside t a n xs ys p k e less h =
    let from : drop (p * size_of t) (put_mid a n xs ys) ≡ drop (k * size_of t) (ys ++ post_of a n xs) =
    ap (λ j. drop j (put_mid a n xs ys)) e ∙ sym (drop-drop (k * size_of t) a (put_mid a n xs ys)) ∙ ap (drop (k * size_of t)) (drop_at (take a xs) (ys ++ post_of a n xs) a (length-take-le a xs h)) in
    ap (take (size_of t)) from
    ∙ sym (part_inside (size_of t) (k * size_of t) (length ys) (ys ++ post_of a n xs) less)
    ∙ ap (λ part. take (size_of t) (drop (k * size_of t) part)) (take_at ys (post_of a n xs) (length ys) refl)

pub bytes_beyond : (t : Dtype) (a n : ℕ) (xs ys : List ℕ) (p : ℕ) → length ys ≡ n → a + n ≤ p * size_of t → a ≤ length xs → bytes_at t (put_mid a n xs ys) p ≡ bytes_at t xs p
bytes_beyond t a n xs ys p long far h =
    let m = p * size_of t - (a + n) in
    let at : p * size_of t ≡ a + n + m = omega arith in
    let whole = put_mid a n xs ys in
    let after : drop n (drop a whole) ≡ drop n (drop a xs) = ap (drop n) (drop_at (take a xs) (ys ++ post_of a n xs) a (length-take-le a xs h)) ∙ drop_at ys (post_of a n xs) n long in
    let split : (l : List ℕ) → drop (p * size_of t) l ≡ drop m (drop n (drop a l)) = λ l. ap (λ k. drop k l) at ∙ sym (drop-drop m (a + n) l) ∙ ap (drop m) (sym (drop-drop n a l)) in
    ap (take (size_of t)) (split whole ∙ ap (drop m) after ∙ sym (split xs))

-- an element of so many lies inside
pub element_inside : (t : Dtype) (k count bytes : ℕ) → bytes ≡ count * size_of t → k < count → k * size_of t + size_of t ≤ bytes
element_inside t k count bytes e h = let far : suc k * size_of t ≤ count * size_of t = mul-le-mul_right (size_of t) h in omega arith

-- so its number is small
pub element_small : (t : Dtype) (k count bytes : ℕ) → bytes ≡ count * size_of t → k < count → k ≤ bytes
element_small t k count bytes e h =
    let inside = element_inside t k count bytes e h in
    let least : k * 1 ≤ k * size_of t = mul-le k 1 k (size_of t) (omega arith) (size_positive t) in
    omega arith

-- an element of a matrix
pub place_within : (rows columns i j : ℕ) → i < rows → j < columns → i * columns + j < rows * columns
place_within rows columns i j h d = let far : (i + 1) * columns ≤ rows * columns = mul-le-mul_right columns (let l : i + 1 ≤ rows = omega arith in l) in omega arith

-- a number that fits is passed on as it is
pub kept : (r : ℤ) → FitsSigned w128 r → cast_signed w128 (cast_unsigned w128 r) ≡ r
kept r f = to_z-of_z w128 r f

-- ---- parts of a buffer that are as long as one another

-- a part lies inside, and begins and ends within
pub part_ends : (count room i total : ℕ) → total ≡ count * room → i < count → (i * room + room ≡ (i + 1) * room) × ((i + 1) * room ≤ total)
part_ends count room i total e h =
    let far : (i + 1) * room ≤ count * room = mul-le-mul_right room (let l : i + 1 ≤ count = omega arith in l) in
    (omega arith, omega arith)

pub part_room : (count room total : ℕ) → total ≡ count * room → 0 < count → room ≤ total
part_room count room total e h = let far : 1 * room ≤ count * room = mul-le-mul_right room (let l : 1 ≤ count = omega arith in l) in omega arith
