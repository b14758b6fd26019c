-- Elements of a part of a buffer, and of a list of which a part was written.
use Rattle.std.proofs.Common.{◌≡◌, ℕ, suc, ◌+◌, ◌-◌, ◌*◌, ◌/◌, ◌<◌, ◌≤◌, List, length, ◌++◌, take, drop, get_or, refl, ap, sym, ◌∙◌, arith, length-append, length-take, length-drop, ⊎_elim, ℤ, Option, None, Some}
use Rattle.std.proofs.lemmas.List.{drop-drop, drop-take, take-take, get_or-take, get_or_append_left, get_or-append_right, length-take-le, drop_at, take_at}
use borrow.Rule.Slice.PartMut.{put_mid, post_of}
use Rattle.std.proofs.lemmas.Slice.{take-put_mid_below}
use Rattle.std.specs.List.{between}
use Rattle.cu_num.specs.Dtype.{size_of}
use Rattle.std.proofs.Math.Nat.{mul-le-mul_right, div-mul-le_self, le-div_iff_mul-le}
use Rattle.std.proofs.lemmas.Nat.{div-mul-add}
use Rattle.std.proofs.lemmas.Bool.{cases_lt}
use Rattle.cu_num.proofs.Bytes.{IsSize-size_of}
use Rattle.cu_num.specs.Element.{element_at, element_bytes, bytes_at, IsSize}
use Rattle.cu_num.proofs.ElementBytes.{element_at_same, element_at_own, element_at-element_bytes_in_range}
use Rattle.cu_kern.specs.Lays.{HasValue}
use Rattle.cu_num.specs.declared.types.Dtype.{Dtype}
use Rattle.cu_num.specs.declared.layout.Endian.TheVariants.{Little}

-- so many bytes from place j on of the first m
pub part_inside : (n j m : ℕ) (xs : List ℕ) → j + n ≤ m → take n (drop j (take m xs)) ≡ take n (drop j xs)
part_inside n j m xs h =
    let sum : m ≡ j + (m - j) = omega arith in
    ap (λ k. take n (drop j (take k xs))) sum ∙ ap (take n) (drop-take j (m - j) xs) ∙ take-take n (m - j) (drop j xs) (omega arith)

-- an element of a part is one of the buffer
pub element_moved : (t : Dtype) (ins : List ℕ) (at first from e k place : ℕ) → from ≡ at + first * size_of t → from + k * size_of t + size_of t ≤ e → place ≡ first + k
    → element_at Little t (between from e ins) k ≡ element_at Little t (drop at ins) place
element_moved t ins at first from e k place starts inside is =
    element_at_same Little t (between from e ins) (drop at ins) k place
    (part_inside (size_of t) (k * size_of t) (e - from) (drop from ins) (omega arith)
    ∙ ap (take (size_of t)) (drop-drop (k * size_of t) from ins ∙ ap (λ j. drop j ins) (let same : from + k * size_of t ≡ at + place * size_of t = omega (arith, starts, ap (λ q. q * size_of t) is) in same) ∙ sym (drop-drop (place * size_of t) at ins)))

-- ---- elements and bytes

positive : (n : ℕ) → IsSize n → 0 < n
positive n h = grind arith

pub size_positive : (t : Dtype) → 0 < size_of t
size_positive t = positive (size_of t) (IsSize-size_of t)

most : (n : ℕ) → IsSize n → n ≤ 8
most n h = grind arith

pub size_most : (t : Dtype) → size_of t ≤ 8
size_most t = most (size_of t) (IsSize-size_of t)

pub element_count : (t : Dtype) (count size bytes : ℕ) → size ≡ size_of t → bytes ≡ count * size_of t → bytes / size ≡ count
element_count t count size bytes e h = (λ i. (h ∙ (let none : count * size_of t ≡ count * size_of t + 0 = omega arith in none)) i / e i) ∙ div-mul-add count (size_of t) 0 (size_positive t)

-- an element whose bytes lie in so many elements is one of them
pub element_below : (t : Dtype) (k count bytes : ℕ) → bytes ≡ count * size_of t → k * size_of t + size_of t ≤ bytes → k < count
element_below t k count bytes e h = ⊎_elim (λ less. less)
    (λ more. let far : count * size_of t ≤ k * size_of t = mul-le-mul_right (size_of t) more in let some = size_positive t in absurd (omega arith))
    (cases_lt k count)

pub element_room : (t : Dtype) (k count bytes : ℕ) → bytes ≡ count * size_of t → k < count → k * size_of t + size_of t ≤ bytes
element_room t k count bytes e h = let far : suc k * size_of t ≤ count * size_of t = mul-le-mul_right (size_of t) h in omega arith

-- of so many elements the first `first` have their bytes
pub elements_fit : (t : Dtype) (first count size bytes : ℕ) → size ≡ size_of t → first ≤ count → bytes ≡ count * size_of t → first * size ≤ bytes
elements_fit t first count size bytes e h n =
    let far : first * size ≤ count * size = mul-le-mul_right size h in
    let same = ap (λ s. count * s) e in
    omega arith

-- a place below the number of elements has its bytes, and one that has them is below
pub element_fits : (t : Dtype) (k size bytes : ℕ) → size ≡ size_of t → k < bytes / size → k * size_of t + size_of t ≤ bytes
element_fits t k size bytes e h =
    let far : suc k * size ≤ bytes / size * size = mul-le-mul_right size h in
    let most = div-mul-le_self bytes size in
    let product = ap (λ s. suc k * s) e in
    omega arith

pub element_within : (t : Dtype) (k size bytes : ℕ) → size ≡ size_of t → k * size_of t + size_of t ≤ bytes → k < bytes / size
element_within t k size bytes e h =
    let product = ap (λ s. suc k * s) e in
    let some = size_positive t in
    (le-div_iff_mul-le {k = size} {x = suc k} {y = bytes} (omega arith)).1 (omega arith)

-- ---- after a write of a part

pub length-put_mid : (a n : ℕ) (xs ys : List ℕ) → length ys ≡ n → a + n ≤ length xs → length (put_mid a n xs ys) ≡ length xs
length-put_mid a n xs ys e h = simp (length-append, length-take, length-drop) (omega arith)

pub put_mid_below : (a n : ℕ) (xs ys : List ℕ) (k : ℕ) → k < a → a ≤ length xs → get_or (put_mid a n xs ys) k 0 ≡ get_or xs k 0
put_mid_below a n xs ys k less h =
    get_or_append_left (take a xs) (ys ++ post_of a n xs) 0 k (let l = length-take-le a xs h in omega arith) ∙ get_or-take a xs k 0 less

pub put_mid_inside : (a n : ℕ) (xs ys : List ℕ) (k j : ℕ) → k ≡ a + j → j < length ys → a ≤ length xs → get_or (put_mid a n xs ys) k 0 ≡ get_or ys j 0
put_mid_inside a n xs ys k j e less h =
    get_or-append_right (take a xs) (ys ++ post_of a n xs) a k 0 (length-take-le a xs h) (omega arith)
    ∙ ap (λ i. get_or (ys ++ post_of a n xs) i 0) (let same : k - a ≡ j = omega arith in same)
    ∙ get_or_append_left ys (post_of a n xs) 0 j less

pub bytes_below : (t : Dtype) (a n : ℕ) (xs ys : List ℕ) (p : ℕ) → p * size_of t + size_of t ≤ a → a ≤ length xs → bytes_at t (put_mid a n xs ys) p ≡ bytes_at t xs p
bytes_below t a n xs ys p less h =
    sym (part_inside (size_of t) (p * size_of t) a (put_mid a n xs ys) less)
    ∙ ap (λ part. take (size_of t) (drop (p * size_of t) part)) (take-put_mid_below a n xs ys a (omega arith) h)
    ∙ part_inside (size_of t) (p * size_of t) a xs less

pub bytes_inside : (t : Dtype) (a n : ℕ) (xs ys : List ℕ) (p k : ℕ) → p * size_of t ≡ a + k * size_of t → k * size_of t + size_of t ≤ length ys → a ≤ length xs → bytes_at t (put_mid a n xs ys) p ≡ bytes_at t ys k
bytes_inside t a n xs ys p k e less h =
    let from : drop (p * size_of t) (put_mid a n xs ys) ≡ drop (k * size_of t) (ys ++ post_of a n xs) =
    ap (λ j. drop j (put_mid a n xs ys)) e ∙ sym (drop-drop (k * size_of t) a (put_mid a n xs ys)) ∙ ap (drop (k * size_of t)) (drop_at (take a xs) (ys ++ post_of a n xs) a (length-take-le a xs h)) in
    ap (take (size_of t)) from
    ∙ sym (part_inside (size_of t) (k * size_of t) (length ys) (ys ++ post_of a n xs) less)
    ∙ ap (λ part. take (size_of t) (drop (k * size_of t) part)) (take_at ys (post_of a n xs) (length ys) refl)

-- ---- elements that have their values

pub has_value_same : (t : Dtype) (bytes other : List ℕ) (p q : ℕ) (v : Option ℤ) → bytes_at t bytes p ≡ bytes_at t other q → HasValue t other q v → HasValue t bytes p v
has_value_same t bytes other p q None e h = absurd h
has_value_same t bytes other p q (Some x) e (range, is) = (range, e ∙ is)

pub has_value_element : (t : Dtype) (bytes : List ℕ) (p : ℕ) (v : Option ℤ) → HasValue t bytes p v → (v ≡ Some (element_at Little t bytes p)) × (bytes_at t bytes p ≡ element_bytes Little t (element_at Little t bytes p))
has_value_element t bytes p None h = absurd h
has_value_element t bytes p (Some x) (range, is) =
    let read : element_at Little t bytes p ≡ x = element_at_own Little t bytes p ∙ ap (λ own. element_at Little t own 0) is ∙ element_at-element_bytes_in_range Little t x range in
    (ap Some (sym read), is ∙ ap (element_bytes Little t) (sym read))
