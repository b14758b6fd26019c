-- Elements of a part of a buffer, and of a buffer of which an element or a part was written.
use Rattle.std.proofs.Common.{◌≡◌, refl, ℕ, suc, ◌+◌, ◌-◌, ◌*◌, ◌/◌, ◌<◌, ◌≤◌, ℤ, List, length, take, drop, ◌%◌, ap, sym, ◌∙◌, arith, length-take, length-drop}
use Rattle.std.specs.Prelude.{FitsSigned}
use Rattle.std.specs.Int.{w128, cast_signed, cast_unsigned}
use Rattle.std.proofs.lemmas.Int.{to_z-of_z}
use Rattle.std.proofs.lemmas.List.{drop-drop, drop-take, take-take}
use Rattle.std.proofs.Math.Nat.{mul-le-mul_right, div-mul-le_self}
use Rattle.std.proofs.lemmas.Nat.{div-mul-add, div-add-mod', mod_below}
use Rattle.cu_num.specs.Dtype.{size_of, InRange}
use Rattle.cu_num.specs.Wrap.{wrapped}
use Rattle.cu_num.specs.Element.{element_at, element_bytes, IsSize}
use Rattle.cu_num.proofs.Bytes.{IsSize-size_of}
use Rattle.cu_num.proofs.Wrapped.{wrapped_in_range}
use Rattle.cu_num.proofs.ElementBytes.{written_at, element_at_same, element_at-written_at_same}
use Rattle.cu_num.specs.declared.types.Dtype.{Dtype}
use Rattle.cu_num.specs.declared.layout.Endian.TheVariants.{Little}

-- a number that fits is passed on as it is
pub kept : (r : ℤ) → FitsSigned w128 r → cast_signed w128 (cast_unsigned w128 r) ≡ r
kept r f = to_z-of_z w128 r f

pub kept_twice : (r : ℤ) → FitsSigned w128 r → cast_signed w128 (cast_unsigned w128 (cast_signed w128 (cast_unsigned w128 r))) ≡ r
kept_twice r f = ap (λ z. cast_signed w128 (cast_unsigned w128 z)) (kept r f) ∙ kept r f

-- an element of a buffer of so many
pub element_room : (size k n bytes : ℕ) → k < n → bytes ≡ n * size → k * size + size ≤ bytes
element_room size k n bytes b e = let far : suc k * size ≤ n * size = mul-le-mul_right size b in omega arith

positive : (n : ℕ) → IsSize n → (0 < n) × (n ≤ 8)
positive n h = (grind arith, grind arith)

pub size_positive : (t : Dtype) → 0 < size_of t
size_positive t = (positive (size_of t) (IsSize-size_of t)).0

pub size_most : (t : Dtype) → size_of t ≤ 8
size_most t = (positive (size_of t) (IsSize-size_of t)).1

-- so many bytes from place j on of the first m
pub part_inside : (n j m : ℕ) (xs : List ℕ) → j + n ≤ m → take n (drop j (take m xs)) ≡ take n (drop j xs)
part_inside n j m xs h =
    let sum : m ≡ j + (m - j) = omega arith in
    ap (λ k. take n (drop j (take k xs))) sum ∙ ap (take n) (drop-take j (m - j) xs) ∙ take-take n (m - j) (drop j xs) (omega arith)

-- an element of a part is one of the buffer
pub element_of_part : (t : Dtype) (bytes : List ℕ) (first from n k : ℕ) → from ≡ first * size_of t → k * size_of t + size_of t ≤ n
    → element_at Little t (take n (drop from bytes)) k ≡ element_at Little t bytes (first + k)
element_of_part t bytes first from n k starts inside =
    let moved : from + k * size_of t ≡ (first + k) * size_of t = omega arith in
    element_at_same Little t (take n (drop from bytes)) bytes k (first + k)
    (part_inside (size_of t) (k * size_of t) n (drop from bytes) inside
    ∙ ap (take (size_of t)) (drop-drop (k * size_of t) from bytes ∙ ap (λ j. drop j bytes) moved))

pub part_length : (bytes : List ℕ) (from n : ℕ) → from + n ≤ length bytes → length (take n (drop from bytes)) ≡ n
part_length bytes from n h = simp (length-take, length-drop) (omega arith)

-- how many elements so many bytes are
pub element_count : (t : Dtype) (count size bytes : ℕ) → size ≡ size_of t → bytes ≡ count * size_of t → bytes / size ≡ count
element_count t count size bytes e h =
    let none : count * size_of t ≡ count * size_of t + 0 = omega arith in
    (λ i. (h ∙ none) i / e i) ∙ div-mul-add count (size_of t) 0 (size_positive t)

-- an element below the count has its bytes
pub element_fits : (t : Dtype) (k size bytes : ℕ) → size ≡ size_of t → k < bytes / size → k * size_of t + size_of t ≤ bytes
element_fits t k size bytes e h =
    let far : suc k * size ≤ bytes / size * size = mul-le-mul_right size h in
    let most = div-mul-le_self bytes size in
    let product = ap (λ s. suc k * s) e in
    omega arith

-- the only element of a buffer after it was written
pub element_written : (t : Dtype) (old new : List ℕ) (x v : ℤ) → size_of t ≤ length old → new ≡ written_at t old 0 (element_bytes Little t x) → x ≡ v → InRange t v → element_at Little t new 0 ≡ v
element_written t old new x v room written is range =
    ap (λ all. element_at Little t all 0) written ∙ element_at-written_at_same Little t old 0 x (omega arith) ∙ ap (wrapped t) is ∙ wrapped_in_range t v range

-- so many elements have their bytes
pub elements_fit : (t : Dtype) (k size bytes : ℕ) → size ≡ size_of t → k ≤ bytes / size → k * size_of t ≤ bytes
elements_fit t k size bytes e h =
    let far : k * size ≤ bytes / size * size = mul-le-mul_right size h in
    let most = div-mul-le_self bytes size in
    let product = ap (λ s. k * s) e in
    omega arith

-- the bytes of the elements from one to below another
pub bytes_between : (from end size own : ℕ) → size ≡ own → from ≤ end → end * size - from * size ≡ (end - from) * own
bytes_between from end size own e h =
    let more = end - from in
    let sum : end ≡ from + more = omega arith in
    let all : end * size ≡ from * size + more * size = ap (λ n. n * size) sum ∙ omega arith in
    let each : more * size ≡ more * own = ap (λ s. more * s) e in
    omega arith

-- how many elements stand from one on, and where they are
pub rest_count : (t : Dtype) (start size bytes : ℕ) → size ≡ size_of t → start ≤ bytes / size_of t → (bytes - start * size) / size_of t ≡ bytes / size_of t - start
rest_count t start size bytes e h =
    let own = size_of t in
    let left = bytes / own - start in
    let whole = div-add-mod' bytes own in
    let low = mod_below bytes own (size_positive t) in
    let sum : bytes / own ≡ start + left = omega arith in
    let all : bytes ≡ start * own + left * own + bytes % own = sym whole ∙ (ap (λ q. q * own + bytes % own) sum ∙ omega arith) in
    let same : start * size ≡ start * own = ap (λ s. start * s) e in
    let is : bytes - start * size ≡ left * own + bytes % own = omega arith in
    ap (λ b. b / own) is ∙ div-mul-add left own (bytes % own) low

pub rest_fits : (t : Dtype) (start j size bytes : ℕ) → size ≡ size_of t → start + j < bytes / size_of t → j * size_of t + size_of t ≤ bytes - start * size
rest_fits t start j size bytes e h =
    let fits = element_fits t (start + j) (size_of t) bytes refl h in
    let same : start * size ≡ start * size_of t = ap (λ s. start * s) e in
    omega arith
