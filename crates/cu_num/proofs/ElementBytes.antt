-- The bytes of an element, written and read.
use Rattle.std.proofs.Common.{◌≡◌, ℕ, ◌+◌, ◌-◌, ◌*◌, ◌%◌, ◌^◌, ◌<◌, ◌≤◌, zero, suc, List, ◌++◌, length, take, drop, refl, sym, ap, ◌∙◌, arith, ℤ, pos, negsuc, ⊎_elim, ◌≢◌, append_assoc, length-append, length-drop}
use Rattle.std.proofs.lemmas.List.{drop-drop, take_all, length-take, length-reverse, reverse-reverse}
use Rattle.std.proofs.lemmas.Slice.{between_is, take-put_mid_below, drop-put_mid, between-put_mid}
use Rattle.std.proofs.lemmas.Bool.{cases_order}
use Rattle.std.proofs.Math.Nat.{mod-eq_of_lt, mul-le-mul_right}
use Rattle.std.specs.List.{between}
use borrow.Rule.Slice.PartMut.{put_mid}
use Rattle.cu_num.specs.Dtype.{size_of, bit_width, InRange, IsInteger}
use Rattle.cu_num.specs.Wrap.{residue, truth_of, wrapped}
use Rattle.cu_num.specs.Element.{low_bytes, number_of_bytes, in_order, element_bytes, bytes_at, element_at}
use Rattle.cu_num.proofs.Bytes.{length-low_bytes, number_of_bytes-low_bytes}
use Rattle.cu_num.proofs.Residue.{same-residue, residue-lt}
use Rattle.cu_num.proofs.Wrapped.{by_class, wrapped_same, wrapped-wrapped, wrapped_in_range, InRange-wrapped}
use Rattle.cu_num.specs.declared.types.Dtype.{Dtype}
use Rattle.cu_num.specs.declared.types.Dtype.TheVariants.{Bool, Int8, Int16, Int32, Int64, Uint8, Uint16, Uint32, Uint64}
use Rattle.cu_num.specs.declared.layout.Endian.{Endian}
use Rattle.cu_num.specs.declared.layout.Endian.TheVariants.{Little, Big}

length-in_order : (e : Endian) (bytes : List ℕ) → length (in_order e bytes) ≡ length bytes
length-in_order Little bytes = refl
length-in_order Big bytes = length-reverse bytes

in_order-in_order : (e : Endian) (bytes : List ℕ) → in_order e (in_order e bytes) ≡ bytes
in_order-in_order Little bytes = refl
in_order-in_order Big bytes = reverse-reverse bytes

pub length-element_bytes : (e : Endian) (t : Dtype) (x : ℤ) → length (element_bytes e t x) ≡ size_of t
unfolding element_bytes
length-element_bytes e t x =
    length-in_order e (low_bytes (size_of t) (residue (8 * size_of t) (wrapped t x))) ∙ length-low_bytes (size_of t) (residue (8 * size_of t) (wrapped t x))

-- an integer type has eight bits a byte
pub width_is : (t : Dtype) → IsInteger t → bit_width t ≡ 8 * size_of t
width_is Bool h = absurd h
width_is Int8 h = refl
width_is Int16 h = refl
width_is Int32 h = refl
width_is Int64 h = refl
width_is Uint8 h = refl
width_is Uint16 h = refl
width_is Uint32 h = refl
width_is Uint64 h = refl

truth_read : (x : ℤ) → truth_of (pos (residue 8 (truth_of x) % 2 ^ 8)) ≡ truth_of x
truth_read (pos zero) = refl
truth_read (pos (suc n)) = refl
truth_read (negsuc n) = refl

read_integer : (t : Dtype) → IsInteger t → (x : ℤ) → wrapped t (pos (residue (8 * size_of t) (wrapped t x) % 2 ^ (8 * size_of t))) ≡ wrapped t x
read_integer t h x =
    let whole : residue (8 * size_of t) (wrapped t x) % 2 ^ (8 * size_of t) ≡ residue (8 * size_of t) (wrapped t x) = mod-eq_of_lt (residue-lt (8 * size_of t) (wrapped t x)) in
    ap (λ n. wrapped t (pos n)) whole
    ∙ ap (λ w. wrapped t (pos (residue w (wrapped t x)))) (sym (width_is t h))
    ∙ wrapped_same t h (pos (residue (bit_width t) (wrapped t x))) (wrapped t x) (same-residue (bit_width t) (wrapped t x))
    ∙ wrapped-wrapped t x

-- the two's complement of a number of the type gives the number back
read : (t : Dtype) (x : ℤ) → wrapped t (pos (residue (8 * size_of t) (wrapped t x) % 2 ^ (8 * size_of t))) ≡ wrapped t x
unfolding wrapped
read t x = by_class (λ t. wrapped t (pos (residue (8 * size_of t) (wrapped t x) % 2 ^ (8 * size_of t))) ≡ wrapped t x) (truth_read x)
    (λ t h. read_integer t h x) t

-- what is read from the bytes of a number is the number wrapped
pub element_at-element_bytes : (e : Endian) (t : Dtype) (x : ℤ) → element_at e t (element_bytes e t x) 0 ≡ wrapped t x
unfolding element_at element_bytes
element_at-element_bytes e t x =
    let n = residue (8 * size_of t) (wrapped t x) in
    let written = in_order e (low_bytes (size_of t) n) in
    let long : length written ≤ size_of t = omega (arith, length-element_bytes e t x) in
    let first : 0 * size_of t ≡ 0 = omega arith in
    ap (λ start. wrapped t (pos (number_of_bytes (in_order e (take (size_of t) (drop start written)))))) first
    ∙ ap (λ bytes. wrapped t (pos (number_of_bytes (in_order e bytes)))) (take_all (size_of t) written long)
    ∙ ap (λ bytes. wrapped t (pos (number_of_bytes bytes))) (in_order-in_order e (low_bytes (size_of t) n))
    ∙ ap (λ m. wrapped t (pos m)) (number_of_bytes-low_bytes (size_of t) n)
    ∙ read t x

pub element_at-element_bytes_in_range : (e : Endian) (t : Dtype) (x : ℤ) → InRange t x → element_at e t (element_bytes e t x) 0 ≡ x
element_at-element_bytes_in_range e t x h = element_at-element_bytes e t x ∙ wrapped_in_range t x h

-- an element depends on its own bytes alone
pub element_at_same : (e : Endian) (t : Dtype) (bytes other : List ℕ) (at place : ℕ) → bytes_at t bytes at ≡ bytes_at t other place → element_at e t bytes at ≡ element_at e t other place
unfolding element_at
element_at_same e t bytes other at place h = ap (λ own. wrapped t (pos (number_of_bytes (in_order e own)))) h

first_own : (t : Dtype) (own : List ℕ) → length own ≤ size_of t → bytes_at t own 0 ≡ own
first_own t own h =
    let first : 0 * size_of t ≡ 0 = omega arith in
    ap (λ start. take (size_of t) (drop start own)) first ∙ take_all (size_of t) own h

pub element_at_own : (e : Endian) (t : Dtype) (bytes : List ℕ) (at : ℕ) → element_at e t bytes at ≡ element_at e t (bytes_at t bytes at) 0
element_at_own e t bytes at =
    element_at_same e t bytes (bytes_at t bytes at) at 0 (sym (first_own t (bytes_at t bytes at) (omega (arith, length-take (size_of t) (drop (at * size_of t) bytes)))))

pub InRange-element_at : (e : Endian) (t : Dtype) (bytes : List ℕ) (at : ℕ) → InRange t (element_at e t bytes at)
unfolding element_at
InRange-element_at e t bytes at = InRange-wrapped t (pos (number_of_bytes (in_order e (bytes_at t bytes at))))

-- ---- after a write of an element

-- `bytes` with the bytes of element `at` replaced
abbrev pub written_at : Dtype → List ℕ → ℕ → List ℕ → List ℕ
written_at t bytes at own = take (at * size_of t) bytes ++ own ++ drop (at * size_of t + size_of t) bytes

is_mid : (t : Dtype) (bytes own : List ℕ) (at : ℕ) → written_at t bytes at own ≡ put_mid (at * size_of t) (size_of t) bytes own
is_mid t bytes own at =
    append_assoc (take (at * size_of t) bytes) own (drop (at * size_of t + size_of t) bytes)
    ∙ ap (λ rest. take (at * size_of t) bytes ++ (own ++ rest)) (sym (drop-drop (size_of t) (at * size_of t) bytes))

is_between : (t : Dtype) (bytes : List ℕ) (at : ℕ) → bytes_at t bytes at ≡ between (at * size_of t) (at * size_of t + size_of t) bytes
is_between t bytes at = let width : size_of t ≡ at * size_of t + size_of t - at * size_of t = omega arith in ap (λ n. take n (drop (at * size_of t) bytes)) width

pub bytes_at-written_at_same : (t : Dtype) (bytes own : List ℕ) (at : ℕ) → length own ≡ size_of t → at * size_of t + size_of t ≤ length bytes → bytes_at t (written_at t bytes at own) at ≡ own
bytes_at-written_at_same t bytes own at long h =
    ap (λ all. bytes_at t all at) (is_mid t bytes own at)
    ∙ is_between t (put_mid (at * size_of t) (size_of t) bytes own) at
    ∙ between-put_mid (at * size_of t) (size_of t) bytes own (at * size_of t + size_of t) (omega arith) (omega arith)

below : (t : Dtype) (bytes own : List ℕ) (at other : ℕ) → other < at → at * size_of t + size_of t ≤ length bytes → bytes_at t (put_mid (at * size_of t) (size_of t) bytes own) other ≡ bytes_at t bytes other
below t bytes own at other less h =
    let size = size_of t in
    let mid = put_mid (at * size) size bytes own in
    let far : suc other * size ≤ at * size = mul-le-mul_right size less in
    is_between t mid other ∙ between_is mid (other * size) (other * size + size)
    ∙ ap (drop (other * size)) (take-put_mid_below (at * size) size bytes own (other * size + size) (omega arith) (omega arith))
    ∙ sym (is_between t bytes other ∙ between_is bytes (other * size) (other * size + size))

above : (t : Dtype) (bytes own : List ℕ) (at other : ℕ) → at < other → length own ≡ size_of t → at * size_of t + size_of t ≤ length bytes → bytes_at t (put_mid (at * size_of t) (size_of t) bytes own) other ≡ bytes_at t bytes other
above t bytes own at other more long h =
    let size = size_of t in
    let far : suc at * size ≤ other * size = mul-le-mul_right size more in
    ap (take size) (drop-put_mid (at * size) size bytes own (other * size) (omega arith) (omega arith) long)

pub bytes_at-written_at_other : (t : Dtype) (bytes own : List ℕ) (at other : ℕ) → other ≢ at → length own ≡ size_of t → at * size_of t + size_of t ≤ length bytes → bytes_at t (written_at t bytes at own) other ≡ bytes_at t bytes other
bytes_at-written_at_other t bytes own at other apart long h =
    ap (λ all. bytes_at t all other) (is_mid t bytes own at)
    ∙ ⊎_elim (λ same. absurd (apart same)) (λ rest. ⊎_elim (λ less. below t bytes own at other less h) (λ more. above t bytes own at other more long h) rest) (cases_order other at)

-- the element that was written is the number wrapped, and each other element is as before
pub element_at-written_at_same : (e : Endian) (t : Dtype) (bytes : List ℕ) (at : ℕ) (x : ℤ) → at * size_of t + size_of t ≤ length bytes → element_at e t (written_at t bytes at (element_bytes e t x)) at ≡ wrapped t x
element_at-written_at_same e t bytes at x h =
    let own = element_bytes e t x in
    let long = length-element_bytes e t x in
    element_at_same e t (written_at t bytes at own) own at 0 (bytes_at-written_at_same t bytes own at long h ∙ sym (first_own t own (omega arith)))
    ∙ element_at-element_bytes e t x

pub element_at-written_at_other : (e : Endian) (t : Dtype) (bytes : List ℕ) (at other : ℕ) (x : ℤ) → other ≢ at → at * size_of t + size_of t ≤ length bytes
    → element_at e t (written_at t bytes at (element_bytes e t x)) other ≡ element_at e t bytes other
element_at-written_at_other e t bytes at other x apart h =
    element_at_same e t (written_at t bytes at (element_bytes e t x)) bytes other other (bytes_at-written_at_other t bytes (element_bytes e t x) at other apart (length-element_bytes e t x) h)

pub length-written_at : (e : Endian) (t : Dtype) (bytes : List ℕ) (at : ℕ) (x : ℤ) → at * size_of t + size_of t ≤ length bytes → length (written_at t bytes at (element_bytes e t x)) ≡ length bytes
length-written_at e t bytes at x h =
    simp (length-append, length-take, length-drop) (omega (arith, length-element_bytes e t x))
