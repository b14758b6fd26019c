-- A block of a buffer, and a buffer of which a block's part was written.
use Rattle.std.proofs.Common.{◌≡◌, refl, ℕ, suc, ◌+◌, ◌-◌, ◌*◌, ◌<◌, ◌≤◌, List, length, ◌++◌, take, drop, Option, None, Some, ap, sym, ◌∙◌, arith, length-append, length-take, length-drop}
use Rattle.std.proofs.lemmas.List.{drop-drop, length-take-le, drop_at, take_at}
use Rattle.std.proofs.lemmas.Slice.{take-put_mid_below}
use Rattle.std.proofs.Math.Nat.{mul-le-mul_right}
use Rattle.std.proofs.lemmas.Nat.{mul-le}
use borrow.Rule.Slice.PartMut.{put_mid, post_of}
use Rattle.cu_num.specs.Dtype.{size_of}
use Rattle.cu_num.specs.Element.{element_at, bytes_at}
use Rattle.cu_num.specs.declared.types.Dtype.{Dtype}
use Rattle.cu_num.specs.declared.types.Dtype.TheVariants.{Int64}
use Rattle.cu_num.specs.declared.layout.Endian.TheVariants.{Little}
use Rattle.cu_pairs.specs.Columns.{table, sought_place}
use Rattle.cu_pairs.specs.Blocks.{IsTablePart}
use Rattle.cu_pairs.proofs.Parts.{part_inside, part_length, element_of_part, bytes_between}

-- ---- a part of the elements

pub element_in : (t : Dtype) (bytes : List ℕ) (from count size k : ℕ) → size ≡ size_of t → (from + count) * size_of t ≤ length bytes → k < count
    → element_at Little t (take ((from + count) * size - from * size) (drop (from * size) bytes)) k ≡ element_at Little t bytes (from + k)
element_in t bytes from count size k e room b =
    let n = bytes_between from (from + count) size (size_of t) e (omega arith) in
    let more : from + count - from ≡ count = omega arith in
    let is : (from + count) * size - from * size ≡ count * size_of t = n ∙ ap (λ m. m * size_of t) more in
    let far : suc k * size_of t ≤ count * size_of t = mul-le-mul_right (size_of t) b in
    element_of_part t bytes from (from * size) ((from + count) * size - from * size) k (ap (λ s. from * s) e) (omega arith)

pub part_bytes : (t : Dtype) (bytes : List ℕ) (from count size : ℕ) → size ≡ size_of t → (from + count) * size_of t ≤ length bytes
    → length (take ((from + count) * size - from * size) (drop (from * size) bytes)) ≡ count * size_of t
part_bytes t bytes from count size e room =
    let n = bytes_between from (from + count) size (size_of t) e (omega arith) in
    let more : from + count - from ≡ count = omega arith in
    let is : (from + count) * size - from * size ≡ count * size_of t = n ∙ ap (λ m. m * size_of t) more in
    let start : from * size ≡ from * size_of t = ap (λ s. from * s) e in
    part_length bytes (from * size) ((from + count) * size - from * size) (omega arith) ∙ is

counted_same : (f : Option ℕ) (first : ℕ) (places : List ℕ) (i k other : ℕ) → f ≡ Some first → sought_place f places i k ≡ sought_place f places i other
counted_same f first places i k other e = ap (λ g. sought_place g places i k) e ∙ ap (λ g. sought_place g places i other) (sym e)

pub part_counted : (t : Dtype) (width : ℕ) (bytes : List ℕ) (whole_first : Option ℕ) (first : ℕ) (places : List ℕ) (from count size : ℕ) → whole_first ≡ Some first → size ≡ size_of t → (from + count) * size_of t ≤ length bytes
    → IsTablePart (table t width bytes whole_first places) (table t width (take ((from + count) * size - from * size) (drop (from * size) bytes)) (Some first) places) from count
part_counted t width bytes whole_first first places from count size is e room = record {
  bytes = let long = part_bytes t bytes from count size e room in omega arith;
  places = tt;
  elements = λ k b. element_in t bytes from count size k e room b;
  beside = λ k i b. ap (λ f. sought_place f places i k) (sym is) ∙ counted_same whole_first first places i k (from + k) is;
}

pub part_beside : (t : Dtype) (width : ℕ) (bytes : List ℕ) (whole_first : Option ℕ) (places : List ℕ) (from count size : ℕ) → whole_first ≡ None → size ≡ size_of t → (from + count) * size_of t ≤ length bytes → (from + count) * 8 ≤ length places
    → IsTablePart (table t width bytes whole_first places) (table t width (take ((from + count) * size - from * size) (drop (from * size) bytes)) None (take ((from + count) * 8 - from * 8) (drop (from * 8) places))) from count
part_beside t width bytes whole_first places from count size is e room beside = record {
  bytes = let long = part_bytes t bytes from count size e room in omega arith;
  places = let long = part_bytes Int64 places from count 8 refl beside in omega arith;
  elements = λ k b. element_in t bytes from count size k e room b;
  beside = λ k i b. element_in Int64 places from count 8 k refl beside b ∙ ap (λ f. sought_place f places i (from + k)) (sym is);
}

-- ---- sizes

pub factor_below : (n m limit : ℕ) → 0 < m → n * m ≤ limit → n ≤ limit
factor_below n m limit some h = let least : n * 1 ≤ n * m = mul-le n 1 n m (omega arith) some in omega arith

pub block_reaches : (block blocks count width size bytes : ℕ) → block < blocks → blocks * count * width * size ≤ bytes → (block * count * width + count * width) * size ≤ bytes
block_reaches block blocks count width size bytes b h =
    let far : suc block * (count * width * size) ≤ blocks * (count * width * size) = mul-le-mul_right (count * width * size) b in
    omega arith

-- the same of rows of one element, which are a run
pub record IsRunWithin (from count size bytes : ℕ) : Type 0 where
  pub begins : from * size ≤ (from + count) * size
  pub ends : (from + count) * size ≤ bytes
  pub small : from + count ≤ bytes

pub run_within : (block blocks count width own size bytes : ℕ) → block < blocks → width ≡ 1 → size ≡ own → 0 < own → blocks * count * width * own ≤ bytes → IsRunWithin (block * count) count size bytes
run_within block blocks count width own size bytes b one e some h =
    let reach = block_reaches block blocks count width own bytes b h in
    let same : (block * count * width + count * width) * own ≡ (block * count + count) * size =
    ap (λ w. (block * count * w + count * w) * own) one ∙ ap (λ s. (block * count * 1 + count * 1) * s) (sym e) ∙ (let each : (block * count * 1 + count * 1) * size ≡ (block * count + count) * size = omega arith in each) in
    let ends : (block * count + count) * size ≤ bytes = omega (arith, reach, same) in
    record {
      begins = mul-le-mul_right size (omega arith);
      ends = ends;
      small = factor_below (block * count + count) size bytes (omega (arith, e, some)) ends;
    }

pub block_end : (block blocks width size own bytes : ℕ) → block < blocks → size ≡ own → bytes ≡ blocks * width * own → (block * width + width) * size ≤ bytes
block_end block blocks width size own bytes b e h =
    let far : suc block * (width * own) ≤ blocks * (width * own) = mul-le-mul_right (width * own) b in
    let same : (block * width + width) * size ≡ (block * width + width) * own = ap (λ s. (block * width + width) * s) e in
    omega arith

-- a factor isn't greater than the product
-- ---- after a write of a part

pub length-put_mid : (a n : ℕ) (xs ys : List ℕ) → length ys ≡ n → a + n ≤ length xs → length (put_mid a n xs ys) ≡ length xs
length-put_mid a n xs ys e h = simp (length-append, length-take, length-drop) (omega arith)

pub bytes_below : (t : Dtype) (a n : ℕ) (xs ys : List ℕ) (p : ℕ) → p * size_of t + size_of t ≤ a → a ≤ length xs → bytes_at t (put_mid a n xs ys) p ≡ bytes_at t xs p
bytes_below t a n xs ys p less h =
    sym (part_inside (size_of t) (p * size_of t) a (put_mid a n xs ys) less)
    ∙ ap (λ part. take (size_of t) (drop (p * size_of t) part)) (take-put_mid_below a n xs ys a (omega arith) h)
    ∙ part_inside (size_of t) (p * size_of t) a xs less

pub bytes_inside : (t : Dtype) (a n : ℕ) (xs ys : List ℕ) (p k : ℕ) → p * size_of t ≡ a + k * size_of t → k * size_of t + size_of t ≤ length ys → a ≤ length xs → bytes_at t (put_mid a n xs ys) p ≡ bytes_at t ys k
bytes_inside t a n xs ys p k e less h =
    let from : drop (p * size_of t) (put_mid a n xs ys) ≡ drop (k * size_of t) (ys ++ post_of a n xs) =
    ap (λ j. drop j (put_mid a n xs ys)) e ∙ sym (drop-drop (k * size_of t) a (put_mid a n xs ys)) ∙ ap (drop (k * size_of t)) (drop_at (take a xs) (ys ++ post_of a n xs) a (length-take-le a xs h)) in
    ap (take (size_of t)) from
    ∙ sym (part_inside (size_of t) (k * size_of t) (length ys) (ys ++ post_of a n xs) less)
    ∙ ap (λ part. take (size_of t) (drop (k * size_of t) part)) (take_at ys (post_of a n xs) (length ys) refl)

-- what stands in a buffer after the results of a block were written
pub record BlockWritten (t : Dtype) (block width : ℕ) (old own whole : List ℕ) : Type 0 where
  pub long : length whole ≡ length old
  pub before : (b k : ℕ) → b < block → k < width → bytes_at t whole (b * width + k) ≡ bytes_at t old (b * width + k)
  pub here : (k : ℕ) → k < width → bytes_at t whole (block * width + k) ≡ bytes_at t own k

pub block_written : (t : Dtype) (block width size : ℕ) (old own : List ℕ) → size ≡ size_of t → length own ≡ width * size_of t → (block * width + width) * size ≤ length old
    → BlockWritten t block width old own (put_mid (block * width * size) ((block * width + width) * size - block * width * size) old own)
block_written t block width size old own e long room =
    let a = block * width * size in
    let n = (block * width + width) * size - a in
    let start : a ≡ block * width * size_of t = ap (λ s. block * width * s) e in
    let each : width * size ≡ width * size_of t = ap (λ s. width * s) e in
    let is : n ≡ width * size_of t = omega arith in
    record {
      long = length-put_mid a n old own (long ∙ sym is) (omega arith);
      before = λ b k less below.
          let far : suc b * width ≤ block * width = mul-le-mul_right width less in
          let last : suc (b * width + k) * size_of t ≤ block * width * size_of t = mul-le-mul_right (size_of t) (let l : suc (b * width + k) ≤ block * width = omega arith in l) in
          bytes_below t a n old own (b * width + k) (omega arith) (omega arith);
      here = λ k below.
          let last : suc k * size_of t ≤ width * size_of t = mul-le-mul_right (size_of t) below in
          let at : (block * width + k) * size_of t ≡ a + k * size_of t = omega arith in
          bytes_inside t a n old own (block * width + k) k at (omega arith) (omega arith);
    }

pub block_length : (block width size own : ℕ) (old : List ℕ) → size ≡ own → (block * width + width) * size ≤ length old
    → length (take ((block * width + width) * size - block * width * size) (drop (block * width * size) old)) ≡ width * own
block_length block width size own old e room =
    let each : width * size ≡ width * own = ap (λ s. width * s) e in
    part_length old (block * width * size) ((block * width + width) * size - block * width * size) (omega arith) ∙ omega arith
