-- Sums in a narrow type, which stand in a buffer that had zeros.
use Rattle.std.proofs.Common.{◌≡◌, ℕ, zero, suc, ◌+◌, ◌-◌, ◌*◌, ◌<◌, ◌≤◌, ℤ, pos, neg_ℤ, ◌+ℤ◌, ◌≤ℤ◌, List, [], ◌∷◌, All, length, take, replicate, refl, sym, ap, ◌∙◌, subst, arith}
use Rattle.std.proofs.lemmas.Nat.{pow_pos}
use Rattle.std.proofs.lemmas.Int.{ints}
use Rattle.std.proofs.lemmas.List.{drop-replicate, take-replicate, length-map}
use Rattle.std.proofs.lemmas.List.Elements.{All-head, All-tail, All-nil, All-cons}
use Rattle.std.proofs.lemmas.List.FromFn.{length-range_with_len}
use Rattle.std.proofs.Math.Nat.{mul-le-mul_right, mod-eq_of_lt}
use Rattle.cu_num.specs.Dtype.{size_of, InRange, IsInteger}
use Rattle.cu_num.specs.Wrap.{residue, wrapped}
use Rattle.cu_num.specs.Element.{element_at, element_bytes, low_bytes}
use Rattle.cu_num.proofs.Wrapped.{wrapped_in_range, wrapped-wrapped}
use Rattle.cu_num.proofs.ElementBytes.{InRange-element_at}
use Rattle.cu_num.specs.declared.types.Dtype.{Dtype}
use Rattle.cu_num.specs.declared.types.Dtype.TheVariants as t
use Rattle.cu_num.specs.declared.types.Dtype.TheVariants.{Int16, Int32}
use Rattle.cu_num.specs.declared.layout.Endian.TheVariants.{Little}
use Rattle.cu_num.specs.declared.folds.FoldKind.TheVariants.{Sum}
use Rattle.cu_reduce.specs.Folds.{exact_sum}
use Rattle.cu_reduce.specs.Numbers.{HasNumber}
use Rattle.cu_reduce.specs.Running.{running}
use Rattle.cu_reduce.proofs.Folding.{running_fold, running_in_range, running_unit, zero_in_range}
use Rattle.cu_take.specs.Taken.{HasTaken, elements_at_places, column_places}
use Rattle.cu_take.proofs.Buffers.{number_read}
use Rattle.cu_take.proofs.RowSteps.{short_range}

-- ---- zeros

zero_low : (n : ℕ) → low_bytes n 0 ≡ replicate n 0
zero_low zero = refl
zero_low (suc n) = ap (λ bytes. 0 ∷ bytes) (zero_low n)

zero_residue : (w : ℕ) → residue w (pos 0) ≡ 0
zero_residue w = mod-eq_of_lt (pow_pos w)

zero_bytes : (t : Dtype) → element_bytes Little t (pos 0) ≡ replicate (size_of t) 0
unfolding element_bytes
zero_bytes t = ap (λ n. low_bytes (size_of t) n) (ap (residue (8 * size_of t))
    (wrapped_in_range t (pos 0) (zero_in_range t)) ∙ zero_residue (8 * size_of t))
    ∙ zero_low (size_of t)

zero_stands : (t : Dtype) (n at : ℕ) → at * size_of t + size_of t ≤ n
    → HasNumber t (replicate n 0) at (pos 0)
zero_stands t n at h =
    ap (take (size_of t)) (drop-replicate (at * size_of t) n 0)
    ∙ take-replicate (size_of t) (n - at * size_of t) 0 (omega (arith, h)) ∙ sym (zero_bytes t)

-- ---- sums that a narrow type has

-- from -b to b
record IsWithin (b : ℕ) (x : ℤ) : Type 0 where
  pub low : neg_ℤ (pos b) ≤ℤ x
  pub high : x ≤ℤ pos b

sum_within : (t : Dtype) (b : ℕ) → ((x : ℤ) → InRange t x → IsWithin b x) → (xs : List ℤ)
    → All (InRange t) xs → IsWithin (b * length xs) (exact_sum xs)
sum_within t b h [] all = record { low = omega (arith, ints); high = omega (arith, ints) }
sum_within t b h (x ∷ xs) all =
    let first = h x (All-head (InRange t) x xs all) in
    let rest = sum_within t b h xs (All-tail (InRange t) x xs all) in
    let more : b * suc (length xs) ≡ b + b * length xs = omega arith in
    record {
      low = omega (arith, ints, first.low, rest.low, more);
      high = omega (arith, ints, first.high, rest.high, more);
    }

one_byte : (t : Dtype) → size_of t ≡ 1 → (x : ℤ) → InRange t x → IsWithin 256 x
one_byte t.Bool e x f = record { low = omega (arith, ints, f.0); high = omega (arith, ints, f.1) }
one_byte t.Int8 e x f = record { low = omega (arith, ints, f.0); high = omega (arith, ints, f.1) }
one_byte t.Uint8 e x f = record { low = omega (arith, ints, f.0); high = omega (arith, ints, f.1) }
one_byte t.Int16 e x f = absurd (omega arith)
one_byte t.Int32 e x f = absurd (omega arith)
one_byte t.Int64 e x f = absurd (omega arith)
one_byte t.Uint16 e x f = absurd (omega arith)
one_byte t.Uint32 e x f = absurd (omega arith)
one_byte t.Uint64 e x f = absurd (omega arith)

pub byte_sums : (t : Dtype) → size_of t ≡ 1 → (xs : List ℤ) → length xs ≤ 8
    → All (InRange t) xs → InRange Int16 (exact_sum xs)
byte_sums t e xs few all =
    let sum = sum_within t 256 (one_byte t e) xs all in
    (omega (arith, ints, few, sum.low), omega (arith, ints, few, sum.high))

pub short_sums : (t : Dtype) → size_of t ≤ 2 → (xs : List ℤ) → length xs ≤ 8
    → All (InRange t) xs → InRange Int32 (exact_sum xs)
short_sums t e xs few all =
    let sum = sum_within t 65536 (λ x f. let r = short_range t x e f in record { low = omega (arith, ints, r.0); high = omega (arith, ints, r.1) }) xs all in
    (omega (arith, ints, few, sum.low), omega (arith, ints, few, sum.high))

-- ---- columns

pub elements_in_range : (t : Dtype) (bytes places : List ℕ)
    → All (InRange t) (elements_at_places t bytes places)
elements_in_range t bytes [] = All-nil (InRange t)
elements_in_range t bytes (p ∷ places) = All-cons (InRange t) _ _
    (InRange-element_at Little t bytes p) (elements_in_range t bytes places)

pub column_length : (t : Dtype) (bytes : List ℕ) (place step count j : ℕ)
    → length (elements_at_places t bytes (column_places place step count j)) ≡ count
column_length t bytes place step count j = simp (length-map, length-range_with_len)

pub number_fits : (t : Dtype) (j : ℕ) → j < 32 → size_of t ≤ 4
    → j * size_of t + size_of t ≤ 128
number_fits t j b short =
    let most : j * size_of t + size_of t ≤ 32 * size_of t =
    (let far : suc j * size_of t ≤ 32 * size_of t = mul-le-mul_right (size_of t) (omega arith) in
    omega (arith, far)) in
    omega (arith, most, short)

-- ---- a result that takes a sum

-- it has taken each number
pub sum_together : (acc : Dtype) (old new : List ℕ) (q : ℕ) (xs : List ℤ) → IsInteger acc
    → HasTaken Sum acc old new q (exact_sum xs ∷ []) → HasTaken Sum acc old new q xs
sum_together acc old new q xs a h = record {
  number = λ x f has.
      let same : wrapped acc (x +ℤ exact_sum xs) ≡ running Sum acc x xs =
      sym (running_fold Sum acc acc x xs a tt tt (λ i d less. tt))
      ∙ wrapped_in_range acc (running Sum acc x xs) (running_in_range Sum acc x xs f) in
      subst (λ z. HasNumber acc new q z) same (h.number x f has);
}

narrow_read : (narrow : Dtype) (sums : List ℕ) (n j : ℕ) (xs : List ℤ) → IsInteger narrow
    → InRange narrow (exact_sum xs) → j * size_of narrow + size_of narrow ≤ n
    → HasTaken Sum narrow (replicate n 0) sums j xs
    → element_at Little narrow sums j ≡ exact_sum xs
narrow_read narrow sums n j xs a f fits h =
    number_read narrow sums j (running Sum narrow (pos 0) xs)
    (h.number (pos 0) (zero_in_range narrow) (zero_stands narrow n j fits))
    ∙ ap (wrapped narrow) (running_unit Sum narrow narrow xs a tt (λ i d less. tt))
    ∙ wrapped-wrapped narrow (exact_sum xs) ∙ wrapped_in_range narrow (exact_sum xs) f

-- the same, of a row of sums
pub takes_sum : (acc narrow : Dtype) (old new sums : List ℕ)
    (n q step j : ℕ) (xs : List ℤ) → IsInteger acc → IsInteger narrow
    → InRange narrow (exact_sum xs) → j * size_of narrow + size_of narrow ≤ n
    → HasTaken Sum narrow (replicate n 0) sums (0 + j) xs
    → HasTaken Sum acc old new q (elements_at_places narrow sums (column_places 0 step 1 j))
    → HasTaken Sum acc old new q xs
takes_sum acc narrow old new sums n q step j xs a b f fits first last =
    let own : 0 + j ≡ j = omega arith in
    let at : 0 + 0 * step + j ≡ j = omega arith in
    let taken : HasTaken Sum narrow (replicate n 0) sums j xs =
    subst (λ k. HasTaken Sum narrow (replicate n 0) sums k xs) own first in
    let added : HasTaken Sum acc old new q (element_at Little narrow sums j ∷ []) =
    subst (λ k. HasTaken Sum acc old new q (element_at Little narrow sums k ∷ [])) at last in
    sum_together acc old new q xs a
    (subst (λ x. HasTaken Sum acc old new q (x ∷ []))
    (narrow_read narrow sums n j xs b f fits taken) added)
