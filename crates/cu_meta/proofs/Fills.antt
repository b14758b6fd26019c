-- A fill value of the type is an integer that JSON data holds, and it is read back.
use Rattle.std.proofs.Common.{◌≡◌, ◌<◌, ◌≤◌, ℕ, zero, suc, ◌^◌, ◌-◌, ℤ, pos, negsuc, ◌≤ℤ◌, int_lt, ◌&&◌, not, Some, None, if◌then◌else◌, refl, arith}
use Rattle.std.specs.Prelude.{Bool as Test, true, false}
use Rattle.std.proofs.lemmas.Bool.{le-ltb}
use Rattle.std.proofs.Math.Dec.{leb→le}
use Rattle.serde_json.specs.Data.{number}
use Rattle.serde_json.specs.Find.{of_integer}
use Rattle.cu_json.proofs.Compact.{IsWritten}
use Rattle.cu_num.specs.Dtype.{least, greatest, InRange}
use Rattle.cu_num.specs.declared.types.Dtype.{Dtype}
use Rattle.cu_num.specs.declared.types.Dtype.TheVariants.{Bool, Int8, Int16, Int32, Int64, Uint8, Uint16, Uint32, Uint64}
use Rattle.cu_meta_members.specs.Members.{within, whole_of, fill_of}
use Rattle.cu_meta.proofs.LayoutData.{fill_data}

pos_within : (n m : ℕ) → pos n ≤ℤ pos m → n ≤ m
pos_within n m h = leb→le n m h.le

neg_within : (n m : ℕ) → negsuc m ≤ℤ negsuc n → n ≤ m
neg_within n m h = leb→le n m h.le

not_negative : (m n : ℕ) → pos m ≤ℤ negsuc n → ⊥
not_negative m n h = h.le

-- a number of a type, without its sign
pub most : (t : Dtype) (n : ℕ) → pos n ≤ℤ greatest t → n < 2 ^ 64
most Bool n h = let b : n ≤ 1 = pos_within n 1 h in omega arith
most Int8 n h = let b : n ≤ 2 ^ 7 - 1 = pos_within n (2 ^ 7 - 1) h in omega arith
most Int16 n h = let b : n ≤ 2 ^ 15 - 1 = pos_within n (2 ^ 15 - 1) h in omega arith
most Int32 n h = let b : n ≤ 2 ^ 31 - 1 = pos_within n (2 ^ 31 - 1) h in omega arith
most Int64 n h = let b : n ≤ 2 ^ 63 - 1 = pos_within n (2 ^ 63 - 1) h in omega arith
most Uint8 n h = let b : n ≤ 2 ^ 8 - 1 = pos_within n (2 ^ 8 - 1) h in omega arith
most Uint16 n h = let b : n ≤ 2 ^ 16 - 1 = pos_within n (2 ^ 16 - 1) h in omega arith
most Uint32 n h = let b : n ≤ 2 ^ 32 - 1 = pos_within n (2 ^ 32 - 1) h in omega arith
most Uint64 n h = let b : n ≤ 2 ^ 64 - 1 = pos_within n (2 ^ 64 - 1) h in omega arith

pub least_below : (t : Dtype) (n : ℕ) → least t ≤ℤ negsuc n → n < 2 ^ 63
least_below Bool n h = absurd (not_negative 0 n h)
least_below Int8 n h = let b : n ≤ 2 ^ 7 - 1 = neg_within n (2 ^ 7 - 1) h in omega arith
least_below Int16 n h = let b : n ≤ 2 ^ 15 - 1 = neg_within n (2 ^ 15 - 1) h in omega arith
least_below Int32 n h = let b : n ≤ 2 ^ 31 - 1 = neg_within n (2 ^ 31 - 1) h in omega arith
least_below Int64 n h = let b : n ≤ 2 ^ 63 - 1 = neg_within n (2 ^ 63 - 1) h in omega arith
least_below Uint8 n h = absurd (not_negative 0 n h)
least_below Uint16 n h = absurd (not_negative 0 n h)
least_below Uint32 n h = absurd (not_negative 0 n h)
least_below Uint64 n h = absurd (not_negative 0 n h)

pub written_integer : (t : Dtype) (x : ℤ) → InRange t x → IsWritten (of_integer x)
written_integer t (pos n) h = most t n h.1
written_integer t (negsuc n) h = least_below t n h.0

-- ---- the value read back

not_below : (a b : ℤ) → a ≤ℤ b → int_lt b a ≡ false
not_below (pos a) (pos b) h = le-ltb b a (leb→le a b h.le)
not_below (pos a) (negsuc b) h = absurd h.le
not_below (negsuc a) (pos b) h = refl
not_below (negsuc a) (negsuc b) h = le-ltb a b (leb→le b a h.le)

both_false : (a b : Test) → a ≡ false → b ≡ false → (not a && not b) ≡ true
both_false a b p q = rw (p, q) refl

in_range_within : (t : Dtype) (x : ℤ) → InRange t x → within t x ≡ true
in_range_within t x h = both_false (int_lt x (least t)) (int_lt (greatest t) x) (not_below (least t) x h.0) (not_below x (greatest t) h.1)

chosen : (b : Test) (x : ℤ) → b ≡ true → (if b then Some x else None) ≡ Some x
chosen b x h = rw h refl

whole_back : (t : Dtype) (x : ℤ) → InRange t x → whole_of t (number (of_integer x)) ≡ Some x
whole_back t (pos n) h = chosen (within t (pos n)) (pos n) (in_range_within t (pos n) h)
whole_back t (negsuc n) h = chosen (within t (negsuc n)) (negsuc n) (in_range_within t (negsuc n) h)

truth_back : (x : ℤ) → InRange Bool x → fill_of Bool (fill_data Bool x) ≡ Some x
truth_back (pos zero) h = refl
truth_back (pos (suc zero)) h = refl
truth_back (pos (suc (suc n))) h = let b : suc (suc n) ≤ 1 = pos_within (suc (suc n)) 1 h.1 in absurd (omega arith)
truth_back (negsuc n) h = absurd (not_negative 0 n h.0)

pub fill_back : (t : Dtype) (x : ℤ) → InRange t x → fill_of t (fill_data t x) ≡ Some x
fill_back Bool x h = truth_back x h
fill_back Int8 x h = whole_back Int8 x h
fill_back Int16 x h = whole_back Int16 x h
fill_back Int32 x h = whole_back Int32 x h
fill_back Int64 x h = whole_back Int64 x h
fill_back Uint8 x h = whole_back Uint8 x h
fill_back Uint16 x h = whole_back Uint16 x h
fill_back Uint32 x h = whole_back Uint32 x h
fill_back Uint64 x h = whole_back Uint64 x h
