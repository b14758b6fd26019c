-- Numbers evenly spaced, `start + k * step`, as they are computed in 128 bits.
use Rattle.std.proofs.Common.{◌≡◌, ◌+ℤ◌, ◌*ℤ◌, ◌*◌, ◌-◌, ◌<◌, ◌≤◌, ◌^◌, ℕ, ℤ, pos, negsuc, suc, neg_ℤ, to_z, of_z, subst, sym, ◌∙◌, arith}
use mir.Syntax.{w128, w64}
use Rattle.std.specs.Prelude.{FitsSigned}
use Rattle.std.proofs.lemmas.Int.{ints, to_z-of_z, to_z_pos}
use Rattle.std.proofs.Math.Nat.{mul-le-mul}
use Rattle.cu_typing_view.proofs.NumbersFit.{product_fits}

-- ---- one number

pub signed_fits : (z : ℤ) → FitsSigned w64 z → FitsSigned w128 z
signed_fits (pos n) h = omega (arith, ints)
signed_fits (negsuc n) h = omega (arith, ints)

pub count_fits : (n : ℕ) → n < 2 ^ 64 → FitsSigned w128 (pos n)
count_fits n h = omega (arith, ints)

-- a number of 64 bits in 128
abbrev pub wide : ℤ → ℤ
wide z = to_z w128 (of_z w128 (to_z w64 (of_z w64 z)))

pub narrow_fits : (z : ℤ) → FitsSigned w64 z → FitsSigned w128 (to_z w64 (of_z w64 z))
narrow_fits z h = subst (λ (x : ℤ). FitsSigned w128 x) (sym (to_z-of_z w64 z h)) (signed_fits z h)

pub wide_is : (z : ℤ) → FitsSigned w64 z → wide z ≡ z
wide_is z h = to_z-of_z w128 (to_z w64 (of_z w64 z)) (narrow_fits z h) ∙ to_z-of_z w64 z h

-- ---- the product

times_is : (k : ℕ) (z : ℤ) → k < 2 ^ 64 → FitsSigned w64 z → to_z w128 k *ℤ wide z ≡ pos k *ℤ z
times_is k z small h =
    let count : to_z w128 k ≡ pos k = to_z_pos w128 k (omega arith) in
    let step : wide z ≡ z = wide_is z h in
    cc

pub product_wide : (k : ℕ) (z : ℤ) → k < 2 ^ 64 → FitsSigned w64 z → FitsSigned w128 (to_z w128 k *ℤ wide z)
product_wide k z small h = subst (λ (x : ℤ). FitsSigned w128 x) (sym (times_is k z small h)) (product_fits k z small h)

product_is : (k : ℕ) (z : ℤ) → k < 2 ^ 64 → FitsSigned w64 z → to_z w128 (of_z w128 (to_z w128 k *ℤ wide z)) ≡ pos k *ℤ z
product_is k z small h = to_z-of_z w128 (to_z w128 k *ℤ wide z) (product_wide k z small h) ∙ times_is k z small h

-- ---- the sum, where `a` is the start as it is in 128 bits

pub sum_wide : (a s z : ℤ) (k : ℕ) → a ≡ s → k < 2 ^ 64 → FitsSigned w64 z → FitsSigned w128 (s +ℤ pos k *ℤ z) → FitsSigned w128 (a +ℤ to_z w128 (of_z w128 (to_z w128 k *ℤ wide z)))
sum_wide a s z k same small h fits =
    let product = product_is k z small h in
    let sum : s +ℤ pos k *ℤ z ≡ a +ℤ to_z w128 (of_z w128 (to_z w128 k *ℤ wide z)) = cc in
    subst (λ (x : ℤ). FitsSigned w128 x) sum fits

pub spaced : (a s z : ℤ) (k : ℕ) → a ≡ s → k < 2 ^ 64 → FitsSigned w64 z → FitsSigned w128 (s +ℤ pos k *ℤ z)
    → to_z w128 (of_z w128 (a +ℤ to_z w128 (of_z w128 (to_z w128 k *ℤ wide z)))) ≡ s +ℤ pos k *ℤ z
spaced a s z k same small h fits =
    let product = product_is k z small h in
    let sum : a +ℤ to_z w128 (of_z w128 (to_z w128 k *ℤ wide z)) ≡ s +ℤ pos k *ℤ z = cc in
    to_z-of_z w128 (a +ℤ to_z w128 (of_z w128 (to_z w128 k *ℤ wide z))) (sum_wide a s z k same small h fits) ∙ sum

-- ---- a start of 64 bits without a sign

above_fits : (n m : ℕ) → n < 2 ^ 64 → m ≤ (2 ^ 64 - 1) * (2 ^ 63 - 1) → FitsSigned w128 (pos n +ℤ pos m)
above_fits n m small h = omega (arith, ints)

below_fits : (n m : ℕ) → n < 2 ^ 64 → m ≤ (2 ^ 64 - 1) * 2 ^ 63 → FitsSigned w128 (pos n +ℤ neg_ℤ (pos m))
below_fits n m small h = omega (arith, ints)

pub count_sum_fits : (first k : ℕ) (z : ℤ) → first < 2 ^ 64 → k < 2 ^ 64 → FitsSigned w64 z → FitsSigned w128 (pos first +ℤ pos k *ℤ z)
count_sum_fits first k (pos n) a b h = above_fits first (k * n) a (mul-le-mul (let l : k ≤ 2 ^ 64 - 1 = omega arith in l) (let l : n ≤ 2 ^ 63 - 1 = omega (arith, ints) in l))
count_sum_fits first k (negsuc n) a b h = below_fits first (k * suc n) a (mul-le-mul (let l : k ≤ 2 ^ 64 - 1 = omega arith in l) (let l : suc n ≤ 2 ^ 63 = omega (arith, ints) in l))
