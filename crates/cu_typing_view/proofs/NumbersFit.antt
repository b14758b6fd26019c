-- A product of a number of 64 bits and a signed one of 64 bits fits 128 bits.
use Rattle.std.proofs.Common.{◌≡◌, ◌∙◌, ℕ, ◌<◌, ◌≤◌, ◌^◌, ◌-◌, ℤ, pos, negsuc, ◌+ℤ◌, ◌*◌, ◌*ℤ◌, to_z, of_z, unsigned_abs, ap, sym, subst, arith}
use Rattle.std.proofs.lemmas.Int.{ints, fits_signed_mul, to_z-of_z, to_z_pos, unsigned_abs-mul}
use Rattle.std.proofs.Math.Nat.{mul-le-mul}
use Rattle.std.specs.Int.{w128, w64}
use Rattle.std.specs.Prelude.{FitsSigned}

abs_small : (z : ℤ) → FitsSigned w64 z → unsigned_abs z ≤ 2 ^ 63
abs_small (pos n) h = omega (arith, ints)
abs_small (negsuc n) h = omega (arith, ints)

pub product_fits : (k : ℕ) (z : ℤ) → k < 2 ^ 64 → FitsSigned w64 z → FitsSigned w128 (pos k *ℤ z)
product_fits k z small fits = fits_signed_mul w128 (pos k) z (2 ^ 64 - 1) (2 ^ 63) (omega (arith, ints)) (abs_small z fits) (omega arith)

fits_beside : (s p : ℤ) → FitsSigned w64 s → unsigned_abs p ≤ (2 ^ 64 - 1) * 2 ^ 63 → FitsSigned w128 (s +ℤ p)
fits_beside (pos a) (pos n) h b = omega (arith, ints)
fits_beside (pos a) (negsuc n) h b = omega (arith, ints)
fits_beside (negsuc a) (pos n) h b = omega (arith, ints)
fits_beside (negsuc a) (negsuc n) h b = omega (arith, ints)

-- and so does its sum with a signed number of 64 bits
pub sum_fits : (k : ℕ) (s z : ℤ) → k < 2 ^ 64 → FitsSigned w64 s → FitsSigned w64 z → FitsSigned w128 (s +ℤ pos k *ℤ z)
sum_fits k s z small fits_s fits_z =
    let size : unsigned_abs (pos k *ℤ z) ≡ k * unsigned_abs z = unsigned_abs-mul (pos k) z in
    let bound : k * unsigned_abs z ≤ (2 ^ 64 - 1) * 2 ^ 63 = mul-le-mul (let l : k ≤ 2 ^ 64 - 1 = omega arith in l) (abs_small z fits_z) in
    fits_beside s (pos k *ℤ z) fits_s (omega arith)

-- ---- as the code computes them, from numbers of 64 bits

abbrev pub widened : ℤ → ℤ
widened z = to_z w128 (of_z w128 (to_z w64 (of_z w64 z)))

wider : (z : ℤ) → FitsSigned w64 z → FitsSigned w128 z
wider (pos n) h = omega (arith, ints)
wider (negsuc n) h = omega (arith, ints)

widened_is : (z : ℤ) → FitsSigned w64 z → widened z ≡ z
widened_is z fits =
    let same = to_z-of_z w64 z fits in
    to_z-of_z w128 (to_z w64 (of_z w64 z)) (subst (λ (x : ℤ). FitsSigned w128 x) (sym same) (wider z fits)) ∙ same

abbrev pub product_of : ℕ → ℤ → ℤ
product_of k z = to_z w128 k *ℤ widened z

product_is : (k : ℕ) (z : ℤ) → k < 2 ^ 64 → FitsSigned w64 z → product_of k z ≡ pos k *ℤ z
product_is k z small fits = ap (λ n. n *ℤ widened z) (to_z_pos w128 k (omega arith)) ∙ ap (λ x. pos k *ℤ x) (widened_is z fits)

pub product_of_fits : (k : ℕ) (z : ℤ) → k < 2 ^ 64 → FitsSigned w64 z → FitsSigned w128 (product_of k z)
product_of_fits k z small fits = subst (λ (x : ℤ). FitsSigned w128 x) (sym (product_is k z small fits)) (product_fits k z small fits)

abbrev pub sum_of : ℤ → ℕ → ℤ → ℤ
sum_of s k z = widened s +ℤ to_z w128 (of_z w128 (product_of k z))

sum_is : (s : ℤ) (k : ℕ) (z : ℤ) → k < 2 ^ 64 → FitsSigned w64 s → FitsSigned w64 z → sum_of s k z ≡ s +ℤ pos k *ℤ z
sum_is s k z small fits_s fits_z =
    ap (λ x. x +ℤ to_z w128 (of_z w128 (product_of k z))) (widened_is s fits_s)
    ∙ ap (λ x. s +ℤ x) (to_z-of_z w128 (product_of k z) (product_of_fits k z small fits_z) ∙ product_is k z small fits_z)

pub sum_of_fits : (s : ℤ) (k : ℕ) (z : ℤ) → k < 2 ^ 64 → FitsSigned w64 s → FitsSigned w64 z → FitsSigned w128 (sum_of s k z)
sum_of_fits s k z small fits_s fits_z = subst (λ (x : ℤ). FitsSigned w128 x) (sym (sum_is s k z small fits_s fits_z)) (sum_fits k s z small fits_s fits_z)

pub sum_of_is : (s : ℤ) (k : ℕ) (z : ℤ) → k < 2 ^ 64 → FitsSigned w64 s → FitsSigned w64 z → to_z w128 (of_z w128 (sum_of s k z)) ≡ s +ℤ pos k *ℤ z
sum_of_is s k z small fits_s fits_z = to_z-of_z w128 (sum_of s k z) (sum_of_fits s k z small fits_s fits_z) ∙ sum_is s k z small fits_s fits_z
