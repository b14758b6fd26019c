-- The lowest bits of a number of 128 bits, by a mask.
use Rattle.std.proofs.Common.{◌≡◌, ℕ, ◌+◌, ◌-◌, ◌%◌, ◌^◌, ◌<◌, ◌≤◌, suc, zero, sym, ap, ◌∙◌, arith, ℤ, pos, negsuc, ◌-ℤ◌, neg_ℤ, bit_and}
use Rattle.std.proofs.lemmas.Int.{ints, to_z-of_z, to_z_pos}
use lib.IntN.{+ℤ_idl}
use Rattle.std.proofs.lemmas.Nat.{and_mask, pow_pos}
use Rattle.std.proofs.Math.Nat.{mod-eq_of_lt, pow-le-pow_right}
use Rattle.std.specs.Int.{w128, cast_signed, cast_unsigned, IsNonNegative}
use Rattle.std.specs.Prelude.{FitsSigned}
use Rattle.cu_num.specs.Wrap.{residue}
use Rattle.cu_num.proofs.Residue.{residue-mod, residue-lt}

-- the bits of a number of 128 bits are its residue
bits_are : (x : ℤ) → FitsSigned w128 x → cast_unsigned w128 x ≡ residue 128 x
bits_are (pos n) f = let fits = f.sfits in sym (mod-eq_of_lt (omega arith))
bits_are (negsuc n) f = let fits = f.sfits in let small : n % 2 ^ 128 ≡ n = mod-eq_of_lt (omega arith) in omega arith

pub masked : (x power : ℤ) (w : ℕ) → FitsSigned w128 x → FitsSigned w128 power → power ≡ pos (2 ^ w) → 2 ^ w ≤ 2 ^ 64 → w ≤ 64
    → cast_signed w128 (bit_and (cast_unsigned w128 x) (cast_unsigned w128 (cast_signed w128 (cast_unsigned w128 power) -ℤ pos 1))) ≡ pos (residue w x)
masked x power w f g is h small =
    let some = pow_pos w in
    let mask : cast_signed w128 (cast_unsigned w128 power) -ℤ pos 1 ≡ pos (2 ^ w - 1) = ap (λ z. z -ℤ pos 1) (to_z-of_z w128 power g ∙ is) ∙ omega (arith, ints) in
    let sum : 128 ≡ w + (128 - w) = omega arith in
    ap (λ m. cast_signed w128 (bit_and (cast_unsigned w128 x) (cast_unsigned w128 m))) mask
    ∙ ap (cast_signed w128) (and_mask (cast_unsigned w128 x) w ∙ ap (λ n. n % 2 ^ w) (bits_are x f ∙ ap (λ v. residue v x) sum) ∙ residue-mod w (128 - w) x)
    ∙ to_z_pos w128 (residue w x) (omega (arith, residue-lt w x))

-- a number that fits is passed on as it is
pub passed : (r a : ℤ) → FitsSigned w128 r → r ≡ a → cast_signed w128 (cast_unsigned w128 r) ≡ a
passed r a f e = to_z-of_z w128 r f ∙ e

-- the mask without the bits that are set
pub complement : (x power low : ℤ) (v w : ℕ) → FitsSigned w128 x → FitsSigned w128 power → FitsSigned w128 low → power ≡ pos (2 ^ v) → low ≡ pos (residue v (cast_signed w128 (cast_unsigned w128 x))) → 2 ^ v ≤ 2 ^ 64 → v ≡ w
    → cast_signed w128 (cast_unsigned w128 (cast_signed w128 (cast_unsigned w128 (cast_signed w128 (cast_unsigned w128 power) -ℤ pos 1)) -ℤ cast_signed w128 (cast_unsigned w128 low))) ≡ pos (2 ^ w - 1 - residue w x)
complement x power low v w f g h is from bound same =
    let r = residue v x in
    let some = pow_pos v in
    let below = residue-lt v x in
    let low_is : low ≡ pos r = from ∙ ap (λ z. pos (residue v z)) (to_z-of_z w128 x f) in
    let all : cast_signed w128 (cast_unsigned w128 (cast_signed w128 (cast_unsigned w128 (cast_signed w128 (cast_unsigned w128 power) -ℤ pos 1)) -ℤ cast_signed w128 (cast_unsigned w128 low))) ≡ pos (2 ^ v - 1 - r) = omega (arith, ints) in
    all ∙ ap (λ w. pos (2 ^ w - 1 - residue w x)) same

-- a function of two numbers of w bits each that gives a number of w bits
pub bits_of : (f : ℕ → ℕ → ℕ) → ((k a b : ℕ) → a < 2 ^ k → b < 2 ^ k → f a b < 2 ^ k) → (x y a b : ℤ) (v w : ℕ) → FitsSigned w128 x → FitsSigned w128 y
    → a ≡ pos (residue v (cast_signed w128 (cast_unsigned w128 x))) → b ≡ pos (residue v (cast_signed w128 (cast_unsigned w128 y))) → v ≡ w → v ≤ 64
    → cast_signed w128 (f (cast_unsigned w128 a) (cast_unsigned w128 b)) ≡ pos (f (residue w x) (residue w y))
bits_of f small x y a b v w p q first second same most =
    let first_is : a ≡ pos (residue v x) = first ∙ ap (λ z. pos (residue v z)) (to_z-of_z w128 x p) in
    let second_is : b ≡ pos (residue v y) = second ∙ ap (λ z. pos (residue v z)) (to_z-of_z w128 y q) in
    let power : 2 ^ v ≤ 2 ^ 64 = pow-le-pow_right {n = 2} (omega arith) most in
    let below = small v (residue v x) (residue v y) (residue-lt v x) (residue-lt v y) in
    ap (λ z. cast_signed w128 (f (cast_unsigned w128 z) (cast_unsigned w128 b))) first_is
    ∙ ap (λ z. cast_signed w128 (f (residue v x) (cast_unsigned w128 z))) second_is
    ∙ to_z_pos w128 (f (residue v x) (residue v y)) (omega arith)
    ∙ ap (λ u. pos (f (residue u x) (residue u y))) same

-- the code's `-z`
pub negated : (z : ℤ) → FitsSigned w128 z → FitsSigned w128 (neg_ℤ z) → cast_signed w128 (cast_unsigned w128 (pos 0 -ℤ cast_signed w128 (cast_unsigned w128 z))) ≡ neg_ℤ z
negated z f g =
    ap (λ y. cast_signed w128 (cast_unsigned w128 (pos 0 -ℤ y))) (to_z-of_z w128 z f)
    ∙ ap (λ y. cast_signed w128 (cast_unsigned w128 y)) (+ℤ_idl (neg_ℤ z))
    ∙ to_z-of_z w128 (neg_ℤ z) g

pub fits_neg : (r : ℤ) → FitsSigned w128 r → IsNonNegative r → FitsSigned w128 (neg_ℤ r)
fits_neg (pos zero) f h = record { sfits = omega arith }
fits_neg (pos (suc n)) f h = let fits = f.sfits in record { sfits = omega arith }
fits_neg (negsuc n) f h = absurd h
