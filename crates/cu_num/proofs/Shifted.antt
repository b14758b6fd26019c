-- Shifts by the sign and the size of the number of places.
use Rattle.std.proofs.Common.{◌≡◌, ℕ, ◌-◌, ◌^◌, ◌<◌, ◌≤◌, suc, zero, cond, refl, sym, ap, ◌∙◌, arith, ℤ, pos, negsuc, ◌*ℤ◌, ◌<ℤ◌, ◌≤ℤ◌, unsigned_abs}
use Rattle.std.proofs.lemmas.Int.{ints, fits_signed_mul}
use Rattle.std.proofs.lemmas.Nat.{pow_pos}
use Rattle.std.proofs.Math.Nat.{pow-le-pow_right}
use lib.Signed.{shr_z}
use borrow.Author.Tests.{lt-ltb, le-ltb}
use Rattle.std.specs.Int.{w128}
use Rattle.std.specs.Prelude.{FitsSigned}
use Rattle.cu_num.specs.Division.{floor_quotient}
use Rattle.cu_num.specs.Scalar.{shifted_left, shifted_right, sign_fill}

pub shifted_left-below : (w : ℕ) (x y : ℤ) → y <ℤ pos 0 → shifted_left w x y ≡ pos 0
unfolding shifted_left
shifted_left-below w x (pos k) h = absurd (omega (arith, ints))
shifted_left-below w x (negsuc k) h = refl

pub shifted_left-above : (w : ℕ) (x y : ℤ) → pos w ≤ℤ y → shifted_left w x y ≡ pos 0
unfolding shifted_left
shifted_left-above w x (pos k) h = ap (λ b. cond b (x *ℤ pos (2 ^ k)) (pos 0)) (le-ltb k w (omega (arith, ints)))
shifted_left-above w x (negsuc k) h = refl

pub shifted_left-inside : (w : ℕ) (x y p : ℤ) → pos 0 ≤ℤ y → y <ℤ pos w → p ≡ pos (2 ^ unsigned_abs y) → shifted_left w x y ≡ x *ℤ p
unfolding shifted_left
shifted_left-inside w x (pos k) p g h e = ap (λ b. cond b (x *ℤ pos (2 ^ k)) (pos 0)) (lt-ltb k w (omega (arith, ints))) ∙ ap (λ p. x *ℤ p) (sym e)
shifted_left-inside w x (negsuc k) p g h e = absurd (omega (arith, ints))

pub shifted_fits : (x p : ℤ) (k : ℕ) → unsigned_abs x < 2 ^ 64 → p ≡ pos (2 ^ k) → k < 64 → FitsSigned w128 (x *ℤ p)
shifted_fits x p k h e small =
    let power : 2 ^ k ≤ 2 ^ 63 = pow-le-pow_right {n = 2} (omega arith) (let l : k ≤ 63 = omega arith in l) in
    fits_signed_mul w128 x p (2 ^ 64 - 1) (2 ^ 63) (omega arith) (omega (arith, ap unsigned_abs e)) (omega arith)

-- a quotient by a number above 0, which is a shift that rounds down
floor_quotient-pos : (x : ℤ) (n : ℕ) → 0 < n → floor_quotient x (pos n) ≡ shr_z x n
unfolding floor_quotient
floor_quotient-pos x zero h = absurd (omega arith)
floor_quotient-pos (pos a) (suc n) h = refl
floor_quotient-pos (negsuc a) (suc n) h = refl

pub shifted_right-below : (w : ℕ) (x y : ℤ) → y <ℤ pos 0 → shifted_right w x y ≡ sign_fill x
unfolding shifted_right
shifted_right-below w x (pos k) h = absurd (omega (arith, ints))
shifted_right-below w x (negsuc k) h = refl

pub shifted_right-above : (w : ℕ) (x y : ℤ) → pos w ≤ℤ y → shifted_right w x y ≡ sign_fill x
unfolding shifted_right
shifted_right-above w x (pos k) h = ap (λ b. cond b (floor_quotient x (pos (2 ^ k))) (sign_fill x)) (le-ltb k w (omega (arith, ints)))
shifted_right-above w x (negsuc k) h = refl

pub shifted_right-inside : (w : ℕ) (x y : ℤ) → pos 0 ≤ℤ y → y <ℤ pos w → shifted_right w x y ≡ shr_z x (2 ^ unsigned_abs y)
unfolding shifted_right
shifted_right-inside w x (pos k) g h = ap (λ b. cond b (floor_quotient x (pos (2 ^ k))) (sign_fill x)) (lt-ltb k w (omega (arith, ints))) ∙ floor_quotient-pos x (2 ^ k) (pow_pos k)
shifted_right-inside w x (negsuc k) g h = absurd (omega (arith, ints))
