-- The laws of floor division.
use Rattle.std.proofs.Common.{◌≡◌, ℕ, ◌+◌, ◌≤◌, suc, zero, refl, arith, ℤ, pos, negsuc, neg_ℤ, ◌+ℤ◌, ◌-ℤ◌, ◌*ℤ◌, ◌<ℤ◌, ◌≤ℤ◌}
use Rattle.std.proofs.lemmas.Int.{ints, by_lt_z}
use Rattle.std.proofs.lemmas.Nat.{div-add-mod', mod_below}
use Rattle.std.proofs.Math.Nat.{mul-le-mul_right}
use borrow.Author.Differences.{up, down, product_is}
use Rattle.std.specs.Int.{int_div_euclid, int_rem_euclid}
use Rattle.cu_num.specs.Division.{floor_quotient, floor_remainder, IsFloorOf}

-- a quotient and its remainder, at a divisor above 0
pub euclid : (a : ℤ) (n : ℕ) → int_div_euclid a (pos (suc n)) *ℤ pos (suc n) +ℤ int_rem_euclid a (pos (suc n)) ≡ a
euclid (pos a) n = omega (arith, ints, div-add-mod' a (suc n))
euclid (negsuc a) n = omega (arith, ints, div-add-mod' a (suc n), mod_below a (suc n) (omega arith))

pub floor_remainder-below : (x y r : ℤ) → y <ℤ pos 0 → r ≡ int_rem_euclid (neg_ℤ x) (neg_ℤ y) → floor_remainder x y ≡ neg_ℤ r
unfolding floor_remainder floor_quotient
floor_remainder-below x (pos n) r h e = absurd (omega (arith, ints))
floor_remainder-below x (negsuc n) r h e = omega (arith, ints, euclid (neg_ℤ x) n)

rest_low : (a : ℤ) (n : ℕ) → pos 0 ≤ℤ int_rem_euclid a (pos (suc n))
rest_low (pos a) n = omega (arith, ints)
rest_low (negsuc a) n = omega (arith, ints)

rest_high : (a : ℤ) (n : ℕ) → int_rem_euclid a (pos (suc n)) <ℤ pos (suc n)
rest_high (pos a) n = omega (arith, ints, mod_below a (suc n) (omega arith))
rest_high (negsuc a) n = omega (arith, ints)

-- no whole number above q has a product that is below that of q + 1
greatest : (x q k : ℤ) (n : ℕ) → x <ℤ (q *ℤ pos (suc n) +ℤ pos (suc n)) → (k *ℤ pos (suc n)) ≤ℤ x → k ≤ℤ q
greatest x q k n above below = by_lt_z q k
    (λ more.
    let apart : up q + down k + 1 ≤ up k + down q = omega (arith, ints) in
    let times = mul-le-mul_right (suc n) apart in
    absurd (omega (arith, ints, product_is)))
    (λ l. l)

floor_above : (x : ℤ) (n : ℕ) → IsFloorOf x (pos (suc n)) (floor_quotient x (pos (suc n)))
unfolding floor_quotient
floor_above x n =
    let whole = euclid x n in
    let low = rest_low x n in
    let high = rest_high x n in
    (omega (arith, ints), λ k h. greatest x (int_div_euclid x (pos (suc n))) k n (omega (arith, ints)) h)

floor_below : (x : ℤ) (n : ℕ) → IsFloorOf x (negsuc n) (floor_quotient x (negsuc n))
unfolding floor_quotient
floor_below x n =
    let whole = euclid (neg_ℤ x) n in
    let low = rest_low (neg_ℤ x) n in
    let high = rest_high (neg_ℤ x) n in
    (omega (arith, ints), λ k h. greatest (neg_ℤ x) (int_div_euclid (neg_ℤ x) (pos (suc n))) k n (omega (arith, ints)) (omega (arith, ints)))

pub IsFloorOf-floor_quotient : (x y : ℤ) → (y ≡ pos 0 → ⊥) → IsFloorOf x y (floor_quotient x y)
IsFloorOf-floor_quotient x (pos zero) other = absurd (other refl)
IsFloorOf-floor_quotient x (pos (suc n)) other = floor_above x n
IsFloorOf-floor_quotient x (negsuc n) other = floor_below x n

pub floor_remainder_is : (x y : ℤ) → (y ≡ pos 0 → ⊥) → floor_remainder x y ≡ x -ℤ y *ℤ floor_quotient x y
unfolding floor_remainder
floor_remainder_is x (pos zero) other = absurd (other refl)
floor_remainder_is x (pos (suc n)) other = refl
floor_remainder_is x (negsuc n) other = refl

pub floor_by_zero : (x : ℤ) → (floor_quotient x (pos 0) ≡ pos 0) × (floor_remainder x (pos 0) ≡ pos 0)
unfolding floor_remainder floor_quotient
floor_by_zero x = (refl, refl)
