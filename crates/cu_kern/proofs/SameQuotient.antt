-- A division by a multiplication and a shift.
use Rattle.std.proofs.Common.{◌≡◌, ℕ, zero, suc, ◌+◌, ◌-◌, ◌*◌, ◌/◌, ◌%◌, ◌^◌, ◌<◌, ◌≤◌, ℤ, pos, ◌-ℤ◌, ◌*ℤ◌, ap, sym, ◌∙◌, arith}
use Rattle.std.proofs.Math.Nat.{div-add-mod, mod-lt, mul-le-mul_right, lt_of_mul-lt-mul_right, mul-lt-mul_of_pos_left, div-mul-le_self, div-div-eq-div-mul}
use Rattle.std.proofs.lemmas.Nat.{div_below, le-div, pow_pos}
use Rattle.cu_num.specs.Division.{floor_quotient, floor_remainder}

-- an excess of the factor times the divisor, times a number below the bound, stays below the power
small_excess : (e u bound p : ℕ) → 0 < p → e * bound ≤ p → u < bound → e * u < p
small_excess zero u bound p some h b = omega (arith, some)
small_excess (suc e) u bound p some h b = omega (arith, mul-lt-mul_of_pos_left {k = suc e} b (omega arith), h)

pub same_quotient : (u m p d e bound : ℕ) → 0 < d → 0 < p → m * d ≡ p + e → e * bound ≤ p → u < bound → u * m / p ≡ u / d
same_quotient u m p d e bound some power factor h b =
    let q = u / d in
    let r = u % d in
    let whole : d * q + r ≡ u = div-add-mod u d in
    let rest : r < d = mod-lt u some in
    let times : u * m ≡ q * p + (q * e + r * m) = ap (λ n. n * m) (sym whole) ∙ omega (arith, ap (λ n. q * n) factor) in
    let scaled : (q * e + r * m) * d ≡ r * p + e * u = omega (arith, ap (λ n. r * n) factor, ap (λ n. e * n) whole) in
    let low : e * u < p = small_excess e u bound p power h b in
    let steps : (r + 1) * p ≤ d * p = mul-le-mul_right p (omega (arith, rest)) in
    let short : q * e + r * m < p = lt_of_mul-lt-mul_right d (omega (arith, scaled, low, steps)) in
    let above : u * m / p < q + 1 = div_below (u * m) p (q + 1) power (omega (arith, times, short)) in
    let below : q ≤ u * m / p = le-div q (u * m) p power (omega (arith, times)) in
    omega (arith, above, below)

-- a factor that is the next after the power's quotient is exact where what it is too great by is small
pub rounded_up : (d shift p x e u : ℕ) → 0 < d → p ≡ 2 ^ 32 * 2 ^ shift → x ≡ p / d + 1 → e ≡ d - p % d → e ≤ p / 2 ^ 31 → u < 2 ^ 31 → u * x / 2 ^ 32 / 2 ^ shift ≡ u / d
rounded_up d shift p x e u some power factor excess h b =
    let low : p % d < d = mod-lt p some in
    let whole : d * (p / d) + p % d ≡ p = div-add-mod p d in
    let sum : x * d ≡ p + e = ap (λ n. n * d) factor ∙ omega (arith, whole, low, excess) in
    let small : e * 2 ^ 31 ≤ p = omega (arith, mul-le-mul_right (2 ^ 31) h, div-mul-le_self p (2 ^ 31)) in
    let above : 0 < p = omega (arith, power, pow_pos shift) in
    div-div-eq-div-mul (u * x) (2 ^ 32) (2 ^ shift) ∙ ap (λ n. u * x / n) (sym power) ∙ same_quotient u x p d e (2 ^ 31) some above sum small b

-- what the quotient by a divisor above 0 leaves
pub remainder_above : (x q : ℤ) (d : ℕ) → 0 < d → q ≡ floor_quotient x (pos d) → x -ℤ pos d *ℤ q ≡ floor_remainder x (pos d)
unfolding floor_remainder
remainder_above x q zero some e = absurd (omega (arith, some))
remainder_above x q (suc d) some e = ap (λ k. x -ℤ pos (suc d) *ℤ k) e
