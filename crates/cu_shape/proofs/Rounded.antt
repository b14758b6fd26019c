-- Quotients rounded up: how many pieces of one size cover another.
use Rattle.std.proofs.Common.{◌≡◌, ◌<◌, ◌≤◌, ℕ, zero, suc, ◌+◌, ◌-◌, ◌*◌, ◌/◌, ◌%◌, min, arith}
use Rattle.std.specs.Int.{div_ceil}
use Rattle.std.proofs.Math.Nat.{lt_of_mul-lt-mul_right, le-mul_of_pos_right}
use Rattle.std.proofs.lemmas.Nat.{mul-le, div-add-mod', mod_below}

begins : (q c r i : ℕ) → 0 < c → i < q + min 1 r → i * c < q * c + r
begins q c zero i hc h =
    let p : (i + 1) * c ≤ q * c = mul-le (i + 1) c q c (omega arith) (omega arith) in
    omega arith
begins q c (suc r) i hc h =
    let p : i * c ≤ q * c = mul-le i c q c (omega arith) (omega arith) in
    omega arith

counted : (q c r i : ℕ) → r < c → i * c < q * c + r → i < q + min 1 r
counted q c zero i hr h =
    let p : i < q = lt_of_mul-lt-mul_right c (let w = h in omega arith) in
    omega arith
counted q c (suc r) i hr h =
    let p : i < q + 1 = lt_of_mul-lt-mul_right c {m = i} {n = q + 1} (omega arith) in
    omega arith

-- piece i of size c begins before n exactly where i is below the number of pieces
pub before_end : (n c i : ℕ) → 0 < c → i < div_ceil n c → i * c < n
before_end n c i hc h =
    let e : n / c * c + n % c ≡ n = div-add-mod' n c in
    let p : i * c < n / c * c + n % c = begins (n / c) c (n % c) i hc h in
    omega arith

pub within_counts : (n c i : ℕ) → 0 < c → i * c < n → i < div_ceil n c
within_counts n c i hc h =
    let e : n / c * c + n % c ≡ n = div-add-mod' n c in
    counted (n / c) c (n % c) i (mod_below n c hc) (omega arith)

-- there are no more pieces than units
pub counts_below : (n c : ℕ) → 0 < c → div_ceil n c ≤ n
counts_below n c hc = no_more n c (div_ceil n c) hc (before_end n c (div_ceil n c - 1) hc)
  where
    no_more : (n c d : ℕ) → 0 < c → (d - 1 < d → (d - 1) * c < n) → d ≤ n
    no_more n c zero hc h = omega arith
    no_more n c (suc d) hc h =
        let e : suc d - 1 ≡ d = omega arith in
        let w = rw e at h in
        let p : d * c < n = w (omega arith) in
        let q : d ≤ d * c = le-mul_of_pos_right d hc in
        omega arith
