-- Where an index of a roll was before, by the remainder of the shift.
use Rattle.std.proofs.Common.{◌≡◌, ℕ, zero, suc, ◌+◌, ◌-◌, ◌*◌, ◌/◌, ◌%◌, ◌<◌, ◌≤◌, nat_lt, ℤ, pos, negsuc, ◌-ℤ◌, refl, ap, ◌∙◌, sym, arith, inl, inr, if◌then◌else◌}
use Rattle.std.specs.Int.{int_rem_euclid}
use Rattle.std.proofs.lemmas.Bool.Decides.{eqb_tells}
use Rattle.std.proofs.lemmas.Nat.{mod-mul-add, mod_below, div-add-mod'}
use Rattle.cu_shape.specs.Slice.{at_least_zero}
use Rattle.cu_view.specs.Pieces.{turn_of}
use Rattle.cu_view.proofs.Fitting.{ltb_tells}

mod_is : (m q n r : ℕ) → m ≡ q * n + r → r < n → m % n ≡ r
mod_is m q n r e l = ap (λ (x : ℕ). x % n) e ∙ mod-mul-add q n r l

-- a number before another, counted round
around : (n i s p r : ℕ) → i < n → r < n → s ≡ p * n + r → i < s → r ≤ i → n - 1 - (s - suc i) % n ≡ i - r
around n i s zero r b c e l t = absurd (omega arith)
around n i s (suc p) r b c e l t =
    let m : (s - suc i) % n ≡ n + r - suc i = mod_is (s - suc i) p n (n + r - suc i) (omega arith) (omega arith) in
    omega arith

before_is : (n i s q r : ℕ) → i < n → r < n → s ≡ q * n + r → i < s → (n - 1 - (s - suc i) % n ≡ (if nat_lt i r then i + n - r else i - r))
before_is n i s q r b c e l =
    elim (ltb_tells i r) [
      | inl t ↦ rw t.0 (let x = t.1 in let m : (s - suc i) % n ≡ r - suc i = mod_is (s - suc i) q n (r - suc i) (omega arith) (omega arith) in omega arith)
      | inr t ↦ rw t.0 (around n i s q r b c e l t.1)
    ]

-- a number behind another, counted round
after_is : (n i s q r : ℕ) → i < n → r < n → s ≡ q * n + r → (i + suc s) % n ≡ (if nat_lt i (n - 1 - r) then i + n - (n - 1 - r) else i - (n - 1 - r))
after_is n i s q r b c e =
    elim (ltb_tells i (n - 1 - r)) [
      | inl t ↦ rw t.0 (let x = t.1 in let m : (i + suc s) % n ≡ i + r + 1 = mod_is (i + suc s) q n (i + r + 1) (omega arith) (omega arith) in omega arith)
      | inr t ↦ rw t.0 (let x = t.1 in let m : (i + suc s) % n ≡ i + r + 1 - n = mod_is (i + suc s) (q + 1) n (i + r + 1 - n) (omega arith) (omega arith) in omega arith)
    ]

turn_is : (shift : ℤ) (n : ℕ) → 0 < n → turn_of shift n ≡ at_least_zero (int_rem_euclid shift (pos n))
turn_is shift n h = elim (eqb_tells n 0) [
  | inl p ↦ absurd (let e = p.1 in omega arith)
  | inr p ↦ rw p.0 refl
]

split : (s n : ℕ) → s ≡ s / n * n + s % n
split s n = sym (div-add-mod' s n)

-- what comes round lies as far from the axis' end as it would lie before its beginning
pub rolled_value : (shift : ℤ) (n i : ℕ) → i < n → at_least_zero (int_rem_euclid (pos i -ℤ shift) (pos n)) ≡ (if nat_lt i (turn_of shift n) then i + n - turn_of shift n else i - turn_of shift n)
rolled_value (pos zero) n i b =
    let t : turn_of (pos zero) n ≡ 0 = turn_is (pos zero) n (omega arith) ∙ mod_is 0 0 n 0 (omega arith) (omega arith) in
    let m : (i + 0) % n ≡ i = mod_is (i + 0) 0 n i (omega arith) b in
    elim (ltb_tells i 0) [
      | inl p ↦ absurd (let x = p.1 in omega arith)
      | inr p ↦ rw (t, p.0) (m ∙ omega arith)
    ]
rolled_value (pos (suc s)) n i b =
    let t : turn_of (pos (suc s)) n ≡ suc s % n = turn_is (pos (suc s)) n (omega arith) in
    elim (ltb_tells i (suc s)) [
      | inl p ↦ rw (t, p.0) (before_is n i (suc s) (suc s / n) (suc s % n) b (mod_below (suc s) n (omega arith)) (split (suc s) n) p.1)
      | inr p ↦
          let x = p.1 in
          let u : suc s % n ≡ suc s = mod_is (suc s) 0 n (suc s) (omega arith) (omega arith) in
          let m : (i - suc s) % n ≡ i - suc s = mod_is (i - suc s) 0 n (i - suc s) (omega arith) (omega arith) in
          rw (t, u, p.0) m
    ]
rolled_value (negsuc s) n i b =
    let t : turn_of (negsuc s) n ≡ n - 1 - s % n = turn_is (negsuc s) n (omega arith) in
    rw t (after_is n i s (s / n) (s % n) b (mod_below s n (omega arith)) (split s n))
