-- A product that is kept below a bound serves where fewer elements are counted.
use Rattle.std.proofs.Common.{◌≡◌, ◌∙◌, ℕ, zero, suc, ◌*◌, ◌/◌, ◌%◌, ◌<◌, ◌≤◌, ◌==◌, min, true, false, List, [], ◌∷◌, ℤ, pos, negsuc, refl, ap, sym, inl, inr, arith}
use Rattle.std.proofs.lemmas.Bool.{cases_lt}
use Rattle.std.proofs.lemmas.Bool.Decides.{eqb_tells}
use Rattle.std.proofs.Math.Nat.{mul_assoc, le-mul_of_pos_right, mod-eq_of_lt, div-eq_of_lt}
use Rattle.cu_shape.specs.Index.{product}
use Rattle.cu_typing_view.specs.Reshaped.{given, leaves_one, can_hold}

min_step : (c n r most : ℕ) → min (min (c * n) most * r) most ≡ min (c * (n * r)) most
min_step c n zero most = rw (← mul_assoc c n 0) (omega arith)
min_step c n (suc r) most =
    elim (cases_lt most (c * n)) [
      | inl more ↦
          let e : min (c * n) most ≡ most = omega arith in
          let p : most ≤ most * suc r = le-mul_of_pos_right most (omega arith) in
          let q : c * n ≤ c * n * suc r = le-mul_of_pos_right (c * n) (omega arith) in
          rw (e, ← mul_assoc c n (suc r)) (omega arith)
      | inr fewer ↦ let e : min (c * n) most ≡ c * n = omega arith in rw (e, mul_assoc c n (suc r)) refl
    ]

-- one size more
pub capped_more : (c : ℕ) (d : ℤ) (ds : List ℤ) (most : ℕ) → c ≤ most → min (min (c * product (given (d ∷ []))) most * product (given ds)) most ≡ min (c * product (given (d ∷ ds))) most
capped_more c (pos n) ds most h =
    let one : n * 1 ≡ n = omega arith in
    rw one (min_step c n (product (given ds)) most)
capped_more c (negsuc n) ds most h =
    let one : c * 1 ≡ c = omega arith in
    let same : min c most ≡ c = omega arith in
    rw (one, same) refl

-- a product above the bound isn't the count, nor does it divide it unless that is 0
pub capped_mod : (count q most : ℕ) → count < most → count % min q most ≡ count % q
capped_mod count q most few =
    elim (cases_lt most q) [
      | inl more ↦ let e : min q most ≡ most = omega arith in rw e (mod-eq_of_lt few ∙ sym (mod-eq_of_lt (let l : count < q = omega arith in l)))
      | inr fewer ↦ let e : min q most ≡ q = omega arith in rw e refl
    ]

pub capped_div : (count q most : ℕ) → count < most → count / min q most ≡ count / q
capped_div count q most few =
    elim (cases_lt most q) [
      | inl more ↦ let e : min q most ≡ most = omega arith in rw e (div-eq_of_lt few ∙ sym (div-eq_of_lt (let l : count < q = omega arith in l)))
      | inr fewer ↦ let e : min q most ≡ q = omega arith in rw e refl
    ]

pub capped_eq : (count q most : ℕ) → count < most → (min q most == count) ≡ (q == count)
capped_eq count q most few =
    elim (cases_lt most q) [
      | inl more ↦ let e : min q most ≡ most = omega arith in
          rw e (elim (eqb_tells most count) [
            | inl p ↦ absurd (let s = p.1 in omega arith)
            | inr p ↦ elim (eqb_tells q count) [
              | inl r ↦ absurd (let s = r.1 in omega arith)
              | inr r ↦ p.0 ∙ sym r.0
            ]
          ])
      | inr fewer ↦ let e : min q most ≡ q = omega arith in rw e refl
    ]

pub capped_zero : (q most : ℕ) → 0 < most → (min q most == 0) ≡ (q == 0)
capped_zero q most h = capped_eq 0 q most h

-- the rule for a size that is left, over the capped product
pub hold_left : (count known : ℕ) (shape : List ℤ) (most : ℕ) → count < most → known ≡ min (product (given shape)) most → leaves_one shape ≡ true → (known == 0) ≡ false → (count % known == 0) ≡ can_hold count shape
hold_left count known shape most few is left some =
    let q = product (given shape) in
    let nonzero : (q == 0) ≡ false = sym (capped_zero q most (omega arith)) ∙ (ap (λ n. n == 0) (sym is) ∙ some) in
    rw (left, nonzero) (ap (λ n. n == 0) (ap (λ m. count % m) is ∙ capped_mod count q most few))
