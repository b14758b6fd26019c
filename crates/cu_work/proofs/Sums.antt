-- Sums of the values at the numbers below one.
use Rattle.std.proofs.Common.{◌≡◌, ◌≢◌, inl, inr, ℕ, zero, suc, ◌+◌, ◌*◌, ◌<◌, ◌≤◌, refl, sym, subst, arith}
use Rattle.std.proofs.lemmas.Bool.{cases_eq}
use Rattle.cu_work.specs.Calls.{sum_of_first}

-- equal values have one sum
pub sum_same : (f h : ℕ → ℕ) (n : ℕ) → ((i : ℕ) → i < n → h i ≡ f i) → sum_of_first h n ≡ sum_of_first f n
sum_same f h zero same = refl
sum_same f h (suc n) same =
    let rest = sum_same f h n (λ i low. same i (omega (arith, low))) in
    let last = same n (omega arith) in
    omega (arith, rest, last)

-- where one value is more by x, so is the sum
pub sum_more : (f h : ℕ → ℕ) (j x n : ℕ) → j < n → ((i : ℕ) → i < n → i ≢ j → h i ≡ f i) → h j ≡ f j + x → sum_of_first h n ≡ sum_of_first f n + x
sum_more f h j x zero low others own = absurd (omega (arith, low))
sum_more f h j x (suc n) low others own =
    elim (cases_eq n j) [
      | inl same ↦
          let rest = sum_same f h n (λ i below. others i (omega (arith, below)) (λ e. omega (arith, below, e, same))) in
          let last : h n ≡ f n + x = subst (λ (k : ℕ). h k ≡ f k + x) (sym same) own in
          omega (arith, rest, last)
      | inr apart ↦
          let rest = sum_more f h j x n (omega (arith, low, apart)) (λ i below. others i (omega (arith, below))) own in
          let last = others n (omega arith) apart in
          omega (arith, rest, last)
    ]

-- where each value is at most c times another, so is the sum
pub sum_times : (f h : ℕ → ℕ) (c n : ℕ) → ((i : ℕ) → i < n → f i ≤ c * h i) → sum_of_first f n ≤ c * sum_of_first h n
sum_times f h c zero few = omega arith
sum_times f h c (suc n) few =
    let rest = sum_times f h c n (λ i low. few i (omega (arith, low))) in
    let last = few n (omega arith) in
    omega (arith, rest, last)
