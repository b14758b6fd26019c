-- How many operations before one have tasks of their own.
use Rattle.cu_op.specs.PlanView.{PlanView}
use Rattle.cu_op.specs.Within.{is_listed, listed_number}
use Rattle.std.proofs.Common.{◌≡◌, ℕ, ◌+◌, ◌≤◌, true, false, refl, ap, sym, ◌∙◌, arith, if◌then◌else◌}
use Rattle.std.proofs.lemmas.List.FromFn.{length-range_with_len, sum_by-map-range_with_len_more}
use Rattle.std.proofs.lemmas.List.Sums.{count_by-le-length, sum-map}
use Rattle.std.specs.List.{range_with_len}

-- what an operation adds to the count
abbrev own_number : PlanView → ℕ → ℕ
own_number p k = if is_listed p k then 1 else 0

pub listed_few : (p : PlanView) (k : ℕ) → listed_number p k ≤ k
listed_few p k =
    let a = count_by-le-length (is_listed p) (range_with_len 0 k) in
    let b = length-range_with_len 0 k in
    omega (arith, a, b)

listed_more : (p : PlanView) (k : ℕ)
    → listed_number p (k + 1) ≡ listed_number p k + own_number p k
listed_more p k =
    sym (sum-map (own_number p) (range_with_len 0 (k + 1)))
    ∙ sum_by-map-range_with_len_more (λ (n : ℕ). n) (own_number p) 0 k k (omega arith)
    ∙ ap (λ (n : ℕ). n + own_number p k) (sum-map (own_number p) (range_with_len 0 k))

pub listed_own : (p : PlanView) (k : ℕ) → is_listed p k ≡ true
    → listed_number p (k + 1) ≡ listed_number p k + 1
listed_own p k t =
    let more = listed_more p k in
    let one : own_number p k ≡ 1 = rw t refl in
    omega (arith, more, one)

pub listed_none : (p : PlanView) (k : ℕ) → is_listed p k ≡ false
    → listed_number p (k + 1) ≡ listed_number p k
listed_none p k f =
    let more = listed_more p k in
    let none : own_number p k ≡ 0 = rw f refl in
    omega (arith, more, none)
