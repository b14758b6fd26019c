-- Matrix products (Python array API, "Linear Algebra Functions": `matmul`). A one-dimensional left operand is one row, a right one is
-- one column, and the result keeps neither.
use Rattle.std.specs.Prelude.{ℕ, ◌-◌, ℤ, ◌*ℤ◌, List, length, map, slice_index}
use Rattle.std.specs.List.{range_with_len}
use Rattle.cu_reduce.specs.Folds.{exact_sum}
use Rattle.cu_reduce.specs.Products.{left_index, right_index}

-- the sum of the products over the inner axis, which is the last of the left operand
abbrev pub matmul_at : (List ℕ → ℤ) → List ℕ → (List ℕ → ℤ) → List ℕ → List ℕ → ℤ
matmul_at left a right b idx =
    exact_sum (map (λ k. left (left_index a b idx k) *ℤ right (right_index a b idx k)) (range_with_len 0 (slice_index a (length a - 1))))
