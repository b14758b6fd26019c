use Rattle.std.proofs.Common.{◌≡◌, ◌<◌, ◌+◌, ◌*◌, ℕ, length}
use Rattle.cu_reduce.specs.Numbers.{HasNumber}
use Rattle.cu_product.specs.Matrices.{numbers, row_product}
use Rattle.cu_product.proofs.rows.multiply_rows.Given as goal

abbrev pub invariant-loop-i : goal.invariant-loop-i
invariant-loop-i l = record {
  same_length : length l.out ≡ length l.fn.out;
  done : (i j : ℕ) → i < l.i → j < l.sizes.columns
      → HasNumber l.t l.out (i * l.sizes.columns + j) (row_product l.sizes.inner l.sizes.columns (λ q. numbers l.left_t l.left (i * l.sizes.inner + q)) (numbers l.right_t l.right) j);
}
