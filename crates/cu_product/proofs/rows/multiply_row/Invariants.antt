use Rattle.std.proofs.Common.{◌≡◌, ◌<◌, ℕ, length}
use Rattle.cu_reduce.specs.Numbers.{HasNumber}
use Rattle.cu_product.specs.Matrices.{numbers, row_product}
use Rattle.cu_product.proofs.rows.multiply_row.Given as goal

abbrev pub invariant-loop-q : goal.invariant-loop-q
invariant-loop-q l = record {
  same_length : length l.out ≡ length l.fn.out;
  done : (j : ℕ) → j < l.fn.sizes.columns → HasNumber l.t l.out j (row_product l.q l.fn.sizes.columns (numbers l.left_t l.row) (numbers l.right_t l.right) j);
}
