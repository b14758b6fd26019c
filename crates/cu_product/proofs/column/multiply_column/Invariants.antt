use Rattle.std.proofs.Common.{◌≡◌, ◌<◌, ◌+◌, ◌*◌, ℕ, length}
use Rattle.cu_reduce.specs.Numbers.{HasNumber}
use Rattle.cu_product.specs.Block.{inner_product}
use Rattle.cu_product.specs.Matrices.{numbers}
use Rattle.cu_product.proofs.column.multiply_column.Given as goal

abbrev pub invariant-loop-i : goal.invariant-loop-i
invariant-loop-i l = record {
  same_length : length l.out ≡ length l.fn.out;
  done : (i : ℕ) → i < l.i → HasNumber l.fn.t l.out i (inner_product (λ q. numbers l.fn.t l.fn.left (i * l.fn.sizes.inner + q)) (numbers l.fn.t l.fn.column) l.fn.sizes.inner);
}
