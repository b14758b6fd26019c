use Rattle.std.proofs.Common.{◌≡◌, ◌<◌, ◌+◌, ◌*◌, ℕ, length}
use Rattle.cu_num.specs.Element.{bytes_at}
use Rattle.cu_reduce.specs.Numbers.{HasNumber}
use Rattle.cu_product.specs.Block.{inner_product}
use Rattle.cu_product.specs.Matrices.{numbers}
use Rattle.cu_product.specs.Pairs.{column}
use Rattle.cu_product.proofs.paired.multiply_panel.Given as goal

abbrev pub invariant-loop-i : goal.invariant-loop-i
invariant-loop-i l = record {
  same_length : length l.out ≡ length l.fn.out;
  products : (i j : ℕ) → i < l.i → j < 8
      → HasNumber l.t l.out (i * l.sizes.columns + (l.first + j)) (inner_product (λ q. numbers l.t l.left (i * l.sizes.inner + q)) (column l.t l.panel j) l.sizes.inner);
  others : (i j : ℕ) → i < l.sizes.rows → j < l.first → bytes_at l.t l.out (i * l.sizes.columns + j) ≡ bytes_at l.t l.fn.out (i * l.sizes.columns + j);
}
