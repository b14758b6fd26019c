use Rattle.std.proofs.Common.{◌≡◌, ◌≤◌, ◌<◌, ◌+◌, ◌-◌, ◌*◌, ◌/◌, ◌%◌, ℕ, pos, length}
use Rattle.cu_num.specs.Dtype.{size_of}
use Rattle.cu_reduce.specs.Numbers.{HasNumber}
use Rattle.cu_product.specs.Matrices.{numbers, row_product}
use Rattle.cu_product.proofs.paired.multiply_paired.Given as goal

abbrev pub invariant-loop-done : goal.invariant-loop-done
invariant-loop-done l = record {
  same_length : length l.out ≡ length l.fn.out;
  panel_length : length l.panel ≡ l.sizes.inner / 2 * (18 * size_of l.t);
  own_length : length l.own ≡ 9 * size_of l.t;
  within : l.done ≤ l.sizes.columns;
  zeros : (q : ℕ) → q < l.sizes.inner → HasNumber l.t l.panel (q / 2 * 18 + 16 + q % 2) (pos 0);
  products : (i j : ℕ) → i < l.sizes.rows → j < l.done
      → HasNumber l.t l.out (i * l.sizes.columns + j) (row_product l.sizes.inner l.sizes.columns (λ q. numbers l.t l.left (i * l.sizes.inner + q)) (numbers l.t l.right) j);
}

abbrev pub decreases-loop-done : goal.decreases-loop-done
decreases-loop-done l = l.sizes.columns - l.done
