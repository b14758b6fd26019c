use Rattle.std.proofs.Common.{◌≡◌, ◌<◌, ◌+◌, ◌*◌, ◌/◌, ◌%◌, ℕ, length}
use Rattle.cu_num.specs.Element.{bytes_at}
use Rattle.cu_reduce.specs.Numbers.{HasNumber}
use Rattle.cu_product.specs.Matrices.{numbers}
use Rattle.cu_product.proofs.paired.gather.Given as goal

abbrev pub invariant-loop-j : goal.invariant-loop-j
invariant-loop-j l = record {
  same_length : length l.panel ≡ length l.fn.panel;
  done : (q j : ℕ) → q < l.sizes.inner → j < l.j → HasNumber l.t l.panel (q / 2 * 18 + 2 * j + q % 2) (numbers l.t l.right (q * l.sizes.columns + (l.first + j)));
  rest : (q : ℕ) → bytes_at l.t l.panel (q / 2 * 18 + 16 + q % 2) ≡ bytes_at l.t l.fn.panel (q / 2 * 18 + 16 + q % 2);
}
