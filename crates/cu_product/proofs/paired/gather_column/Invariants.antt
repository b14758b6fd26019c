use Rattle.std.proofs.Common.{◌≡◌, ◌≢◌, ◌<◌, ◌+◌, ◌*◌, ◌/◌, ◌%◌, ℕ, length}
use Rattle.cu_num.specs.Element.{bytes_at}
use Rattle.cu_reduce.specs.Numbers.{HasNumber}
use Rattle.cu_product.specs.Matrices.{numbers}
use Rattle.cu_product.proofs.paired.gather_column.Given as goal

abbrev pub invariant-loop-q : goal.invariant-loop-q
invariant-loop-q l = record {
  same_length : length l.panel ≡ length l.fn.panel;
  done : (q : ℕ) → q < l.q → HasNumber l.t l.panel (q / 2 * 18 + 2 * l.j + q % 2) (numbers l.t l.right (q * l.sizes.columns + l.from));
  rest : (q k : ℕ) → k < 9 → k ≢ l.j → bytes_at l.t l.panel (q / 2 * 18 + 2 * k + q % 2) ≡ bytes_at l.t l.fn.panel (q / 2 * 18 + 2 * k + q % 2);
}
