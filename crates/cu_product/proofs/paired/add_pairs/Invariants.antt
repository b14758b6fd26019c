use Rattle.std.proofs.Common.{◌≡◌, ◌≤◌, ◌<◌, ◌+◌, ◌*◌, ℕ, ℤ, ◌+ℤ◌, ◌*ℤ◌, length}
use Rattle.cu_num.specs.Element.{bytes_at}
use Rattle.cu_reduce.specs.Numbers.{HasNumber}
use Rattle.cu_product.specs.Matrices.{numbers}
use Rattle.cu_product.proofs.paired.add_pairs.Given as goal

abbrev pub invariant-loop-at : goal.invariant-loop-at
invariant-loop-at l = record {
  same_length : length l.out ≡ length l.fn.out;
  done : (j : ℕ) (s : ℤ) → j < l.at → HasNumber l.t l.fn.out j s → HasNumber l.t l.out j (s +ℤ (l.fn.x +ℤ numbers l.t l.pair (2 * j + 1)) *ℤ (l.fn.y +ℤ numbers l.t l.pair (2 * j)));
  rest : (j : ℕ) → l.at ≤ j → bytes_at l.t l.out j ≡ bytes_at l.t l.fn.out j;
}
