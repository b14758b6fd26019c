use Rattle.std.proofs.Common.{◌≡◌, ◌<◌, ℕ, length}
use Rattle.cu_reduce.specs.Numbers.{HasNumber}
use Rattle.cu_product.specs.Matrices.{numbers}
use Rattle.cu_product.specs.Pairs.{pairs, column}
use Rattle.cu_product.proofs.paired.pair_sums.Given as goal

abbrev pub invariant-loop-p : goal.invariant-loop-p
invariant-loop-p l = record {
  same_length : length l.out ≡ length l.fn.out;
  done : (j : ℕ) → j < 9 → HasNumber l.t l.out j (pairs (numbers l.t l.row) (column l.t l.panel j) l.p);
}
