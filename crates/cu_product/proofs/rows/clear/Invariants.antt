use Rattle.std.proofs.Common.{◌≡◌, ◌<◌, ℕ, pos, length}
use Rattle.cu_reduce.specs.Numbers.{HasNumber}
use Rattle.cu_product.proofs.rows.clear.Given as goal

abbrev pub invariant-loop-at : goal.invariant-loop-at
invariant-loop-at l = record {
  same_length : length l.out ≡ length l.fn.out;
  done : (j : ℕ) → j < l.at → HasNumber l.t l.out j (pos 0);
}
