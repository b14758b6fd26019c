use Rattle.std.proofs.Common.{◌≡◌, ◌<◌, ℕ, ℤ, ◌-ℤ◌, length}
use Rattle.cu_reduce.specs.Numbers.{HasNumber}
use Rattle.cu_product.proofs.paired.finish.Given as goal

abbrev pub invariant-loop-at : goal.invariant-loop-at
invariant-loop-at l = record {
  same_length : length l.out ≡ length l.fn.out;
  done : (j : ℕ) (s r w : ℤ) → j < l.at → HasNumber l.t l.sums j s → HasNumber l.t l.own j r → HasNumber l.t l.sums 8 w → HasNumber l.t l.out j (s -ℤ r -ℤ w);
}
