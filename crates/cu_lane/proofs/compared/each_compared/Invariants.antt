use Rattle.std.proofs.Common.{◌≡◌, ◌*◌, ◌<◌, ℕ, length, get_or}
use Rattle.cu_lane.specs.Compared.{compared}
use Rattle.cu_lane.proofs.compared.each_compared.Given as goal

abbrev pub invariant-loop-at : goal.invariant-loop-at
invariant-loop-at l = record {
  same_length : length l.out ≡ length l.fn.out;
  done : (k : ℕ) → k < 8 * l.at → get_or l.out k 0 ≡ compared l.order l.bias (get_or l.x k 0) (get_or l.y k 0);
}

abbrev pub invariant-loop-k : goal.invariant-loop-k
invariant-loop-k l = (k : ℕ) → k < l.k → get_or l.out k 0 ≡ compared l.order l.bias (get_or l.x k 0) (get_or l.y k 0)
