use Rattle.std.proofs.Common.{◌≡◌, ◌<◌, ℕ, length}
use Rattle.cu_reduce.specs.Numbers.{HasNumber}
use Rattle.cu_take.proofs.units.fill_with.Given as goal

abbrev pub invariant-loop-at : goal.invariant-loop-at
invariant-loop-at l = record {
  same_length : length l.out ≡ length l.fn.out;
  done : (q : ℕ) → q < l.at → HasNumber l.t l.out q l.x;
}
