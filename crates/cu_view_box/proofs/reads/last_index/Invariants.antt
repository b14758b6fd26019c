use Rattle.std.proofs.Common.{◌≡◌, ◌<◌, ◌-◌, ℕ, length, get_or}
use Rattle.cu_view_box.proofs.reads.last_index.Given as goal

abbrev pub invariant-loop-axis : goal.invariant-loop-axis
invariant-loop-axis l = record {
  rank : length l.last ≡ length l.region.hi;
  done : (k : ℕ) → k < l.axis → get_or l.last k 0 ≡ get_or l.region.hi k 0 - 1;
}
