use Rattle.std.proofs.Common.{◌≡◌, ◌<◌, ◌≤◌, ℕ, length, get_or, drop}
use Rattle.cu_shape.specs.Index.{product}
use Rattle.cu_view_box.proofs.runs.axis_of_run.Given as goal

abbrev pub invariant-loop-axis : goal.invariant-loop-axis
invariant-loop-axis l = record {
  low : 1 ≤ l.axis;
  behind : l.behind ≡ product (drop l.axis l.dims);
  positive : 0 < l.behind;
  few : l.behind ≤ l.most;
  zeros : (k : ℕ) → l.axis ≤ k → k < length l.dims → get_or l.index k 0 ≡ 0;
}
