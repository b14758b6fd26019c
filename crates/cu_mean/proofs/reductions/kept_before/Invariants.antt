use Rattle.std.proofs.Common.{◌≡◌, ◌≤◌}
use Rattle.cu_mean.specs.Axes.{axes_in}
use Rattle.cu_semantics.specs.Reduction.{kept_before}
use Rattle.cu_mean.proofs.reductions.kept_before.Given as goal

abbrev pub invariant-loop-earlier : goal.invariant-loop-earlier
invariant-loop-earlier l = record {
  value : l.kept ≡ kept_before l.rank (axes_in l.axes) l.earlier;
  few : l.kept ≤ l.earlier;
}
