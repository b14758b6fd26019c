use Rattle.std.proofs.Common.{◌≡◌, ◌≤◌, ◌+◌, ◌*◌, drop, sum_by}
use Rattle.std.specs.Prelude.{slice_index}
use Rattle.cu_typing_view.proofs.pieces.sum_on.Given as goal

abbrev pub invariant-loop-arg : goal.invariant-loop-arg
invariant-loop-arg l = record {
  small : l.sum ≤ l.arg-index * 1099511627776;
  whole : sum_by (λ i. slice_index i.dims l.axis) l.args ≡ l.sum + sum_by (λ i. slice_index i.dims l.axis) (drop l.arg-index l.args);
}
