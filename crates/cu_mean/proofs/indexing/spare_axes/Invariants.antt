use Rattle.std.proofs.Common.{◌≡◌, ◌≤◌, ◌-◌, take, count_by}
use Rattle.cu_semantics.specs.View.{uses_axis}
use Rattle.cu_mean.proofs.indexing.spare_axes.Given as goal

abbrev pub invariant-loop-item : goal.invariant-loop-item
invariant-loop-item l = record { value : l.spare ≡ l.fn.rank - count_by uses_axis (take l.item-index l.items); few : l.spare ≤ 6 }
