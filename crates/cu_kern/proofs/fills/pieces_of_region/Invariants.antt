use Rattle.std.proofs.Common.{◌≡◌, ◌+◌, ◌<◌, ◌≤◌, ◌-◌, ℕ, Some, length}
use Rattle.cu_shape.specs.Index.{index_at}
use Rattle.cu_kern.specs.Lays.{HasValue, lay_element}
use Rattle.cu_kern.proofs.fills.pieces_of_region.Given as goal

abbrev pub invariant-loop-done : goal.invariant-loop-done
invariant-loop-done l = record {
  within : l.done ≤ l.range.count;
  out_length : length l.out ≡ length l.fn.out;
  values : (k : ℕ) → k < l.done → HasValue l.region.lay.now.dtype l.out k (Some (lay_element l.region.lay.now l.region.ins.now (index_at l.dims (l.range.from + k))));
}

abbrev pub decreases-loop-done : goal.decreases-loop-done
decreases-loop-done l = l.range.count - l.done
