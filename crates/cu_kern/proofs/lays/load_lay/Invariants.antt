use Rattle.std.proofs.Common.{◌≡◌, ◌<◌, ◌≤◌, ◌+◌, ◌-◌, ℕ, length, get_or}
use Rattle.cu_num.specs.Word.{IsWord}
use Rattle.cu_shape.specs.Index.{index_at}
use Rattle.cu_kern.specs.Lays.{lay_element}
use Rattle.cu_kern.proofs.lays.load_lay.Given as goal

abbrev pub invariant-loop-done : goal.invariant-loop-done
invariant-loop-done l = record {
  within : l.done ≤ length l.out;
  same_length : length l.out ≡ length l.fn.out;
  words : (k : ℕ) → k < l.done → IsWord l.lay.dtype (get_or l.out k 0) (lay_element l.lay l.ins (index_at l.dims (l.from + k)));
}

abbrev pub decreases-loop-done : goal.decreases-loop-done
decreases-loop-done l = length l.initial.out - l.done
