use Rattle.std.proofs.Common.{◌≡◌, ◌<◌, ◌≤◌, ◌+◌, ◌-◌, ℕ, length}
use Rattle.cu_kern.specs.Lays.{HasValue}
use Rattle.cu_kern.specs.Steps.{value_by_place}
use Rattle.cu_kern.proofs.by_rows.run_each.Given as goal

abbrev pub invariant-loop-done : goal.invariant-loop-done
invariant-loop-done l = record {
  within : l.done ≤ l.all.count;
  out_length : length l.out ≡ length l.fn.out;
  bank_length : length l.bank ≡ length l.fn.bank;
  values : (k : ℕ) → k < l.done → HasValue l.t l.out k (value_by_place l.code l.inputs.lays.now l.inputs.ins.now l.inputs.dims.now (l.all.from + k));
}

abbrev pub decreases-loop-done : goal.decreases-loop-done
decreases-loop-done l = l.all.count - l.done
