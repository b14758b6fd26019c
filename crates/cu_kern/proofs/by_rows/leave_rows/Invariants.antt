use Rattle.std.proofs.Common.{◌≡◌, ◌<◌, ◌≤◌, ℕ, length}
use Rattle.cu_kern.specs.Rows.{step_rows, loads_along, RowsAt}
use Rattle.cu_kern.proofs.by_rows.leave_rows.Given as goal

abbrev pub invariant-loop-number : goal.invariant-loop-number
invariant-loop-number l = record {
  same_length : length l.bank ≡ length l.fn.bank;
  short : l.filled ≤ length l.bank;
  stand : (k : ℕ) → k < l.range.count → RowsAt (step_rows l.kernel.code.now l.kernel.rows.now l.bank l.number l.filled) (loads_along l.kernel.inputs.lays.now l.kernel.inputs.ins.now l.kernel.inputs.dims.now l.range.from k) k;
}
