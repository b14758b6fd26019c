-- So many operations before this one have stored results, and no more than the number.
use Rattle.std.proofs.Common.{◌≡◌, ◌≤◌}
use Rattle.cu_op.specs.Within.{listed_number}
use Rattle.cu_top.proofs.parts.inner_number.Given as goal

abbrev pub invariant-loop-op : goal.invariant-loop-op
invariant-loop-op l = (l.before ≡ listed_number l.plan l.op) × (l.before ≤ l.number)
