-- The lines of the operations so far.
use Rattle.std.proofs.Common.{◌≡◌, filter}
use Rattle.std.specs.List.{flat_map, range_with_len}
use Rattle.cu_op.specs.Within.{is_listed}
use Rattle.cu_plan.specs.Text.{operation_line}
use Rattle.cu_plan.proofs.text.text_of.Given as goal

abbrev pub invariant-loop-op : goal.invariant-loop-op
invariant-loop-op l = l.text.items ≡ flat_map (operation_line l.plan) (filter (is_listed l.plan) (range_with_len 0 l.op))
