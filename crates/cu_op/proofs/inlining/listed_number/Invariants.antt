use Rattle.cu_op.proofs.inlining.listed_number.Given as goal
use Rattle.cu_op.specs.Within.{is_listed}
use Rattle.std.proofs.Common.{◌≡◌}
use Rattle.std.specs.List.{count_by, range_with_len}

abbrev pub invariant-loop-before : goal.invariant-loop-before
invariant-loop-before l = l.number ≡ count_by (is_listed l.plan) (range_with_len 0 l.before)
