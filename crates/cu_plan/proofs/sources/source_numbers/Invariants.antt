-- The sources among the operations so far.
use Rattle.std.proofs.Common.{◌≡◌, filter, map}
use Rattle.std.specs.List.{range_with_len}
use Rattle.cu_op.specs.Within.{listed_number}
use Rattle.cu_plan.specs.Listed.{waits_for}
use Rattle.cu_plan.proofs.sources.source_numbers.Given as goal

abbrev pub invariant-loop-other : goal.invariant-loop-other
invariant-loop-other l = l.numbers.items ≡ map (listed_number l.plan) (filter (waits_for l.plan l.op) (range_with_len 0 l.other))
