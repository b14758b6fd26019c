-- No node so far reads the array with the output's name.
use Rattle.std.proofs.Common.{◌≡◌, false, take}
use Rattle.std.specs.List.{list_any}
use Rattle.cu_top.specs.Prepare.{reads_array}
use Rattle.cu_top.proofs.ask.is_own_input.Given as goal

abbrev pub invariant-loop-k : goal.invariant-loop-k
invariant-loop-k l = list_any (λ node. reads_array l.expr.store_as node.form) (take l.k l.expr.nodes) ≡ false
