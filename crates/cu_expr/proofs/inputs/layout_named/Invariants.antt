use Rattle.std.proofs.Common.{◌≡◌, drop}
use Rattle.cu_expr.proofs.inputs.layout_named.Given as goal
use Rattle.cu_expr.specs.Inputs.{layout_named}

abbrev pub invariant-loop-input : goal.invariant-loop-input
invariant-loop-input l = layout_named (drop l.input-index l.inputs) l.name ≡ layout_named l.inputs l.name
