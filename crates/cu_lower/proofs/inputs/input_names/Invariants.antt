use Rattle.std.proofs.Common.{◌≡◌, drop}
use Rattle.cu_need.specs.Live.{is_live}
use Rattle.cu_lower.specs.Inputs.{names_after, input_names}
use Rattle.cu_lower.proofs.inputs.input_names.Given as goal

abbrev pub invariant-loop-k : goal.invariant-loop-k
invariant-loop-k l = names_after (is_live l.expr) l.k (drop l.k l.nodes) l.names.items ≡ input_names l.expr
