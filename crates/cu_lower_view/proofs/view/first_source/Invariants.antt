use Rattle.std.proofs.Common.{◌≡◌, drop}
use Rattle.cu_lower_view.specs.Sources.{nodes_of}
use Rattle.cu_lower_view.proofs.view.first_source.Given as goal

abbrev pub invariant-loop-arg : goal.invariant-loop-arg
invariant-loop-arg l = nodes_of l.args ≡ nodes_of (drop l.arg-index l.args)
