use Rattle.std.proofs.Common.{◌≡◌, ◌≤◌, ◌++◌, List, length, map, drop}
use Rattle.cu_node.specs.declared.info.NodeInfo.{NodeInfo}
use Rattle.cu_expr.specs.Kernel.{loads_from}
use Rattle.cu_expr.specs.Typing.{argument_of}
use Rattle.cu_lower.proofs.parts.loads.Given as goal

abbrev pub invariant-loop-arg : goal.invariant-loop-arg
invariant-loop-arg l = record {
  so_far : (infos : List NodeInfo) → l.code.items ++ loads_from l.arrays (map (argument_of infos) (drop l.arg-index l.args)) ≡ loads_from 0 (map (argument_of infos) l.args);
  long : length l.code.items ≡ l.arg-index;
  few : l.arrays ≤ l.arg-index;
}
