use Rattle.std.proofs.Common.{◌≡◌, [], length, drop, All}
use Rattle.cu_node.specs.Info.{IsInfo}
use Rattle.cu_expr.specs.Typing.{typed_after}
use Rattle.cu_expr.proofs.typing.type_of.Given as goal

-- the nodes that are left decide
abbrev pub invariant-loop-node : goal.invariant-loop-node
invariant-loop-node l = record {
  count : length l.infos.items ≡ l.node-index;
  kept : All IsInfo l.infos.items;
  rest : typed_after l.inputs l.infos.items (drop l.node-index l.node-items) ≡ typed_after l.inputs [] l.node-items;
}
