use Rattle.std.proofs.Common.{◌≡◌, take, All}
use Rattle.cu_node.specs.Info.{IsInfo}
use Rattle.cu_plan.proofs.planning.infos_of.Given as goal

abbrev pub invariant-loop-k : goal.invariant-loop-k
invariant-loop-k l = record {
  copied : l.infos.items ≡ take l.k l.types;
  kept : All IsInfo l.infos.items;
}
