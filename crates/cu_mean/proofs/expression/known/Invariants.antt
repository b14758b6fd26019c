use Rattle.std.proofs.Common.{◌≡◌, All, take}
use Rattle.cu_node.specs.Info.{IsInfo}
use Rattle.cu_mean.proofs.expression.known.Given as goal

abbrev pub invariant-loop-number : goal.invariant-loop-number
invariant-loop-number l = record { infos : l.infos.items ≡ take l.number l.types; kept : All IsInfo l.infos.items }
