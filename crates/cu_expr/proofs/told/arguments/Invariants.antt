use Rattle.std.proofs.Common.{◌≡◌, map, take}
use Rattle.cu_expr.specs.Typing.{argument_of}
use Rattle.cu_expr.proofs.told.arguments.Given as goal

abbrev pub invariant-loop-arg : goal.invariant-loop-arg
invariant-loop-arg l = l.told.items ≡ map (argument_of l.infos) (take l.arg-index l.args)
