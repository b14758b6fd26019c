use Rattle.std.proofs.Common.{arith}
use Rattle.cu_typing_view.proofs.Exceeded.{elements_small}
use Rattle.cu_mean.proofs.node.replaced_at.Goals as goal

pub same_place-requires-clause-counted : goal.same_place-requires-clause-counted
same_place-requires-clause-counted c = let w = elements_small c.args.scope.now.info.now c.requires.own in omega arith
