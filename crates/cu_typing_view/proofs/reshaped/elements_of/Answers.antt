use Rattle.std.proofs.Common.{rules}
use Rattle.cu_typing_view.proofs.Exceeded.{elements_small}
use Rattle.cu_typing_view.proofs.reshaped.elements_of.Goals as goal

pub unreachable-requires : goal.unreachable-requires
unreachable-requires c = let small = elements_small c.args.array.now c.requires in search rules
