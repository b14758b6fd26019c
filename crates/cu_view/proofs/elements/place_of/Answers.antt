use Rattle.std.proofs.Common.{sym, subst}
use Rattle.cu_shape.specs.Index.{IsInside}
use Rattle.cu_view.proofs.OneByOne.{within_ranks}
use Rattle.cu_view.proofs.elements.place_of.Goals as goal

pub difference-requires : goal.difference-requires
difference-requires c = (within_ranks c.args.block.now.region.lo c.args.block.now.region.hi c.args.idx.now c.requires.within).0

pub place-requires-clause-inside : goal.place-requires-clause-inside
place-requires-clause-inside c = subst (IsInside c.args.block.now.dims) (sym c.difference.ensures) (c.requires.block.inside c.args.idx.now c.requires.within)
