use Rattle.cu_tree.proofs.Middles.{of_first}
use Rattle.cu_tree.proofs.partials.first_partial.Goals as goal

pub returns-clause-kept : goal.returns-clause-kept
returns-clause-kept c = rw (c.partial_dims.ensures, c.partial_chunk.ensures) (of_first c.args.dtype c.args.axes c.args.source.now c.requires.source c.requires.bytes)
