use Rattle.std.proofs.Common.{◌*◌}
use Rattle.cu_pairs.proofs.BlockParts.{element_in}
use Rattle.cu_scan.proofs.blocks.row_of.Goals as goal

pub returns-clause-elements : goal.returns-clause-elements
returns-clause-elements c q b = element_in c.args.t c.args.input.now
    (c.args.row * c.args.inner) c.args.inner c.size-size.result q c.size-size.ensures c.requires b
