use Rattle.std.proofs.Common.{ap, sym, ◌∙◌}
use Rattle.cu_fuse.specs.Close.{remains}
use Rattle.cu_fuse.proofs.Scanning.{maker_passes}
use Rattle.cu_fuse.proofs.close.remains.Goals as goal

pub returns-in-Some : goal.returns-in-Some
returns-in-Some c = maker_passes c.args.ops.now c.args.a c.maker_of.result c.maker_of.ensures.number ∙ ap (remains c.args.ops.now c.args.a) (sym c.in-Some.is)
