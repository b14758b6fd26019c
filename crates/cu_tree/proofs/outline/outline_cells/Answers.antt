use Rattle.cu_tree.proofs.Outlines.{kept_at}
use Rattle.cu_tree.proofs.outline.outline_cells.Goals as goal

pub chunks_of-cells-requires : goal.chunks_of-cells-requires
chunks_of-cells-requires c = (kept_at c.args.outline.now c.loop-one.one-index c.one-item.result c.loop-one-test.true c.one-item.is c.requires.kept).1 c.in-Some.values c.in-Some.is

pub chunks_of-cells-requires-in-loop-one : goal.chunks_of-cells-requires-in-loop-one
chunks_of-cells-requires-in-loop-one c = (kept_at c.args.outline.now c.loop-one.one-index c.one-item.result c.loop-one-test.true c.one-item.is c.requires.kept).0
