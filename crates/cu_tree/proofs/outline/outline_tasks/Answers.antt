use Rattle.cu_tree.proofs.Outlines.{kept_at}
use Rattle.cu_tree.proofs.outline.outline_tasks.Goals as goal

pub chunks_of-tasks-requires : goal.chunks_of-tasks-requires
chunks_of-tasks-requires c = (kept_at c.args.outline.now c.loop-one.one-index c.one-item.result c.loop-one-test.true c.one-item.is c.requires.kept).0
