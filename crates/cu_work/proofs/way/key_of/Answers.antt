use Rattle.cu_op.proofs.CellsOfTasks.{coordinates_small}
use Rattle.cu_work.proofs.way.key_of.Goals as goal

pub chunk_key-requires-clause-coordinates : goal.chunk_key-requires-clause-coordinates
chunk_key-requires-clause-coordinates c = coordinates_small c.args.plan.now c.args.cell.now.array c.args.cell.now.coord c.array-info.ensures.sound c.requires.0 c.requires.1
