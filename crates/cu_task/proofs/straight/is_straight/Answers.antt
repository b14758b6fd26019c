use Rattle.std.proofs.Common.{◌≡◌, rules}
use Rattle.cu_task.proofs.StraightReads.{on_true_then, straight_from}
use Rattle.cu_task.proofs.straight.is_straight.Goals as goal

pub returns-in-Reshape : goal.returns-in-Reshape
returns-in-Reshape c =
    let same : c.source_array-from.result.now.layout.dtype ≡ c.made_array-made.result.now.layout.dtype = search rules in
    on_true_then c.is_reshaped_chunk.result (straight_from c.args.chunk.now c.source_array-from.result.now c.made_array-made.result.now c.source_array-from.ensures c.made_array-made.ensures same) c.is_reshaped_chunk.ensures
