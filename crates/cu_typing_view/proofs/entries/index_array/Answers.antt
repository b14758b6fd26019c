use Rattle.std.proofs.Common.{◌<◌, ◌∙◌, false, Err, length, ap, sym}
use Rattle.cu_typing_view.specs.Entries.{index_shape}
use Rattle.cu_typing_view.proofs.Exceeded.{rank_limit}
use Rattle.cu_typing_view.proofs.IndexSizes.{length-index_chunk, positive-index_chunk}
use Rattle.cu_typing_view.proofs.entries.index_array.Goals as goal

pub within_limits-requires-clause-ranks : goal.within_limits-requires-clause-ranks
within_limits-requires-clause-ranks c =
    rw (c.in-Some-index_chunk.ensures.chunk, c.in-Some.ensures.shape) (length-index_chunk c.args.more c.args.items.now c.args.array.now.dims c.args.array.now.chunk (sym c.requires.kept.ranks))

pub within_limits-requires-clause-positive : goal.within_limits-requires-clause-positive
within_limits-requires-clause-positive c =
    rw c.in-Some-index_chunk.ensures.chunk
    (positive-index_chunk c.args.more false 0 c.args.items.now c.args.array.now.dims c.args.array.now.chunk (sym c.requires.kept.ranks) c.requires.kept.positive c.requires.right)

pub returns-in-None-index_chunk-clause-value : goal.returns-in-None-index_chunk-clause-value
returns-in-None-index_chunk-clause-value c =
    let same = length-index_chunk c.args.more c.args.items.now c.args.array.now.dims c.args.array.now.chunk (sym c.requires.kept.ranks) in
    let more : 6 < length (index_shape c.args.more c.args.items.now c.args.array.now.dims) = rw (← same) c.in-None-index_chunk.ensures.full in
    ap Err c.fault_at-in-None-index_chunk.ensures ∙ sym (rank_limit _ _ _ more)
