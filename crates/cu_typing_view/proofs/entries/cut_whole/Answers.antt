use Rattle.std.proofs.Common.{◌∙◌, sym, arith}
use Rattle.cu_shape.proofs.Axes.{axis_by_axis_from}
use Rattle.cu_typing_view.specs.Entries.{clipped_chunk_size}
use Rattle.cu_typing_view.proofs.entries.cut_whole.Goals as goal

pub returns : goal.returns
returns c =
    let r = c.requires.ranks in
    axis_by_axis_from clipped_chunk_size c.loop-axis.whole c.args.array.now.dims c.args.array.now.chunk (c.loop-axis.invariant.rank ∙ r) (sym r) (λ k b. c.loop-axis.invariant.done k (omega arith))
