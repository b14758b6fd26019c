use Rattle.std.proofs.Common.{◌+◌, ◌*◌, ◌∙◌, get_or, ap, sym, arith}
use Rattle.cu_shape.specs.Index.{products}
use Rattle.cu_shape.proofs.Axes.{axis_by_axis_from, length-axis_by_axis, get_or-axis_by_axis}
use Rattle.cu_grid.proofs.places.index_from.Goals as goal

pub returns : goal.returns
returns c =
    let r = c.requires.coord_rank in
    let s = c.requires.inner_rank in
    let n = length-axis_by_axis (λ i c. i * c) c.args.coord.now c.args.chunk.now r in
    axis_by_axis_from (λ i j. i + j) c.loop-axis.index (products c.args.coord.now c.args.chunk.now) c.args.inner.now (c.loop-axis.invariant.rank ∙ sym n) (n ∙ (r ∙ sym s))
    (λ k b. c.loop-axis.invariant.done k (omega arith) ∙ ap (λ i. i + get_or c.args.inner.now k 0) (sym (get_or-axis_by_axis (λ i c. i * c) c.args.coord.now c.args.chunk.now k (omega arith) (omega arith))))
