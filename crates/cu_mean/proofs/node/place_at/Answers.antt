use Rattle.std.proofs.Common.{pos, length, ap, ◌∙◌, arith}
use Rattle.std.specs.Int.{w128}
use Rattle.std.proofs.lemmas.Int.{to_z_pos}
use Rattle.cu_shape.specs.Index.{indices_of}
use Rattle.cu_semantics.specs.Argument.{source_at}
use Rattle.cu_semantics.specs.Reduction.{reduced_box, reduced_start}
use Rattle.cu_reduce.specs.Places.{best_place}
use Rattle.cu_mean.specs.Axes.{axes_in}
use Rattle.cu_mean.specs.Reading.{elements_in}
use Rattle.cu_mean.specs.Reductions.{elements_along}
use Rattle.cu_mean.proofs.ReducedBoxes.{source_small, box_small, start_apart, same_ranks}
use Rattle.cu_mean.proofs.node.place_at.Goals as goal

pub best_place-requires-clause-count : goal.best_place-requires-clause-count
best_place-requires-clause-count c =
    let small = rw (← c.source_dims-shape.ensures) at (source_small c.args.scope.now.infos.now c.args.args.now 0 c.requires) in
    let box = box_small (axes_in c.args.axes.now) c.source_dims-shape.result in
    rw c.reduced_box-sizes.ensures (omega arith)

pub best_place-requires-clause-ranks : goal.best_place-requires-clause-ranks
best_place-requires-clause-ranks c =
    rw (c.reduced_box-sizes.ensures, c.reduced_start-start.ensures, c.rank.ensures.rank) (same_ranks (axes_in c.args.axes.now) c.args.keepdims c.source_dims-shape.result c.args.scope.now.idx.now)

pub best_place-requires-clause-apart : goal.best_place-requires-clause-apart
best_place-requires-clause-apart c =
    rw (c.reduced_box-sizes.ensures, c.reduced_start-start.ensures, c.rank.ensures.rank) (start_apart (axes_in c.args.axes.now) c.args.keepdims c.source_dims-shape.result c.args.scope.now.idx.now)

pub returns : goal.returns
returns c =
    let shape = c.source_dims-shape.ensures in
    let z = c.reduced_box-sizes.ensures ∙ ap (reduced_box (axes_in c.args.axes.now)) shape in
    let s = c.reduced_start-start.ensures ∙ ap (λ n. reduced_start (axes_in c.args.axes.now) c.args.keepdims n c.args.scope.now.idx.now) (c.rank.ensures.rank ∙ ap length shape) in
    to_z_pos w128 c.best_place.result (omega arith)
    ∙ ap pos c.best_place.ensures
    ∙ (λ i. pos (best_place c.args.least (elements_along (source_at (elements_in c.args.scope.now.plains.now) c.args.args.now 0) (s i) (indices_of (z i)))))
