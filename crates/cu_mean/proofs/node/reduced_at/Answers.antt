use Rattle.std.proofs.Common.{length, sym, ap, ◌∙◌, arith}
use Rattle.std.specs.Int.{w128}
use Rattle.std.proofs.lemmas.Int.{to_z-of_z}
use Rattle.cu_num.specs.Wrap.{wrapped}
use Rattle.cu_shape.specs.Index.{indices_of}
use Rattle.cu_semantics.specs.Argument.{source_at, source_shape}
use Rattle.cu_semantics.specs.Reduction.{reduced_box, reduced_start}
use Rattle.cu_reduce.specs.Folds.{fold_of}
use Rattle.cu_mean.specs.Axes.{axes_in}
use Rattle.cu_mean.specs.Reading.{elements_in}
use Rattle.cu_mean.specs.Reductions.{elements_along}
use Rattle.cu_mean.proofs.ReducedBoxes.{source_small, box_small, start_apart, same_ranks}
use Rattle.cu_mean.proofs.NodeTypes.{sum_is_integer}
use Rattle.cu_mean.proofs.node.reduced_at.Goals as goal

pub reduced-requires-clause-count : goal.reduced-requires-clause-count
reduced-requires-clause-count c =
    let small = rw (← c.source_dims-shape.ensures) at (source_small c.args.scope.now.infos.now c.as_slice-args.result.now 0 c.requires.ready.kept) in
    let box = box_small (axes_in c.axes_listed-axes.result) c.source_dims-shape.result in
    rw c.reduced_box-sizes.ensures (omega arith)

pub reduced-requires-clause-ranks : goal.reduced-requires-clause-ranks
reduced-requires-clause-ranks c =
    rw (c.reduced_box-sizes.ensures, c.reduced_start-start.ensures, c.rank.ensures.rank) (same_ranks (axes_in c.axes_listed-axes.result) c.args.keepdims c.source_dims-shape.result c.args.scope.now.idx.now)

pub reduced-requires-clause-apart : goal.reduced-requires-clause-apart
reduced-requires-clause-apart c =
    rw (c.reduced_box-sizes.ensures, c.reduced_start-start.ensures, c.rank.ensures.rank) (start_apart (axes_in c.axes_listed-axes.result) c.args.keepdims c.source_dims-shape.result c.args.scope.now.idx.now)

pub reduced-requires-clause-integer : goal.reduced-requires-clause-integer
reduced-requires-clause-integer c = sum_is_integer c.args.kind c.args.axes.now c.args.keepdims _ c.args.scope.now.info.now c.requires.ready.typed

pub returns : goal.returns
returns c env k e =
    let a = c.as_slice-args.ensures in
    let shape = c.source_dims-shape.ensures ∙ ap (λ args. source_shape c.args.scope.now.infos.now args 0) a in
    let x = c.axes_listed-axes.ensures in
    let z = c.reduced_box-sizes.ensures ∙ (λ i. reduced_box (x i) (shape i)) in
    let s = c.reduced_start-start.ensures ∙ (let n = c.rank.ensures.rank ∙ ap length shape in λ i. reduced_start (x i) c.args.keepdims (n i) c.args.scope.now.idx.now) in
    let d = sym e in
    to_z-of_z w128 c.reduced.result (record { sfits = c.reduced.type_inv })
    ∙ c.reduced.ensures
    ∙ (λ i. wrapped (d i).dtype (fold_of c.args.kind (elements_along (source_at (elements_in c.args.scope.now.plains.now) (a i) 0) (s i) (indices_of (z i)))))
