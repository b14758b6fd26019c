use Rattle.std.proofs.Common.{◌-◌, ◌<◌, sym, ap, ◌∙◌, arith}
use Rattle.cu_shape.specs.Index.{product, place_of}
use Rattle.cu_shape.proofs.Places.{inside-length, place-index, mul_positive}
use Rattle.cu_grid.proofs.Regions.{inside-at}
use Rattle.cu_view_box.proofs.RunBoxes.{exactly_at_none, exactly_from, at_least_one_of}
use Rattle.cu_view_box.proofs.runs.stretch_at.Goals as goal

pub returns-then-rank-eq0-clause-exactly : goal.returns-then-rank-eq0-clause-exactly
returns-then-rank-eq0-clause-exactly c =
    let below : c.args.first < product c.args.dims.now = (let o = c.requires.order in let i = c.requires.inside in omega (arith, o, i)) in
    exactly_at_none c.args.dims.now c.index_of-index.result c.args.first (omega arith) c.index_of-index.ensures.inside
    (sym (ap (place_of c.args.dims.now) c.index_of-index.ensures.index ∙ place-index c.args.dims.now c.args.first below))

pub box_end-requires-clause-count : goal.box_end-requires-clause-count
box_end-requires-clause-count c =
    let i = inside-at c.args.dims.now c.index_of-index.result c.axis_of_run-last.result.axis c.index_of-index.ensures.inside c.axis_of_run-last.ensures.axis in
    let e = c.at.ensures in
    let f = c.at-2.ensures in
    let m = c.min-count.ensures in
    omega (arith, i, e, f, m)

pub returns-clause-later : goal.returns-clause-later
returns-clause-later c =
    let i = inside-at c.args.dims.now c.index_of-index.result c.axis_of_run-last.result.axis c.index_of-index.ensures.inside c.axis_of_run-last.ensures.axis in
    let e = c.at.ensures in
    let f = c.at-2.ensures in
    let m = c.min-count.ensures in
    let q = at_least_one_of (c.args.end - c.args.first) c.axis_of_run-last.result.behind c.axis_of_run-last.ensures.positive c.axis_of_run-last.ensures.few in
    let some : 0 < c.min-count.result = omega (arith, i, e, f, m, q) in
    let p = mul_positive c.min-count.result c.axis_of_run-last.result.behind some c.axis_of_run-last.ensures.positive in
    omega (arith, p)

pub returns-clause-exactly : goal.returns-clause-exactly
returns-clause-exactly c =
    let i = inside-at c.args.dims.now c.index_of-index.result c.axis_of_run-last.result.axis c.index_of-index.ensures.inside c.axis_of_run-last.ensures.axis in
    let e = c.at.ensures in
    let f = c.at-2.ensures in
    let m = c.min-count.ensures in
    let q = at_least_one_of (c.args.end - c.args.first) c.axis_of_run-last.result.behind c.axis_of_run-last.ensures.positive c.axis_of_run-last.ensures.few in
    let below : c.args.first < product c.args.dims.now = (let o = c.requires.order in let n = c.requires.inside in omega (arith, o, n)) in
    exactly_from c.args.dims.now c.index_of-index.result c.box_end.result c.args.first c.axis_of_run-last.result.axis c.axis_of_run-last.result.behind c.min-count.result
    c.index_of-index.ensures.inside c.axis_of_run-last.ensures.axis
    (sym (ap (place_of c.args.dims.now) c.index_of-index.ensures.index ∙ place-index c.args.dims.now c.args.first below))
    c.axis_of_run-last.ensures.behind c.axis_of_run-last.ensures.zeros (omega (arith, i, e, f, m, q)) (omega (arith, i, e, f, m))
    c.box_end.ensures.rank c.box_end.ensures.single c.box_end.ensures.own c.box_end.ensures.behind

pub returns-clause-lo_rank : goal.returns-clause-lo_rank
returns-clause-lo_rank c = inside-length c.args.dims.now c.index_of-index.result c.index_of-index.ensures.inside
