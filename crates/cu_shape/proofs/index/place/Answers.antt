use Rattle.std.proofs.Common.{◌<◌, ◌+◌, ◌*◌, ◌^◌, arith}
use Rattle.std.proofs.lemmas.List.{drop_all}
use Rattle.cu_shape.proofs.Places.{place_step, place-below, inside-length}
use Rattle.cu_shape.proofs.index.place.Goals as goal

pub overflow_mul-place : goal.overflow_mul-place
overflow_mul-place c =
    let l = inside-length _ _ c.requires.inside in
    let b = place-below _ _ c.requires.inside in
    let s = place_step c.args.dims.now c.args.idx.now c.loop-axis.axis c.loop-axis.place (omega arith) (omega arith) c.loop-axis.invariant.rest in
    let e = c.at.ensures in
    let bound : c.loop-axis.place * c.at.result < 2 ^ 64 = rw e (omega (arith, c.loop-axis.invariant.whole, c.requires.counted)) in
    omega arith

pub overflow_add-place : goal.overflow_add-place
overflow_add-place c =
    let l = inside-length _ _ c.requires.inside in
    let b = place-below _ _ c.requires.inside in
    let s = place_step c.args.dims.now c.args.idx.now c.loop-axis.axis c.loop-axis.place (omega arith) (omega arith) c.loop-axis.invariant.rest in
    let e = c.at.ensures in
    let f = c.at-in-loop-axis.ensures in
    let bound : c.loop-axis.place * c.at.result + c.at-in-loop-axis.result < 2 ^ 64 = rw (e, f) (omega (arith, c.loop-axis.invariant.whole, c.requires.counted)) in
    omega arith

pub returns-clause-below : goal.returns-clause-below
returns-clause-below c =
    let b = place-below _ _ c.requires.inside in
    let e = drop_all c.loop-axis.axis c.args.dims.now (omega arith) in
    let w = rw e at c.loop-axis.invariant.whole in
    omega arith
