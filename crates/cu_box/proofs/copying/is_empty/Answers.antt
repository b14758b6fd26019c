use Rattle.std.proofs.Common.{ap, sym, ◌∙◌, ◌<◌, subst, List, arith}
use Rattle.std.proofs.lemmas.List.{take_all}
use Rattle.cu_shape.specs.Index.{product}
use Rattle.cu_box.specs.Strided.{counts}
use Rattle.cu_box.specs.declared.strides.Axis.{Axis}
use Rattle.cu_box.proofs.StridedNormal.{positive_more, empty_at}
use Rattle.cu_box.proofs.copying.is_empty.Goals as goal

pub returns-then-axis-eq0-clause-none : goal.returns-then-axis-eq0-clause-none
returns-then-axis-eq0-clause-none c = λ t.
    let axis = c.axis_at-axis.result in
    empty_at c.args.axes.now c.loop-number.number axis (omega arith) (sym (ap (λ (x : Axis). x.count) (c.axis_at-axis.ensures axis)) ∙ c.if-axis-eq0.true)

pub loop-number-preserved : goal.loop-number-preserved
loop-number-preserved c =
    let axis = c.axis_at-axis.result in
    let e = ap (λ (x : Axis). x.count) (c.axis_at-axis.ensures axis) in
    positive_more c.args.axes.now c.loop-number.number axis (omega arith) (omega (arith, e)) c.loop-number.invariant

pub returns-clause-some : goal.returns-clause-some
returns-clause-some c = λ t.
    subst (λ (xs : List Axis). 0 < product (counts xs)) (take_all c.loop-number.number c.args.axes.now (omega arith)) c.loop-number.invariant
