use Rattle.std.proofs.Common.{◌∷◌, ℤ, ap, sym, ◌∙◌}
use Rattle.std.specs.Int.{w128}
use Rattle.std.proofs.lemmas.Int.{to_z-of_z}
use Rattle.cu_num.specs.Wrap.{wrapped}
use Rattle.cu_mean.specs.Reading.{named_element}
use Rattle.cu_mean.specs.Reductions.{kept_of}
use Rattle.cu_mean.proofs.Along.{along_from, along_front, none_along, whole_along}
use Rattle.cu_mean.proofs.Steps.{wrapped_kept}
use Rattle.cu_mean.proofs.reductions.reduced.Goals as goal

pub loop-place-preserved : goal.loop-place-preserved
loop-place-preserved c =
    let element = named_element c.args.arrays.now 0 in
    let start = c.args.start.now in
    let sizes = c.args.sizes.now in
    let p = c.loop-place.place in
    let n = c.unwrap-count.result in
    let rest = along_from element start sizes p n in
    let step = c.kept_with-kept.ensures rest c.loop-place.invariant (none_along element start sizes p n c.loop-place-test.true c.loop-place.auto.place) in
    let x = to_z-of_z w128 c.element_along-x.result (record { sfits = c.element_along-x.type_inv }) ∙ c.element_along-x.ensures in
    to_z-of_z w128 c.kept_with-kept.result (record { sfits = c.kept_with-kept.type_inv })
    ∙ step
    ∙ ap (λ (e : ℤ). kept_of c.args.kind c.args.t (e ∷ rest)) x
    ∙ ap (kept_of c.args.kind c.args.t) (sym (along_front element start sizes p n c.loop-place-test.true c.loop-place.auto.place))

pub returns : goal.returns
returns c =
    let element = named_element c.args.arrays.now 0 in
    let counted = rw c.unwrap-count.ensures at c.elements.ensures.count in
    let whole = whole_along element c.args.start.now c.args.sizes.now c.loop-place.place c.unwrap-count.result c.loop-place-test.false counted in
    to_z-of_z w128 c.wrap.result (record { sfits = c.wrap.type_inv })
    ∙ c.wrap.ensures.value
    ∙ ap (wrapped c.args.t) (c.loop-place.invariant ∙ ap (kept_of c.args.kind c.args.t) whole)
    ∙ wrapped_kept c.args.kind c.args.t _
