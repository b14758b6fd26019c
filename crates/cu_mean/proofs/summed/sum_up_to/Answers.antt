use Rattle.std.proofs.Common.{◌+ℤ◌, ℤ, ap, ◌∙◌}
use Rattle.std.specs.Int.{w128}
use Rattle.std.proofs.lemmas.Int.{to_z-of_z}
use Rattle.cu_num.specs.Wrap.{wrapped}
use Rattle.cu_reduce.specs.Prefix.{sum_below}
use Rattle.cu_semantics.specs.Along.{along}
use Rattle.cu_mean.specs.Reading.{named_element}
use Rattle.cu_mean.proofs.PrefixSums.{sum_of_none, sum_more}
use Rattle.cu_mean.proofs.summed.sum_up_to.Goals as goal

pub loop-place-init : goal.loop-place-init
loop-place-init c =
    sum_of_none c.args.t (along (named_element c.args.arrays.now 0) c.args.axis c.args.idx.now)

pub loop-place-preserved : goal.loop-place-preserved
loop-place-preserved c =
    let f = along (named_element c.args.arrays.now 0) c.args.axis c.args.idx.now in
    let n = c.loop-place.place in
    let x = to_z-of_z w128 c.element_on-x.result (record { sfits = c.element_on-x.type_inv }) ∙ c.element_on-x.ensures in
    to_z-of_z w128 c.sum_with-total.result (record { sfits = c.sum_with-total.type_inv })
    ∙ c.sum_with-total.ensures (sum_below f n) c.loop-place.invariant
    ∙ ap (λ (e : ℤ). wrapped c.args.t (e +ℤ sum_below f n)) x
    ∙ ap (wrapped c.args.t) (sum_more f n)
