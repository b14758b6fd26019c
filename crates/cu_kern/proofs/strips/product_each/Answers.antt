use Rattle.std.proofs.Common.{◌≤◌, ◌+◌, ◌*◌, length, refl, ◌∙◌}
use Rattle.cu_num.specs.Dtype.{size_of}
use Rattle.cu_kern.specs.Strips.{strip, value_along}
use Rattle.cu_kern.specs.declared.calls.Call.TheVariants.{Product}
use Rattle.cu_lane.proofs.Words.{kept}
use Rattle.cu_kern.proofs.Parts.{element_fits}
use Rattle.cu_kern.proofs.StripResults.{saved_more}
use Rattle.cu_kern.proofs.strips.product_each.Goals as goal

pub loop-at-preserved : goal.loop-at-preserved
loop-at-preserved c =
    let t = c.args.t in
    let x = strip c.args.x.bytes.now c.args.x.step in
    let y = strip c.args.y.bytes.now c.args.y.step in
    let at = c.loop-at.at in
    let fits : at * size_of t + size_of t ≤ length c.loop-at.out = rw c.loop-at.invariant.same_length (element_fits t at c.size.result (length c.args.out.now) c.size.ensures c.loop-at-test.true) in
    let value = kept c.product_at.result (record { sfits = c.product_at.type_inv }) ∙ c.product_at.ensures in
    let more = saved_more t t c.loop-at.out c.save.new.bytes at _ (value_along (Product c.args.from t) x y y) refl fits c.save.ensures value c.loop-at.invariant.done in
    record { same_length = more.0 ∙ c.loop-at.invariant.same_length; done = more.1 }
