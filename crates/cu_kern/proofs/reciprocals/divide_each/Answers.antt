use Rattle.std.proofs.Common.{◌≡◌, ◌≤◌, ◌+◌, ◌*◌, ◌/◌, ◌<◌, pos, length, arith, ap, ◌∙◌}
use Rattle.std.specs.Int.{w128, cast_signed, cast_unsigned}
use Rattle.cu_num.specs.Dtype.{size_of}
use Rattle.cu_num.specs.Scalar.{op2}
use Rattle.cu_num.specs.Element.{element_at}
use Rattle.cu_num.specs.declared.layout.Endian.TheVariants.{Little}
use Rattle.cu_kern.specs.Strips.{strip, strip_element, call_type, value_along}
use Rattle.cu_kern.specs.declared.calls.Call.TheVariants.{Two}
use Rattle.cu_lane.proofs.Words.{kept}
use Rattle.cu_kern.proofs.Parts.{element_fits}
use Rattle.cu_kern.proofs.StripResults.{saved_more}
use Rattle.cu_kern.proofs.reciprocals.divide_each.Goals as goal

pub load-requires : goal.load-requires
load-requires c =
    let r = call_type (Two c.args.f c.args.t) in
    let at = c.loop-at.at in
    let size : c.size.result ≡ size_of r = c.size.ensures ∙ ap size_of c.result2-r.ensures in
    let below : at < length c.args.out.now / size_of r = rw size at c.loop-at-test.true in
    omega (arith, c.requires.arguments.first.inside at below)

pub loop-at-preserved : goal.loop-at-preserved
loop-at-preserved c =
    let call = Two c.args.f c.args.t in
    let x = strip c.args.x.now 1 in
    let y = strip c.args.y.now 0 in
    let at = c.loop-at.at in
    let size : c.size.result ≡ size_of (call_type call) = c.size.ensures ∙ ap size_of c.result2-r.ensures in
    let fits : at * size_of (call_type call) + size_of (call_type call) ≤ length c.loop-at.out = rw c.loop-at.invariant.same_length (element_fits (call_type call) at c.size.result (length c.args.out.now) size c.loop-at-test.true) in
    let one : at ≡ 1 * at = omega arith in
    let first = kept c.load.result (record { sfits = c.load.type_inv }) ∙ c.load.ensures.value ∙ ap (element_at Little c.args.t c.args.x.now) one in
    let second : pos c.args.by.divisor ≡ strip_element c.args.t y at = c.requires.divisor ∙ ap (element_at Little c.args.t c.args.y.now) (omega arith) in
    let value : cast_signed w128 (cast_unsigned w128 c.value_by-value.result) ≡ value_along call x y y at =
    kept c.value_by-value.result (record { sfits = c.value_by-value.type_inv }) ∙ c.value_by-value.ensures ∙ (λ i. op2 c.args.f c.args.t (first i) (second i)) in
    let more = saved_more c.result2-r.result (call_type call) c.loop-at.out c.save.new.bytes at _ (value_along call x y y) c.result2-r.ensures fits c.save.ensures value c.loop-at.invariant.done in
    record { same_length = more.0 ∙ c.loop-at.invariant.same_length; done = more.1 }
