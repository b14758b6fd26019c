use Rattle.std.proofs.Common.{◌≡◌, ◌≤◌, ◌+◌, ◌*◌, length, arith, ap, ◌∙◌}
use Rattle.std.specs.Int.{w128, cast_signed, cast_unsigned}
use Rattle.cu_num.specs.Dtype.{size_of}
use Rattle.cu_num.specs.Scalar.{op2}
use Rattle.cu_num.specs.Element.{element_at}
use Rattle.cu_num.specs.declared.layout.Endian.TheVariants.{Little}
use Rattle.cu_kern.specs.Strips.{strip, call_type, value_along}
use Rattle.cu_kern.specs.declared.calls.Call.TheVariants.{Two}
use Rattle.cu_lane.proofs.Words.{kept}
use Rattle.cu_kern.proofs.StripResults.{saved_more}
use Rattle.cu_kern.proofs.strips.gather.Goals as goal

pub load-requires : goal.load-requires
load-requires c = omega (arith, (c.requires.places c.loop-k.k c.loop-k-test.true).first)

pub load-requires-in-loop-k : goal.load-requires-in-loop-k
load-requires-in-loop-k c = (c.requires.places c.loop-k.k c.loop-k-test.true).second

pub save-requires : goal.save-requires
save-requires c =
    let one : size_of c.result2-r.result ≡ 1 = ap size_of (c.result2-r.ensures ∙ c.requires.truth) in
    let whole : c.loop-k.k * size_of c.result2-r.result ≡ c.loop-k.k = ap (λ s. c.loop-k.k * s) one ∙ omega arith in
    omega (arith, one, whole, c.loop-k.invariant.len, c.loop-k-test.true)

pub loop-k-preserved : goal.loop-k-preserved
loop-k-preserved c =
    let call = Two c.args.f c.args.t in
    let x = strip c.args.x.now 1 in
    let y = strip c.args.y.now c.args.y_step in
    let at = c.loop-k.k in
    let long = c.loop-k.invariant.len in
    let below = c.loop-k-test.true in
    let one : size_of (call_type call) ≡ 1 = ap size_of c.requires.truth in
    let whole : at * size_of (call_type call) ≡ at = ap (λ s. at * s) one ∙ omega arith in
    let fits : at * size_of (call_type call) + size_of (call_type call) ≤ length c.loop-k.part = omega arith in
    let once : c.args.from + at ≡ 1 * (c.args.from + at) = omega arith in
    let first = kept c.load.result (record { sfits = c.load.type_inv }) ∙ c.load.ensures.value ∙ ap (element_at Little c.args.t c.args.x.now) once in
    let second = kept c.load-in-loop-k.result (record { sfits = c.load-in-loop-k.type_inv }) ∙ c.load-in-loop-k.ensures.value in
    let value : cast_signed w128 (cast_unsigned w128 c.value2-value.result) ≡ value_along call x y y (c.args.from + at) =
    kept c.value2-value.result (record { sfits = c.value2-value.type_inv }) ∙ c.value2-value.ensures ∙ (λ i. op2 c.args.f c.args.t (first i) (second i)) in
    let more = saved_more c.result2-r.result (call_type call) c.loop-k.part c.save.new.bytes at _ (λ k. value_along call x y y (c.args.from + k)) c.result2-r.ensures fits c.save.ensures value c.loop-k.invariant.done in
    record { len = more.0 ∙ long; done = more.1 }
