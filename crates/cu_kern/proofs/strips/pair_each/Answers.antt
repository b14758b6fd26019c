use Rattle.std.proofs.Common.{◌≡◌, ◌≤◌, ◌+◌, ◌*◌, ◌/◌, length, ap, ◌∙◌, arith}
use Rattle.std.specs.Int.{w128, cast_signed, cast_unsigned}
use Rattle.cu_num.specs.Dtype.{size_of}
use Rattle.cu_num.specs.Scalar.{op2}
use Rattle.cu_kern.specs.Strips.{strip, call_type, value_along, HasPlace}
use Rattle.cu_kern.specs.declared.calls.Call.TheVariants.{Two}
use Rattle.cu_lane.proofs.Words.{kept}
use Rattle.cu_kern.proofs.Parts.{element_fits}
use Rattle.cu_kern.proofs.StripResults.{has_place, step_below, saved_more}
use Rattle.cu_kern.proofs.strips.pair_each.Goals as goal
use Rattle.cu_kern.proofs.strips.pair_each.Goals.{In-loop-at}

-- the arguments have elements for place `at`
there : (c : In-loop-at) → HasPlace (Two c.args.f c.args.t) (strip c.args.x.now c.args.x_step) (strip c.args.y.now c.args.y_step) (strip c.args.y.now c.args.y_step) c.loop-at.at
there c =
    let size = c.size.ensures ∙ ap size_of c.result2-r.ensures in
    has_place (Two c.args.f c.args.t) _ _ _ (length c.args.out.now) (length c.args.out.now / c.size.result) c.loop-at.at c.requires.arguments (ap (λ s. length c.args.out.now / s) size) c.loop-at-test.true

pub overflow_mul-x_step : goal.overflow_mul-x_step
overflow_mul-x_step c = omega (arith, step_below c.args.x_step c.loop-at.at c.requires.arguments.first.step)

pub load-requires : goal.load-requires
load-requires c = (there c).first

pub overflow_mul-y_step : goal.overflow_mul-y_step
overflow_mul-y_step c = omega (arith, step_below c.args.y_step c.loop-at.at c.requires.arguments.second.step)

pub load-requires-in-loop-at : goal.load-requires-in-loop-at
load-requires-in-loop-at c = (there (goal.at.load-requires-in-loop-at c).In-loop-at).second

pub save-requires : goal.save-requires
save-requires c = rw c.loop-at.invariant.same_length (element_fits c.result2-r.result c.loop-at.at c.size.result (length c.args.out.now) c.size.ensures c.loop-at-test.true)

pub loop-at-preserved : goal.loop-at-preserved
loop-at-preserved c =
    let call = Two c.args.f c.args.t in
    let x = strip c.args.x.now c.args.x_step in
    let y = strip c.args.y.now c.args.y_step in
    let at = c.loop-at.at in
    let size : c.size.result ≡ size_of (call_type call) = c.size.ensures ∙ ap size_of c.result2-r.ensures in
    let fits : at * size_of (call_type call) + size_of (call_type call) ≤ length c.loop-at.out = rw c.loop-at.invariant.same_length (element_fits (call_type call) at c.size.result (length c.args.out.now) size c.loop-at-test.true) in
    let first = kept c.load.result (record { sfits = c.load.type_inv }) ∙ c.load.ensures.value in
    let second = kept c.load-in-loop-at.result (record { sfits = c.load-in-loop-at.type_inv }) ∙ c.load-in-loop-at.ensures.value in
    let value : cast_signed w128 (cast_unsigned w128 c.value2-value.result) ≡ value_along call x y y at =
    kept c.value2-value.result (record { sfits = c.value2-value.type_inv }) ∙ c.value2-value.ensures ∙ (λ i. op2 c.args.f c.args.t (first i) (second i)) in
    let more = saved_more c.result2-r.result (call_type call) c.loop-at.out c.save.new.bytes at _ (value_along call x y y) c.result2-r.ensures fits c.save.ensures value c.loop-at.invariant.done in
    record { same_length = more.0 ∙ c.loop-at.invariant.same_length; done = more.1 }
