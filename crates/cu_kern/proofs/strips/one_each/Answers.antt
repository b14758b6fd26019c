use Rattle.std.proofs.Common.{◌≡◌, ◌≤◌, ◌+◌, ◌*◌, length, ap, ◌∙◌}
use Rattle.cu_num.specs.Dtype.{size_of}
use Rattle.cu_kern.specs.Strips.{strip, call_type, value_along}
use Rattle.cu_kern.specs.declared.calls.Call.TheVariants.{One}
use Rattle.cu_lane.proofs.Words.{kept}
use Rattle.cu_kern.proofs.Parts.{element_fits}
use Rattle.cu_kern.proofs.StripResults.{saved_more}
use Rattle.cu_kern.proofs.strips.one_each.Goals as goal

pub loop-at-preserved : goal.loop-at-preserved
loop-at-preserved c =
    let call = One c.args.f c.args.origin c.args.t in
    let x = strip c.args.x.bytes.now c.args.x.step in
    let at = c.loop-at.at in
    let size : c.size.result ≡ size_of (call_type call) = c.size.ensures ∙ ap size_of c.result1-r.ensures in
    let fits : at * size_of (call_type call) + size_of (call_type call) ≤ length c.loop-at.out = rw c.loop-at.invariant.same_length (element_fits (call_type call) at c.size.result (length c.args.out.now) size c.loop-at-test.true) in
    let value = kept c.one_at.result (record { sfits = c.one_at.type_inv }) ∙ c.one_at.ensures in
    let more = saved_more c.result1-r.result (call_type call) c.loop-at.out c.save.new.bytes at _ (value_along call x x x) c.result1-r.ensures fits c.save.ensures value c.loop-at.invariant.done in
    record { same_length = more.0 ∙ c.loop-at.invariant.same_length; done = more.1 }
