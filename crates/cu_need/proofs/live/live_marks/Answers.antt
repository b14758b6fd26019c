use Rattle.std.proofs.Common.{◌≡◌, ◌+◌, ◌-◌, ◌<◌, ◌==◌, ℕ, refl, sym, ap, ◌∙◌, length, arith}
use Rattle.cu_need.proofs.LiveNodes.{one_dead, none_left, node_earlier}
use Rattle.cu_need.proofs.live.live_marks.Goals as goal

pub loop-k-init : goal.loop-k-init
loop-k-init c = record {
  all = c.stored_mark-marks.ensures.all;
  done = λ j.
      c.stored_mark-marks.ensures.marks j
      ∙ ap (λ (out : ℕ). j == out) c.out.ensures.out
      ∙ sym (none_left c.args.expr.now.out (length c.nodes-nodes.result.now) c.nodes-nodes.result.now j refl);
}

pub mark_arguments-requires-clause-earlier : goal.mark_arguments-requires-clause-earlier
mark_arguments-requires-clause-earlier c =
    let inside : c.loop-k.k - 1 < length c.nodes-nodes.result.now = omega (arith, c.loop-k-test.true, c.loop-k.auto.k) in
    node_earlier c.args.expr.now c.nodes-nodes.result.now (c.loop-k.k - 1) c.index-nodes-k.result c.args-then-marks-k.result.now c.nodes-nodes.ensures.form c.nodes-nodes.ensures.nodes inside c.args-then-marks-k.ensures

pub loop-k-preserved : goal.loop-k-preserved
loop-k-preserved c = record {
  all = c.loop-k.invariant.all;
  done = λ j.
      let next : c.loop-k.k - 1 + 1 ≡ c.loop-k.k = omega (arith, c.loop-k-test.true) in
      let inside : c.loop-k.k - 1 < length c.nodes-nodes.result.now = omega (arith, c.loop-k-test.true, c.loop-k.auto.k) in
      c.loop-k.invariant.done j ∙ sym (one_dead c.args.expr.now.out c.loop-k.k (c.loop-k.k - 1) c.nodes-nodes.result.now j next inside (sym (c.loop-k.invariant.done (c.loop-k.k - 1)) ∙ c.if-marks-k.false));
}
