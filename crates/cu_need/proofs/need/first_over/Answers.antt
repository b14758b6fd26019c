use Rattle.std.proofs.Common.{ℕ, nat_lt, sym, ap, ◌∙◌, get_or}
use Rattle.std.proofs.lemmas.Bool.{le-ltb}
use Rattle.cu_form.specs.declared.expr.Node.{Node}
use Rattle.cu_need.specs.Need.{need_of}
use Rattle.cu_need.proofs.LiveSteps.{found_later, found_past, node_takes, node_within}
use Rattle.cu_need.proofs.need.first_over.Goals as goal
use Rattle.cu_need.proofs.need.first_over.Goals.{then-marks-k+else-need-allowed, else-marks-k}

pub need_of-need-requires-clause-args : goal.need_of-need-requires-clause-args
need_of-need-requires-clause-args c = node_takes c.args.expr.now c.nodes-nodes.result.now c.loop-k.k c.index-nodes-k.result c.nodes-nodes.ensures.form c.nodes-nodes.ensures.nodes c.loop-k-test.true

pub need_of-need-requires-clause-within : goal.need_of-need-requires-clause-within
need_of-need-requires-clause-within c = node_within c.args.expr.now c.args.infos.now c.nodes-nodes.result.now c.out-out.result c.loop-k.k c.index-nodes-k.result c.requires.limits c.out-out.ensures.out c.nodes-nodes.ensures.nodes c.loop-k-test.true

pub loop-k-preserved : goal.loop-k-preserved
loop-k-preserved c =
    let test = λ (numbered : ℕ × Node). nat_lt c.args.allowed (need_of c.args.reserved c.args.split_every c.args.infos.now c.args.expr.now.out numbered.0 numbered.1.form) in
    elim c.if-marks-k.branch [
      | then-marks-k+else-need-allowed w ↦
          let needs = w.need_of-need.ensures ∙ ap (λ (out : ℕ). need_of c.args.reserved c.args.split_every c.args.infos.now out c.loop-k.k (get_or c.nodes-nodes.result.now c.loop-k.k w.index-nodes-k.result).form) c.out-out.ensures.out in
          let fails = ap (λ (need : ℕ). nat_lt c.args.allowed need) (sym needs) ∙ le-ltb c.args.allowed w.need_of-need.result w.if-need-allowed.false in
          sym (found_later c.args.expr.now c.nodes-nodes.result.now c.loop-k.k w.index-nodes-k.result test c.loop-k-test.true (sym (c.live_marks-marks.ensures c.loop-k.k) ∙ w.if-marks-k.true) fails) ∙ c.loop-k.invariant
      | else-marks-k w ↦
          sym (found_past c.args.expr.now c.nodes-nodes.result.now c.loop-k.k test c.loop-k-test.true (sym (c.live_marks-marks.ensures c.loop-k.k) ∙ w.if-marks-k.false)) ∙ c.loop-k.invariant
    ]
