use Rattle.std.proofs.Common.{◌+◌, ◌++◌, List, drop, ap, ◌∙◌, arith}
use Rattle.cu_lower_reduce.specs.declared.step.Step.{Step}
use Rattle.cu_lower_reduce.specs.Copies.{copy_steps}
use Rattle.cu_lower.proofs.Collected.{one_more, all_collected}
use Rattle.cu_lower.proofs.aligned.push_copies.Goals as goal

pub loop-at-preserved : goal.loop-at-preserved
loop-at-preserved c =
    ap (λ (xs : List Step). xs ++ drop (c.loop-at.at + 1) (copy_steps c.args.s.now c.args.source c.args.rechunk.now)) c.in_ok-push.ensures.items
    ∙ one_more (copy_steps c.args.s.now c.args.source c.args.rechunk.now) c.loop-at.steps.items c.loop-at.at c.copy_step.result c.loop-at.invariant c.copy_step.ensures

pub returns : goal.returns
returns c =
    let count = c.copy_step_count-at-end.ensures.count c.args.source in
    let past = c.loop-at-test.false in
    all_collected (copy_steps c.args.s.now c.args.source c.args.rechunk.now) c.loop-at.steps.items c.loop-at.at c.loop-at.invariant (omega (arith, count, past))
