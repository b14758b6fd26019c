use Rattle.std.proofs.Common.{◌+◌, ◌++◌, List, drop, ap, ◌∙◌, arith}
use Rattle.cu_lower_reduce.specs.declared.step.Step.{Step}
use Rattle.cu_lower_reduce.specs.Grouped.{grouped_steps}
use Rattle.cu_lower.proofs.Collected.{one_more, all_collected}
use Rattle.cu_lower.proofs.reduced.push_groups.Goals as goal

pub loop-at-preserved : goal.loop-at-preserved
loop-at-preserved c =
    ap (λ (xs : List Step). xs ++ drop (c.loop-at.at + 1) (grouped_steps c.args.s.now c.args.x.now)) c.in_ok-push.ensures.items
    ∙ one_more (grouped_steps c.args.s.now c.args.x.now) c.loop-at.steps.items c.loop-at.at c.grouped_step.result c.loop-at.invariant c.grouped_step.ensures

pub returns : goal.returns
returns c =
    let count = c.grouped_step_count-at-end.ensures.count in
    let past = c.loop-at-test.false in
    all_collected (grouped_steps c.args.s.now c.args.x.now) c.loop-at.steps.items c.loop-at.at c.loop-at.invariant (omega (arith, count, past))
