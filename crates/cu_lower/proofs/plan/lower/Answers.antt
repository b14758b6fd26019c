use Rattle.std.proofs.Common.{length, ap, arith}
use Rattle.cu_lower.specs.Parts.{Grown}
use Rattle.cu_lower.proofs.NodeSteps.{all_steps}
use Rattle.cu_lower.proofs.Standing.{all_placed}
use Rattle.cu_lower.proofs.plan.lower.Goals as goal

pub into_plan-requires-clause-out : goal.into_plan-requires-clause-out
into_plan-requires-clause-out c =
    let all = all_placed c.args.expr.now c.args.infos.now c.args.inputs.now c.args.options.now c.requires.form (all_steps c.args.expr.now c.args.infos.now c.args.inputs.now c.args.options.now c.requires (record { pulls = c.pull_law.ensures; reductions = record { steps = c.reduction_law.ensures.steps; sizes = c.reduction_law.ensures.sizes; value = c.reduction_law.ensures.value }; searches = record { steps = c.search_law.ensures.steps; sizes = c.search_law.ensures.sizes; value = c.search_law.ensures.value }; products = record { steps = c.product_law.ensures.steps; sizes = c.product_law.ensures.sizes; value = c.product_law.ensures.value }; sums = record { steps = c.cumulative_law.ensures.steps; sizes = c.cumulative_law.ensures.sizes; value = c.cumulative_law.ensures.value }; groups = record { steps = c.grouped_law.ensures.steps; sizes = c.grouped_law.ensures.sizes; value = c.grouped_law.ensures.value }; rechunks = record { steps = c.rechunk_law.ensures.steps; last = c.rechunk_law.ensures.last; ends = c.rechunk_law.ensures.ends; sizes = c.rechunk_law.ensures.sizes; value = c.rechunk_law.ensures.value }; operands = record { steps = c.operands_law.ensures.steps; places = c.operands_law.ensures.places; given = c.operands_law.ensures.given; sizes = c.operands_law.ensures.sizes; value = c.operands_law.ensures.value } })) in
    let grown = ap (λ (g : Grown). length g.places) c.in-Ok.ensures in
    let out = c.out.ensures.out in
    let within = c.requires.form.out in
    omega (arith, all, grown, out, within)
