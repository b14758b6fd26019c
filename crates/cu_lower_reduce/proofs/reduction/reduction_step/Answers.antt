use Rattle.std.proofs.Common.{◌∙◌, arith}
use Rattle.cu_lower_reduce.proofs.Firsts.{first_bytes, merges_reduction, reduction_behind, reduction_count}
use Rattle.cu_lower_reduce.proofs.reduction.reduction_step.Goals as goal

pub first_partial-partial-requires-clause-bytes : goal.first_partial-partial-requires-clause-bytes
first_partial-partial-requires-clause-bytes c = let x = c.requires.reduction in first_bytes c.args.x.now.axes c.args.x.now.from c.args.x.now.made x.from x.made x.result

pub merge_step-requires-clause-rounds : goal.merge_step-requires-clause-rounds
merge_step-requires-clause-rounds c =
    rw (c.first_partial-partial.ensures.partial, c.as_slice-else-at-eq0.ensures.value, c.reduction_rounds-rounds.ensures.rounds)
    (merges_reduction c.args.x.now.made.dtype c.args.x.now.axes c.args.s.now.split_every c.args.x.now.from c.requires.setting.several c.requires.reduction.from)

pub merge_step-requires-clause-within : goal.merge_step-requires-clause-within
merge_step-requires-clause-within c =
    let n = reduction_count c.args.s.now c.args.x.now in
    rw (c.as_slice-else-at-eq0.ensures.value, c.reduction_rounds-rounds.ensures.rounds) (let w = c.requires.within in omega (arith, n, w))

pub returns-else-at-eq0 : goal.returns-else-at-eq0
returns-else-at-eq0 c =
    reduction_behind c.args.s.now c.args.x.now c.args.at c.first_partial-partial.result c.as_slice-else-at-eq0.result.now c.merge_step.result (omega arith) c.first_partial-partial.ensures.partial
    (c.as_slice-else-at-eq0.ensures.value ∙ c.reduction_rounds-rounds.ensures.rounds) c.merge_step.ensures
