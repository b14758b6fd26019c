use Rattle.std.proofs.Common.{◌∙◌, arith}
use Rattle.cu_lower_reduce.proofs.Firsts.{merges_product}
use Rattle.cu_lower_reduce.proofs.GroupSteps.{labels_kept, grouped_behind, grouped_count}
use Rattle.cu_lower_reduce.proofs.grouped.grouped_step.Goals as goal

pub merge_step-requires-clause-rounds : goal.merge_step-requires-clause-rounds
merge_step-requires-clause-rounds c =
    rw (c.product_partial-partial.ensures.partial, c.as_slice-else-at-eq0.ensures.value, c.product_rounds-rounds.ensures.rounds)
    (merges_product c.args.s.now.split_every c.args.x.now.labels_info c.args.x.now.made c.requires.setting.several)

pub merge_step-requires-clause-within : goal.merge_step-requires-clause-within
merge_step-requires-clause-within c =
    let n = grouped_count c.args.s.now c.args.x.now in
    rw (c.as_slice-else-at-eq0.ensures.value, c.product_rounds-rounds.ensures.rounds) (let w = c.requires.within in omega (arith, n, w))

pub returns-else-at-eq0 : goal.returns-else-at-eq0
returns-else-at-eq0 c =
    grouped_behind c.args.s.now c.args.x.now c.args.at c.product_partial-partial.result c.as_slice-else-at-eq0.result.now c.merge_step.result (omega arith) c.product_partial-partial.ensures.partial
    (c.as_slice-else-at-eq0.ensures.value ∙ c.product_rounds-rounds.ensures.rounds) c.merge_step.ensures

pub product_rounds-rounds-requires-clause-left : goal.product_rounds-rounds-requires-clause-left
product_rounds-rounds-requires-clause-left c = labels_kept c.args.x.now c.requires.grouped

pub product_partial-partial-requires-clause-left : goal.product_partial-partial-requires-clause-left
product_partial-partial-requires-clause-left c = labels_kept c.args.x.now c.requires.grouped
