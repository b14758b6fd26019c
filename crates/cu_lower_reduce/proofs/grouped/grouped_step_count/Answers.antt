use Rattle.std.proofs.Common.{◌+◌, length, List, ap, sym, ◌∙◌}
use Rattle.cu_tree.specs.declared.round.Round.{Round}
use Rattle.cu_lower_reduce.proofs.GroupSteps.{labels_kept, grouped_count}
use Rattle.cu_lower_reduce.proofs.grouped.grouped_step_count.Goals as goal

pub returns-clause-count : goal.returns-clause-count
returns-clause-count c =
    ap (λ n. n + 1) (c.len.ensures.value ∙ ap (λ (rs : List Round). length rs) c.product_rounds.ensures.rounds) ∙ sym (grouped_count c.args.s.now c.args.x.now)

pub product_rounds-requires-clause-left : goal.product_rounds-requires-clause-left
product_rounds-requires-clause-left c = labels_kept c.args.x.now c.requires.grouped
