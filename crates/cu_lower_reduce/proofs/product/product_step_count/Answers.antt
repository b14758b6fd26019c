use Rattle.std.proofs.Common.{◌+◌, length, List, ap, sym, ◌∙◌}
use Rattle.cu_tree.specs.declared.round.Round.{Round}
use Rattle.cu_lower_reduce.proofs.Firsts.{product_count}
use Rattle.cu_lower_reduce.proofs.product.product_step_count.Goals as goal

pub returns-clause-count : goal.returns-clause-count
returns-clause-count c =
    ap (λ n. n + 1) (c.len.ensures.value ∙ ap (λ (rs : List Round). length rs) c.product_rounds.ensures.rounds) ∙ sym (product_count c.args.s.now c.args.x.now)
