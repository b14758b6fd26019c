use Rattle.std.proofs.Common.{◌∙◌, ◌+◌, ◌*◌, length, List, ap, sym, arith}
use Rattle.cu_tree.specs.declared.round.Round.{Round}
use Rattle.cu_lower_reduce.proofs.SumChains.{several_count}
use Rattle.cu_lower_reduce.proofs.cumulative.cumulative_step_count.Goals as goal

pub returns-clause-count : goal.returns-clause-count
returns-clause-count c =
    let n = c.sums_count.ensures.count in
    ap (λ n. 2 * n + 3) (c.len.ensures.value ∙ ap (λ (rs : List Round). length rs) c.cumulative_rounds-rounds.ensures.rounds) ∙ sym (several_count c.args.s.now c.args.x.now (omega (arith, n)))
