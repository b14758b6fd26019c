use Rattle.std.proofs.Common.{◌∙◌, length, List, ap, sym, arith}
use Rattle.cu_tree.specs.declared.round.Round.{Round}
use Rattle.cu_lower_reduce.proofs.SumChains.{carry_behind, last_behind}
use Rattle.cu_lower_reduce.proofs.cumulative.cumulative_step.Goals as goal

pub returns-then-at-count-2 : goal.returns-then-at-count-2
returns-then-at-count-2 c =
    let s = c.args.s.now in
    let x = c.args.x.now in
    let n = c.sums_count.ensures.count in
    carry_behind c.args.s.now c.args.x.now c.args.at c.sums_array-sums.result c.as_slice-then-at-count-2.result.now c.len-count.result c.carried_step.result c.sums_array-sums.ensures.sums
    (c.as_slice-then-at-count-2.ensures.value ∙ c.cumulative_rounds-rounds.ensures.rounds) (c.len-count.ensures.value ∙ ap (λ (rs : List Round). length rs) (sym c.as_slice-then-at-count-2.ensures.value))
    (omega (arith, n)) (omega arith) (omega arith) c.carried_step.ensures

pub returns-else-at-count-2 : goal.returns-else-at-count-2
returns-else-at-count-2 c =
    let n = c.sums_count.ensures.count in
    last_behind c.args.s.now c.args.x.now c.args.at c.sums_array-sums.result c.cumulative_rounds-rounds.result.items c.len-count.result c.scanned_step.result c.sums_array-sums.ensures.sums
    c.cumulative_rounds-rounds.ensures.rounds c.len-count.ensures.value (omega (arith, n)) (omega arith) c.requires.within c.scanned_step.ensures
