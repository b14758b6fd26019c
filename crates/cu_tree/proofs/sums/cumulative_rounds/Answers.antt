use Rattle.std.proofs.Common.{◌≡◌, ◌∙◌, ℕ, List, ap, sym, subst, arith}
use Rattle.cu_tree.specs.Sums.{cumulative_rounds, sum_rounds, sums_array, sums_count, AreSumRounds}
use Rattle.cu_tree.specs.declared.round.Round.{Round}
use Rattle.cu_tree.proofs.SumArrays.{axis_below}
use Rattle.cu_tree.proofs.SumRounds.{are_sum_rounds}
use Rattle.cu_tree.proofs.sums.cumulative_rounds.Goals as goal

pub returns-clause-rule : goal.returns-clause-rule
returns-clause-rule c =
    let made = c.args.made.now in
    let source = c.args.source.now in
    let e : c.sum_rounds.result.items ≡ cumulative_rounds c.args.split_every c.args.made.now c.args.source.now c.args.axis =
    c.sum_rounds.ensures ∙ ap (λ (n : ℕ). sum_rounds c.args.split_every c.args.axis n n) c.sums_count.ensures.count in
    subst (λ (rs : List Round). AreSumRounds c.args.split_every c.args.axis (sums_array c.args.made.now c.args.source.now c.args.axis).dims rs) (sym e)
    (are_sum_rounds c.args.split_every c.args.axis (sums_count c.args.made.now c.args.source.now c.args.axis) (sums_array c.args.made.now c.args.source.now c.args.axis).dims c.requires.several
    (axis_below c.args.made.now c.args.source.now c.args.axis c.requires.summed) (omega arith))
