use Rattle.std.proofs.Common.{get_or, ap, sym, ◌∙◌, arith}
use Rattle.cu_node.specs.declared.info.NodeInfo.{NodeInfo}
use Rattle.cu_tree.specs.Partials.{merged}
use Rattle.cu_tree.specs.declared.round.Round.{Round}
use Rattle.cu_tree.proofs.SumArrays.{behind, sums_within}
use Rattle.cu_lower_reduce.proofs.Chains.{after_more}
use Rattle.cu_lower_reduce.proofs.cumulative.sums_after.Goals as goal

pub merged-after-requires : goal.merged-after-requires
merged-after-requires c =
    let none : Round = record { axis = 0; from = 0; to = 0 } in
    let b = behind c.args.split_every c.args.axis c.loop-at.after c.args.rounds.now c.loop-at.at none (omega arith) c.loop-at.invariant.rule in
    record { axis = sums_within c.args.split_every c.args.axis c.loop-at.after (get_or c.args.rounds.now c.loop-at.at none) _ b }

pub loop-at-preserved : goal.loop-at-preserved
loop-at-preserved c =
    let none : Round = record { axis = 0; from = 0; to = 0 } in
    let b = behind c.args.split_every c.args.axis c.loop-at.after c.args.rounds.now c.loop-at.at none (omega arith) c.loop-at.invariant.rule in
    rw (c.merged-after.ensures.partial) (record {
      value = ap (λ (i : NodeInfo). merged (get_or c.args.rounds.now c.loop-at.at none) i) c.loop-at.invariant.value ∙ sym (after_more c.args.sums.now c.args.rounds.now c.loop-at.at none (omega arith));
      rule = b.1;
    })
