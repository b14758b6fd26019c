use Rattle.std.proofs.Common.{◌≡◌, ◌+◌, ◌++◌, ◌≤◌, List, drop, length, ap, sym, ◌∙◌, subst, arith}
use Rattle.cu_tree.specs.Rounds.{axis_rounds, rounds_from, merged_on, rounds_of, AreRounds}
use Rattle.cu_tree.specs.declared.round.Round.{Round}
use Rattle.cu_tree.proofs.Falls.{with_rounds, part_fits, rounds_fit, all_done}
use Rattle.cu_tree.proofs.Orders.{are_rounds}
use Rattle.cu_tree.proofs.tree.rounds.Goals as goal

pub push_rounds-requires-clause-room : goal.push_rounds-requires-clause-room
push_rounds-requires-clause-room c =
    let short = c.rank-axis-end.ensures.short in
    part_fits (rounds_from c.args.axes c.args.split_every 0 c.args.counts.now) c.loop-axis.rounds.items (axis_rounds c.args.split_every c.loop-axis.axis c.merged_on-count.result c.merged_on-count.result) (rounds_from c.args.axes c.args.split_every (c.loop-axis.axis + 1) (drop (c.loop-axis.axis + 1) c.args.counts.now))
    (with_rounds c.args.axes c.args.split_every c.args.counts.now c.loop-axis.axis c.merged_on-count.result _ c.loop-axis.rounds.items (omega arith) (c.merged_on-count.ensures ∙ ap (merged_on c.args.axes c.loop-axis.axis) c.at.ensures) c.loop-axis.invariant.whole)
    (rounds_fit c.args.axes c.args.split_every 0 c.args.counts.now c.requires.groups (omega arith) c.requires.partials)

pub loop-axis-preserved : goal.loop-axis-preserved
loop-axis-preserved c = record {
  whole =
      with_rounds c.args.axes c.args.split_every c.args.counts.now c.loop-axis.axis c.merged_on-count.result _ c.loop-axis.rounds.items (omega arith) (c.merged_on-count.ensures ∙ ap (merged_on c.args.axes c.loop-axis.axis) c.at.ensures) c.loop-axis.invariant.whole
      ∙ ap (λ (rs : List Round). rs ++ rounds_from c.args.axes c.args.split_every (c.loop-axis.axis + 1) (drop (c.loop-axis.axis + 1) c.args.counts.now)) (sym c.push_rounds.ensures);
}

value : (c : goal.After-loop-axis) → length c.args.counts.now ≤ c.loop-axis.axis → c.loop-axis.rounds.items ≡ rounds_of c.args.axes c.args.split_every c.args.counts.now
value c h = all_done c.args.axes c.args.split_every c.args.counts.now c.loop-axis.axis _ c.loop-axis.rounds.items h c.loop-axis.invariant.whole

pub returns-clause-rounds : goal.returns-clause-rounds
returns-clause-rounds c = value c (omega arith)

pub returns-clause-merges : goal.returns-clause-merges
returns-clause-merges c = subst (AreRounds c.args.axes c.args.split_every c.args.counts.now) (sym (value c (omega arith))) (are_rounds c.args.axes c.args.split_every c.args.counts.now c.requires.groups)

pub returns-clause-few : goal.returns-clause-few
returns-clause-few c =
    let short = c.rank-axis-end.ensures.short in
    rw (value c (omega arith)) (rounds_fit c.args.axes c.args.split_every 0 c.args.counts.now c.requires.groups (omega arith) c.requires.partials)
