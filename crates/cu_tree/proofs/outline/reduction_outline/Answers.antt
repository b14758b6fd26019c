use Rattle.std.proofs.Common.{◌∙◌}
use Rattle.cu_tree.proofs.Orders.{of_reduction}
use Rattle.cu_tree.proofs.Outlines.{are_merges, reduction_is}
use Rattle.cu_tree.proofs.outline.reduction_outline.Goals as goal

pub chain-requires-clause-rounds : goal.chain-requires-clause-rounds
chain-requires-clause-rounds c =
    are_merges c.args.axes c.args.split_every c.first_partial-partial.result _ c.as_slice.result.now _ c.requires.several
    (of_reduction c.args.made.now.dtype c.args.axes c.args.split_every c.args.source.now c.requires.several c.requires.source.ranks) c.first_partial-partial.ensures.partial
    (c.as_slice.ensures.value ∙ c.reduction_rounds-rounds.ensures.rounds)

pub returns-clause-kept : goal.returns-clause-kept
returns-clause-kept c =
    rw (c.chain.ensures, c.as_slice.ensures.value, c.reduction_rounds-rounds.ensures.rounds, c.first_partial-partial.ensures.partial)
    (reduction_is c.args.split_every _ _ c.args.made.now c.args.source.now c.args.axes c.requires.several c.requires.made c.requires.source c.requires.partial)
