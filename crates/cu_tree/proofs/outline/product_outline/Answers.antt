use Rattle.std.proofs.Common.{◌∙◌, ◌^◌, length, None, arith}
use Rattle.cu_tree.proofs.Orders.{of_product}
use Rattle.cu_tree.proofs.Outlines.{are_merges, chain_light, product_is}
use Rattle.cu_tree.proofs.outline.product_outline.Goals as goal

pub chain-requires-clause-rounds : goal.chain-requires-clause-rounds
chain-requires-clause-rounds c =
    are_merges (record { 0 = 2 ^ length c.args.made.now.dims }) c.args.split_every c.product_partial-partial.result _ c.as_slice.result.now _ c.requires.several
    (of_product c.args.split_every c.args.left.now c.args.made.now c.requires.several) c.product_partial-partial.ensures.partial
    (c.as_slice.ensures.value ∙ c.product_rounds-rounds.ensures.rounds)

pub returns-clause-kept : goal.returns-clause-kept
returns-clause-kept c =
    rw (c.chain.ensures, c.as_slice.ensures.value, c.product_rounds-rounds.ensures.rounds, c.product_partial-partial.ensures.partial)
    (product_is c.args.split_every _ _ c.args.made.now c.args.left.now c.requires.several c.requires.made c.requires.room c.requires.left c.requires.rank)

pub returns-clause-light : goal.returns-clause-light
returns-clause-light c =
    rw (c.chain.ensures) (chain_light None c.product_bytes.result c.merge_bytes.result (2 ^ 62) _ c.args.made.now c.as_slice.result.now (let p = c.product_bytes.ensures.small in omega (arith, p)) c.merge_bytes.ensures.small)
