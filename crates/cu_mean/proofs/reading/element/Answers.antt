use Rattle.std.proofs.Common.{◌≡◌, Some}
use Rattle.std.specs.Prelude.{slice_get}
use Rattle.std.specs.Int.{w128}
use Rattle.std.proofs.lemmas.Int.{to_z-of_z}
use Rattle.cu_mean.proofs.Elements.{found_below, element_past}
use Rattle.cu_mean.proofs.reading.element.Goals as goal

pub returns-then-node-plains-clause-range : goal.returns-then-node-plains-clause-range
returns-then-node-plains-clause-range c infos have =
    let p = c.index-plains-node.result in
    let there : slice_get c.args.plains.now c.args.node ≡ Some p = found_below c.args.plains.now c.args.node p c.if-node-plains.true c.index-plains-node.is in
    rw (← (have c.args.node p there).dtype, to_z-of_z w128 c.plain_at.result (record { sfits = c.plain_at.type_inv })) c.plain_at.ensures.range

pub returns-else-node-plains-clause-value : goal.returns-else-node-plains-clause-value
returns-else-node-plains-clause-value c = element_past c.args.plains.now c.args.node c.args.idx.now c.if-node-plains.false
