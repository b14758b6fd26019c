use Rattle.std.proofs.Common.{sym, ◌∙◌, arith}
use Rattle.cu_op.specs.Partial.{is_reduced}
use Rattle.cu_op.proofs.GroupLists.{starts_from, long_index, small_group}
use Rattle.cu_op.proofs.groups.group_start.Goals as goal

pub at-group-requires : goal.at-group-requires
at-group-requires c =
    let e = long_index (is_reduced c.args.reduced) c.args.sizes.now c.args.shape.now c.args.idx.now c.requires.sizes.ranks c.requires.inside in
    omega (arith, e)

pub start_on-requires : goal.start_on-requires
start_on-requires c =
    let s = small_group (is_reduced c.args.reduced) c.args.sizes.now c.args.shape.now c.args.idx.now c.loop-axis.axis c.requires.sizes c.requires.elements c.requires.inside (omega arith) in
    λ t. rw (c.at-group.ensures, c.at.ensures) (s.starts (sym c.is_reduced.ensures ∙ t))

pub returns : goal.returns
returns c =
    let e = long_index (is_reduced c.args.reduced) c.args.sizes.now c.args.shape.now c.args.idx.now c.requires.sizes.ranks c.requires.inside in
    starts_from (is_reduced c.args.reduced) c.loop-axis.lo c.args.sizes.now c.args.idx.now (c.loop-axis.invariant.ranks ∙ sym e) (c.requires.sizes.ranks ∙ sym e)
    (λ k h. c.loop-axis.invariant.done k (omega (arith, e, h)))
