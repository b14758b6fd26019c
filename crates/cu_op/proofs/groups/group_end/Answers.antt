use Rattle.std.proofs.Common.{sym, ◌∙◌, arith}
use Rattle.cu_op.specs.Partial.{is_reduced}
use Rattle.cu_op.proofs.GroupLists.{ends_from, long_index, small_group}
use Rattle.cu_op.proofs.groups.group_end.Goals as goal

pub at-group-requires : goal.at-group-requires
at-group-requires c =
    let e = long_index (is_reduced c.args.reduced) c.args.sizes.now c.args.shape.now c.args.idx.now c.requires.sizes.ranks c.requires.inside in
    omega (arith, e)

pub end_on-requires-clause-next : goal.end_on-requires-clause-next
end_on-requires-clause-next c =
    let s = small_group (is_reduced c.args.reduced) c.args.sizes.now c.args.shape.now c.args.idx.now c.loop-axis.axis c.requires.sizes c.requires.elements c.requires.inside (omega arith) in
    rw c.at-group.ensures s.next

pub end_on-requires-clause-small : goal.end_on-requires-clause-small
end_on-requires-clause-small c =
    let s = small_group (is_reduced c.args.reduced) c.args.sizes.now c.args.shape.now c.args.idx.now c.loop-axis.axis c.requires.sizes c.requires.elements c.requires.inside (omega arith) in
    λ t. rw (c.at-group.ensures, c.at.ensures) (s.ends (sym c.is_reduced.ensures ∙ t))

pub returns : goal.returns
returns c =
    let e = long_index (is_reduced c.args.reduced) c.args.sizes.now c.args.shape.now c.args.idx.now c.requires.sizes.ranks c.requires.inside in
    ends_from (is_reduced c.args.reduced) c.loop-axis.hi c.args.sizes.now c.args.shape.now c.args.idx.now (c.loop-axis.invariant.ranks ∙ sym e) (c.requires.sizes.ranks ∙ sym e) (sym e)
    (λ k h. c.loop-axis.invariant.done k (omega (arith, e, h)))
