use Rattle.std.proofs.Common.{[], ◌∷◌, length, arith}
use Rattle.cu_box.proofs.StridedLoops.{none_copied, all_copied, start_of, one_axis}
use Rattle.cu_box.proofs.StridedBlocks.{outer_can, outer_counts, outer_copied}
use Rattle.cu_box.proofs.planes.copy_groups.Goals as goal

pub loop-at-init : goal.loop-at-init
loop-at-init g c = record {
  within = omega arith;
  copied = none_copied g.row.N c.args.order c.args.plane.outer (c.args.plane.inner ∷ []) c.args.plane.start c.args.source.now c.args.target.now;
}

pub outer_block-group-requires : goal.outer_block-group-requires
outer_block-group-requires g c =
    start_of g.row.N c.args.plane.outer (c.args.plane.inner ∷ []) c.args.plane.start c.loop-at.at c.args.source.now (length c.args.target.now)
    c.requires.can (one_axis c.args.plane.inner c.requires.some) c.loop-at-test.true (omega arith) (omega arith)

pub copy_group-requires-clause-can : goal.copy_group-requires-clause-can
copy_group-requires-clause-can g c =
    outer_can g.row.N c.args.plane c.outer_block-group.result c.loop-at.at c.min-count.result c.args.source.now (length c.args.target.now)
    c.requires.can c.requires.some (omega arith) (omega arith) c.outer_block-group.ensures (length c.loop-at.target) c.loop-at.invariant.copied.same_length

pub loop-at-preserved : goal.loop-at-preserved
loop-at-preserved g c = record {
  within = omega arith;
  copied = outer_copied g.row.N c.args.plane c.outer_block-group.result c.loop-at.at c.min-count.result c.args.source.now (length c.args.target.now)
      c.requires.can c.requires.some (omega arith) (omega arith) c.outer_block-group.ensures c.args.order c.args.target.now c.loop-at.target c.copy_group.new.target c.loop-at.invariant.copied c.copy_group.ensures;
}

pub returns : goal.returns
returns g c =
    all_copied g.row.N c.args.order c.args.plane.outer (c.args.plane.inner ∷ []) c.args.plane.start c.loop-at.at c.args.source.now c.args.target.now c.loop-at.target (omega arith) c.loop-at.invariant.copied

pub copy_group-requires-clause-rows : goal.copy_group-requires-clause-rows
copy_group-requires-clause-rows g c =
    let n = outer_counts g.row.N c.args.plane c.outer_block-group.result c.loop-at.at c.min-count.result c.args.source.now (length c.args.target.now) c.requires.can c.requires.some (omega arith) (omega arith) c.outer_block-group.ensures in
    omega (arith, n.0)
