use Rattle.std.proofs.Common.{[], ◌∷◌, length, arith}
use Rattle.cu_box.proofs.StridedLoops.{none_copied, all_copied, start_of, one_axis}
use Rattle.cu_box.proofs.StridedBlocks.{inner_can, inner_counts, inner_copied, copied_exchanged, can_exchanged}
use Rattle.cu_box.proofs.planes.copy_each_part.Goals as goal

pub loop-at-init : goal.loop-at-init
loop-at-init g c = record {
  within = omega arith;
  copied = none_copied g.row.N c.args.order c.args.plane.inner (c.args.plane.outer ∷ []) c.args.plane.start c.args.source.now c.args.target.now;
}

pub inner_block-part-requires : goal.inner_block-part-requires
inner_block-part-requires g c =
    start_of g.row.N c.args.plane.inner (c.args.plane.outer ∷ []) c.args.plane.start c.loop-at.at c.args.source.now (length c.args.target.now)
    (can_exchanged g.row.N c.args.plane.outer c.args.plane.inner c.args.plane.start c.args.source.now (length c.args.target.now) c.requires.can) (one_axis c.args.plane.outer c.requires.rows) c.loop-at-test.true (omega arith) (omega arith)

pub copy_part-requires-clause-can : goal.copy_part-requires-clause-can
copy_part-requires-clause-can g c =
    inner_can g.row.N c.args.plane c.inner_block-part.result c.loop-at.at c.min-count.result c.args.source.now (length c.args.target.now)
    c.requires.can c.requires.rows (omega arith) (omega arith) c.inner_block-part.ensures (length c.loop-at.target) c.loop-at.invariant.copied.same_length

pub loop-at-preserved : goal.loop-at-preserved
loop-at-preserved g c = record {
  within = omega arith;
  copied = inner_copied g.row.N c.args.plane c.inner_block-part.result c.loop-at.at c.min-count.result c.args.source.now (length c.args.target.now)
      c.requires.can c.requires.rows (omega arith) (omega arith) c.inner_block-part.ensures c.args.order c.args.target.now c.loop-at.target c.copy_part.new.target c.loop-at.invariant.copied c.copy_part.ensures;
}

pub returns : goal.returns
returns g c =
    copied_exchanged g.row.N c.args.order c.args.plane.inner c.args.plane.outer c.args.plane.start c.args.source.now c.args.target.now c.loop-at.target
    (all_copied g.row.N c.args.order c.args.plane.inner (c.args.plane.outer ∷ []) c.args.plane.start c.loop-at.at c.args.source.now c.args.target.now c.loop-at.target (omega arith) c.loop-at.invariant.copied)

pub copy_part-requires-clause-some : goal.copy_part-requires-clause-some
copy_part-requires-clause-some g c =
    let n = inner_counts g.row.N c.args.plane c.inner_block-part.result c.loop-at.at c.min-count.result c.args.source.now (length c.args.target.now) c.requires.can c.requires.rows (omega arith) (omega arith) c.inner_block-part.ensures in
    omega (arith, n.1)
