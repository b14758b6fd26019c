use Rattle.std.proofs.Common.{[], ◌∷◌, length, arith}
use Rattle.cu_box.proofs.StridedLoops.{none_copied, all_copied, start_of, one_axis}
use Rattle.cu_box.proofs.StridedBlocks.{inner_can, inner_counts, inner_copied, copied_exchanged, can_exchanged}
use Rattle.cu_box.proofs.planes.copy_group.Goals as goal

pub loop-at-init : goal.loop-at-init
loop-at-init g c = record {
  within = omega arith;
  copied = none_copied g.row.N c.args.order c.args.plane.inner (c.args.plane.outer ∷ []) c.args.plane.start c.args.source.now c.args.target.now;
}

pub inner_block-piece-requires : goal.inner_block-piece-requires
inner_block-piece-requires g c =
    start_of g.row.N c.args.plane.inner (c.args.plane.outer ∷ []) c.args.plane.start c.loop-at.at c.args.source.now (length c.args.target.now)
    (can_exchanged g.row.N c.args.plane.outer c.args.plane.inner c.args.plane.start c.args.source.now (length c.args.target.now) c.requires.can) (one_axis c.args.plane.outer c.requires.rows) c.loop-at-test.true (omega arith) (omega arith)

pub copy_tile_columns-requires-clause-can : goal.copy_tile_columns-requires-clause-can
copy_tile_columns-requires-clause-can g c =
    inner_can g.row.N c.args.plane c.inner_block-piece.result c.loop-at.at c.min-count.result c.args.source.now (length c.args.target.now)
    c.requires.can c.requires.rows (omega arith) (omega arith) c.inner_block-piece.ensures (length c.loop-at.target) c.loop-at.invariant.copied.same_length

pub loop-at-preserved : goal.loop-at-preserved
loop-at-preserved g c = record {
  within = omega arith;
  copied = inner_copied g.row.N c.args.plane c.inner_block-piece.result c.loop-at.at c.min-count.result c.args.source.now (length c.args.target.now)
      c.requires.can c.requires.rows (omega arith) (omega arith) c.inner_block-piece.ensures c.args.order c.args.target.now c.loop-at.target c.copy_tile_columns.new.target c.loop-at.invariant.copied c.copy_tile_columns.ensures;
}

pub returns : goal.returns
returns g c =
    copied_exchanged g.row.N c.args.order c.args.plane.inner c.args.plane.outer c.args.plane.start c.args.source.now c.args.target.now c.loop-at.target
    (all_copied g.row.N c.args.order c.args.plane.inner (c.args.plane.outer ∷ []) c.args.plane.start c.loop-at.at c.args.source.now c.args.target.now c.loop-at.target (omega arith) c.loop-at.invariant.copied)

pub copy_tile_columns-requires-clause-rows : goal.copy_tile_columns-requires-clause-rows
copy_tile_columns-requires-clause-rows g c =
    let n = inner_counts g.row.N c.args.plane c.inner_block-piece.result c.loop-at.at c.min-count.result c.args.source.now (length c.args.target.now) c.requires.can c.requires.rows (omega arith) (omega arith) c.inner_block-piece.ensures in
    let r = c.requires.rows in omega (arith, n.0, r)

pub copy_tile_columns-requires-clause-some : goal.copy_tile_columns-requires-clause-some
copy_tile_columns-requires-clause-some g c =
    let n = inner_counts g.row.N c.args.plane c.inner_block-piece.result c.loop-at.at c.min-count.result c.args.source.now (length c.args.target.now) c.requires.can c.requires.rows (omega arith) (omega arith) c.inner_block-piece.ensures in
    omega (arith, n.1)
