use Rattle.std.proofs.Common.{[], ◌∷◌, ◌*◌, ◌≤◌, length, arith}
use Rattle.std.proofs.Math.Nat.{mul-le-mul_right}
use Rattle.cu_box.proofs.StridedLoops.{none_copied, all_copied, start_of, one_axis}
use Rattle.cu_box.proofs.StridedBlocks.{outer_can, outer_counts, outer_copied}
use Rattle.cu_box.proofs.planes.copy_band.Goals as goal

pub loop-at-init : goal.loop-at-init
loop-at-init g c = record {
  within = omega arith;
  copied = none_copied g.row.N c.args.order c.args.plane.outer (c.args.plane.inner ∷ []) c.args.plane.start c.args.source.now c.args.target.now;
}

pub outer_block-tile-requires : goal.outer_block-tile-requires
outer_block-tile-requires g c =
    start_of g.row.N c.args.plane.outer (c.args.plane.inner ∷ []) c.args.plane.start c.loop-at.at c.args.source.now (length c.args.target.now)
    c.requires.can (one_axis c.args.plane.inner c.requires.some) c.loop-at-test.true (omega arith) (omega arith)

pub copy_tile-requires-clause-can : goal.copy_tile-requires-clause-can
copy_tile-requires-clause-can g c =
    outer_can g.row.N c.args.plane c.outer_block-tile.result c.loop-at.at c.min-count.result c.args.source.now (length c.args.target.now)
    c.requires.can c.requires.some (omega arith) (omega arith) c.outer_block-tile.ensures (length c.loop-at.target) c.loop-at.invariant.copied.same_length

pub loop-at-preserved : goal.loop-at-preserved
loop-at-preserved g c = record {
  within = omega arith;
  copied = outer_copied g.row.N c.args.plane c.outer_block-tile.result c.loop-at.at c.min-count.result c.args.source.now (length c.args.target.now)
      c.requires.can c.requires.some (omega arith) (omega arith) c.outer_block-tile.ensures c.args.order c.args.target.now c.loop-at.target c.copy_tile.new.target c.loop-at.invariant.copied c.copy_tile.ensures;
}

pub returns : goal.returns
returns g c =
    all_copied g.row.N c.args.order c.args.plane.outer (c.args.plane.inner ∷ []) c.args.plane.start c.loop-at.at c.args.source.now c.args.target.now c.loop-at.target (omega arith) c.loop-at.invariant.copied

pub copy_tile-requires-clause-rows : goal.copy_tile-requires-clause-rows
copy_tile-requires-clause-rows g c =
    let n = outer_counts g.row.N c.args.plane c.outer_block-tile.result c.loop-at.at c.min-count.result c.args.source.now (length c.args.target.now) c.requires.can c.requires.some (omega arith) (omega arith) c.outer_block-tile.ensures in
    omega (arith, n.0)

pub copy_tile-requires-clause-few_rows : goal.copy_tile-requires-clause-few_rows
copy_tile-requires-clause-few_rows g c =
    let n = outer_counts g.row.N c.args.plane c.outer_block-tile.result c.loop-at.at c.min-count.result c.args.source.now (length c.args.target.now) c.requires.can c.requires.some (omega arith) (omega arith) c.outer_block-tile.ensures in
    omega (arith, n.0)

pub copy_tile-requires-clause-some : goal.copy_tile-requires-clause-some
copy_tile-requires-clause-some g c =
    let n = outer_counts g.row.N c.args.plane c.outer_block-tile.result c.loop-at.at c.min-count.result c.args.source.now (length c.args.target.now) c.requires.can c.requires.some (omega arith) (omega arith) c.outer_block-tile.ensures in
    let s = c.requires.some in omega (arith, n.1, s)

pub copy_tile-requires-clause-room : goal.copy_tile-requires-clause-room
copy_tile-requires-clause-room g c =
    let n = outer_counts g.row.N c.args.plane c.outer_block-tile.result c.loop-at.at c.min-count.result c.args.source.now (length c.args.target.now) c.requires.can c.requires.some (omega arith) (omega arith) c.outer_block-tile.ensures in
    let low : c.outer_block-tile.result.inner.count ≤ c.args.plane.inner.count = omega (arith, n.1) in
    let all = mul-le-mul_right g.row.N low in
    let few : c.args.plane.inner.count * g.row.N ≤ 4096 = c.requires.few in
    omega (arith, all, few)
