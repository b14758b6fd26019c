use Rattle.std.proofs.Common.{[], ◌∷◌, ◌*◌, ◌≤◌, length, arith}
use Rattle.std.proofs.Math.Nat.{mul-le-mul_right}
use Rattle.cu_box.proofs.StridedLoops.{none_copied, all_copied, start_of, one_axis}
use Rattle.cu_box.proofs.StridedBlocks.{inner_can, inner_counts, inner_copied, copied_exchanged, can_exchanged}
use Rattle.cu_box.proofs.planes.copy_bands.Goals as goal

pub loop-at-init : goal.loop-at-init
loop-at-init g c = record {
  within = omega arith;
  copied = none_copied g.row.N c.args.order c.args.plane.inner (c.args.plane.outer ∷ []) c.args.plane.start c.args.source.now c.args.target.now;
}

pub inner_block-band-requires : goal.inner_block-band-requires
inner_block-band-requires g c =
    start_of g.row.N c.args.plane.inner (c.args.plane.outer ∷ []) c.args.plane.start c.loop-at.at c.args.source.now (length c.args.target.now)
    (can_exchanged g.row.N c.args.plane.outer c.args.plane.inner c.args.plane.start c.args.source.now (length c.args.target.now) c.requires.can) (one_axis c.args.plane.outer c.requires.rows) c.loop-at-test.true (omega arith) (omega arith)

pub copy_band-requires-clause-can : goal.copy_band-requires-clause-can
copy_band-requires-clause-can g c =
    inner_can g.row.N c.args.plane c.inner_block-band.result c.loop-at.at c.min-count.result c.args.source.now (length c.args.target.now)
    c.requires.can c.requires.rows (omega arith) (omega arith) c.inner_block-band.ensures (length c.loop-at.target) c.loop-at.invariant.copied.same_length

pub loop-at-preserved : goal.loop-at-preserved
loop-at-preserved g c = record {
  within = omega arith;
  copied = inner_copied g.row.N c.args.plane c.inner_block-band.result c.loop-at.at c.min-count.result c.args.source.now (length c.args.target.now)
      c.requires.can c.requires.rows (omega arith) (omega arith) c.inner_block-band.ensures c.args.order c.args.target.now c.loop-at.target c.copy_band.new.target c.loop-at.invariant.copied c.copy_band.ensures;
}

pub returns : goal.returns
returns g c =
    copied_exchanged g.row.N c.args.order c.args.plane.inner c.args.plane.outer c.args.plane.start c.args.source.now c.args.target.now c.loop-at.target
    (all_copied g.row.N c.args.order c.args.plane.inner (c.args.plane.outer ∷ []) c.args.plane.start c.loop-at.at c.args.source.now c.args.target.now c.loop-at.target (omega arith) c.loop-at.invariant.copied)

pub copy_band-requires-clause-some : goal.copy_band-requires-clause-some
copy_band-requires-clause-some g c =
    let n = inner_counts g.row.N c.args.plane c.inner_block-band.result c.loop-at.at c.min-count.result c.args.source.now (length c.args.target.now) c.requires.can c.requires.rows (omega arith) (omega arith) c.inner_block-band.ensures in
    omega (arith, n.1)

pub copy_band-requires-clause-few : goal.copy_band-requires-clause-few
copy_band-requires-clause-few g c =
    let n = inner_counts g.row.N c.args.plane c.inner_block-band.result c.loop-at.at c.min-count.result c.args.source.now (length c.args.target.now) c.requires.can c.requires.rows (omega arith) (omega arith) c.inner_block-band.ensures in
    let most : c.large_column_length-most.result * g.row.N ≤ 4096 = c.large_column_length-most.ensures.few in
    let low : c.inner_block-band.result.inner.count ≤ c.large_column_length-most.result = omega (arith, n.1) in
    let all = mul-le-mul_right g.row.N low in
    omega (arith, all, most)
