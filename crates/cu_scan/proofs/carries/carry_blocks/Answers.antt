use Rattle.std.proofs.Common.{◌≡◌, ◌+◌, ◌*◌, ◌≤◌, suc, length, subst, sym, ◌∙◌, arith}
use Rattle.cu_num.specs.Dtype.{size_of}
use Rattle.cu_scan.specs.Scanned.{HasTotals}
use Rattle.cu_scan.proofs.RowSums.{block_reach, given_reach, total_reach, totals_more}
use Rattle.cu_scan.proofs.carries.carry_blocks.Goals as goal

pub carry_block-requires-clause-sums : goal.carry_block-requires-clause-sums
carry_block-requires-clause-sums c =
    block_reach c.loop-at.at c.args.parts.blocks c.args.parts.rows c.args.parts.inner
    (size_of c.args.acc) (length c.args.sums.now) c.loop-at-test.true c.requires.sums

pub carry_block-requires-clause-above : goal.carry_block-requires-clause-above
carry_block-requires-clause-above c = given_reach c.args.acc c.loop-at.at c.args.parts.blocks c.args.parts.inner c.args.above.now c.loop-at-test.true c.requires.above

pub carry_block-requires-clause-out : goal.carry_block-requires-clause-out
carry_block-requires-clause-out c =
    total_reach c.loop-at.at c.args.parts.blocks c.args.parts.inner (size_of c.args.acc)
    (length c.loop-at.out) c.loop-at-test.true
    (subst (λ n. c.args.parts.blocks * c.args.parts.inner * size_of c.args.acc
    ≤ n) (sym c.loop-at.invariant.same_length) c.requires.out)

pub loop-at-preserved : goal.loop-at-preserved
loop-at-preserved c =
    let inv = c.loop-at.invariant in
    let at = c.loop-at.at in
    let p = c.args.parts in
    let new = c.carry_block.new.out in
    let next : suc at ≡ at + 1 = omega arith in
    record {
      same_length = c.carry_block.ensures.same_length ∙ inv.same_length;
      totals = subst (λ (k : _). HasTotals c.args.acc p.rows p.inner k c.args.sums.now c.args.above.now new) next
          (totals_more c.args.acc p.rows p.inner at c.args.sums.now c.args.above.now c.loop-at.out new inv.totals c.carry_block.ensures.keeps c.carry_block.ensures.total);
    }
