use Rattle.std.proofs.Common.{◌≡◌, ◌+◌, ◌*◌, ◌≤◌, suc, length, subst, sym, ◌∙◌, arith}
use Rattle.cu_num.specs.Dtype.{size_of}
use Rattle.cu_scan.specs.Scanned.{HasBlocks}
use Rattle.cu_scan.proofs.RowSums.{block_reach, given_reach, blocks_more}
use Rattle.cu_scan.proofs.blocks.scan_blocks.Goals as goal

pub scan_part-requires-clause-input : goal.scan_part-requires-clause-input
scan_part-requires-clause-input c =
    block_reach c.loop-at.at c.args.parts.blocks c.args.parts.rows c.args.parts.inner
    (size_of c.args.t) (length c.args.input.now) c.loop-at-test.true c.requires.input

pub scan_part-requires-clause-carry : goal.scan_part-requires-clause-carry
scan_part-requires-clause-carry c = given_reach c.args.acc c.loop-at.at c.args.parts.blocks c.args.parts.inner c.args.carry.now c.loop-at-test.true c.requires.carry

pub scan_part-requires-clause-out : goal.scan_part-requires-clause-out
scan_part-requires-clause-out c =
    block_reach c.loop-at.at c.args.parts.blocks c.args.parts.rows c.args.parts.inner
    (size_of c.args.acc) (length c.loop-at.out) c.loop-at-test.true
    (subst (λ n. c.args.parts.blocks * c.args.parts.rows * c.args.parts.inner * size_of c.args.acc ≤ n) (sym c.loop-at.invariant.same_length) c.requires.out)

pub loop-at-preserved : goal.loop-at-preserved
loop-at-preserved c =
    let inv = c.loop-at.invariant in
    let at = c.loop-at.at in
    let p = c.args.parts in
    let new = c.scan_part.new.out in
    let next : suc at ≡ at + 1 = omega arith in
    record {
      same_length = c.scan_part.ensures.same_length ∙ inv.same_length;
      summed = subst (λ (k : _). HasBlocks c.args.t c.args.acc p.rows p.inner k c.args.input.now c.args.carry.now new) next
          (blocks_more c.args.t c.args.acc p.rows p.inner at c.args.input.now c.args.carry.now c.loop-at.out new inv.summed c.scan_part.ensures.keeps c.scan_part.ensures.rows);
    }
