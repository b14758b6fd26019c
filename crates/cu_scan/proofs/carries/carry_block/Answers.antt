use Rattle.std.proofs.Common.{◌≡◌, ◌+◌, ◌*◌, ◌≤◌, suc, length, subst, ◌∙◌, arith}
use Rattle.cu_num.specs.Dtype.{size_of}
use Rattle.cu_pairs.proofs.Parts.{size_positive}
use Rattle.cu_scan.specs.Scanned.{HasTotal}
use Rattle.cu_scan.proofs.RowSums.{row_small, row_reach, total_first, total_more}
use Rattle.cu_scan.proofs.carries.carry_block.Goals as goal

pub overflow_mul-at : goal.overflow_mul-at
overflow_mul-at c =
    let none : (c.args.at * c.args.rows + c.args.rows) * c.args.inner
    ≡ (c.args.at * c.args.rows + c.args.rows) * c.args.inner + 0 = omega arith in
    let small = row_small (c.args.at * c.args.rows + c.args.rows) c.args.inner 0
    (size_of c.args.acc) (length c.args.sums.now) c.requires.inner (size_positive c.args.acc)
    (subst (λ k. k * size_of c.args.acc ≤ length c.args.sums.now) none c.requires.sums) in
    omega arith

pub overflow_add-at : goal.overflow_add-at
overflow_add-at c =
    let none : (c.args.at * c.args.rows + c.args.rows) * c.args.inner
    ≡ (c.args.at * c.args.rows + c.args.rows) * c.args.inner + 0 = omega arith in
    let small = row_small (c.args.at * c.args.rows + c.args.rows) c.args.inner 0
    (size_of c.args.acc) (length c.args.sums.now) c.requires.inner (size_positive c.args.acc)
    (subst (λ k. k * size_of c.args.acc ≤ length c.args.sums.now) none c.requires.sums) in
    let b = c.loop-done-test.true in
    omega arith

pub loop-done-init : goal.loop-done-init
loop-done-init c = record {
  same_length = c.start_at.ensures.same_length;
  total = total_first c.args.acc c.args.rows c.args.inner c.args.at c.args.sums.now c.args.above.now c.start_at.new.out c.start_at.ensures.starts;
  keeps = c.start_at.ensures.keeps;
}

pub take_into-requires-clause-sums : goal.take_into-requires-clause-sums
take_into-requires-clause-sums c = row_reach
    (c.args.at * c.args.rows) c.args.rows c.loop-done.done c.args.inner (size_of c.args.acc)
    (length c.args.sums.now) c.loop-done-test.true c.requires.sums

pub loop-done-preserved : goal.loop-done-preserved
loop-done-preserved c =
    let inv = c.loop-done.invariant in
    let j = c.loop-done.done in
    let new = c.take_into.new.out in
    let next : suc j ≡ j + 1 = omega arith in
    record {
      same_length = c.take_into.ensures.same_length ∙ inv.same_length;
      total = subst (λ (k : _). HasTotal c.args.acc c.args.rows c.args.inner c.args.at k c.args.sums.now c.args.above.now new) next
          (total_more c.args.acc c.args.rows c.args.inner c.args.at j c.args.sums.now c.args.above.now c.loop-done.out new c.requires.acc inv.total c.take_into.ensures.adds);
      keeps = λ r q less b. c.take_into.ensures.keeps r q less b ∙ inv.keeps r q less b;
    }
