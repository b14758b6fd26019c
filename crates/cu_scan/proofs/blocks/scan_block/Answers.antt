use Rattle.std.proofs.Common.{◌≡◌, ◌+◌, ◌*◌, ◌≤◌, suc, length, subst, sym, ◌∙◌, arith}
use Rattle.cu_num.specs.Dtype.{size_of}
use Rattle.cu_pairs.proofs.Parts.{size_positive}
use Rattle.cu_scan.specs.Scanned.{HasSummedRows}
use Rattle.cu_scan.proofs.RowSums.{row_small, rows_reach, rows_first, rows_more}
use Rattle.cu_scan.proofs.blocks.scan_block.Goals as goal

pub overflow_mul-start : goal.overflow_mul-start
overflow_mul-start c =
    let none : (c.args.at * c.args.rows + c.args.rows) * c.args.inner
    ≡ (c.args.at * c.args.rows + c.args.rows) * c.args.inner + 0 = omega arith in
    let small = row_small (c.args.at * c.args.rows + c.args.rows) c.args.inner 0
    (size_of c.args.acc) (length c.args.out.now) c.requires.inner (size_positive c.args.acc)
    (subst (λ k. k * size_of c.args.acc ≤ length c.args.out.now) none c.requires.out) in
    omega arith

pub overflow_add-start : goal.overflow_add-start
overflow_add-start c =
    let none : (c.args.at * c.args.rows + c.args.rows) * c.args.inner
    ≡ (c.args.at * c.args.rows + c.args.rows) * c.args.inner + 0 = omega arith in
    let small = row_small (c.args.at * c.args.rows + c.args.rows) c.args.inner 0
    (size_of c.args.acc) (length c.args.out.now) c.requires.inner (size_positive c.args.acc)
    (subst (λ k. k * size_of c.args.acc ≤ length c.args.out.now) none c.requires.out) in
    let b = c.loop-done-test.true in
    omega arith

pub loop-done-init : goal.loop-done-init
loop-done-init c = record {
  same_length = c.first_row.ensures.same_length;
  summed = rows_first c.args.t c.args.acc c.args.rows c.args.inner c.args.at c.args.input.now c.args.carry.now c.first_row.new.out c.first_row.ensures.adds;
  keeps = c.first_row.ensures.keeps;
}

pub next_row-requires-clause-input : goal.next_row-requires-clause-input
next_row-requires-clause-input c = rows_reach
    (c.args.at * c.args.rows) c.args.rows c.loop-done.done c.args.inner (size_of c.args.t)
    (length c.args.input.now) c.loop-done-test.true c.requires.input

pub next_row-requires-clause-out : goal.next_row-requires-clause-out
next_row-requires-clause-out c =
    rows_reach (c.args.at * c.args.rows) c.args.rows c.loop-done.done c.args.inner
    (size_of c.args.acc) (length c.loop-done.out) c.loop-done-test.true
    (subst (λ n. (c.args.at * c.args.rows + c.args.rows) * c.args.inner * size_of c.args.acc
    ≤ n) (sym c.loop-done.invariant.same_length) c.requires.out)

pub loop-done-preserved : goal.loop-done-preserved
loop-done-preserved c =
    let inv = c.loop-done.invariant in
    let j = c.loop-done.done in
    let new = c.next_row.new.out in
    let next : suc j ≡ j + 1 = omega arith in
    record {
      same_length = c.next_row.ensures.same_length ∙ inv.same_length;
      summed = subst (λ (k : _). HasSummedRows c.args.t c.args.acc c.args.rows c.args.inner c.args.at
          (suc k) c.args.input.now c.args.carry.now new) next
          (rows_more c.args.t c.args.acc c.args.rows c.args.inner c.args.at j c.args.input.now c.args.carry.now c.loop-done.out new c.requires.acc inv.summed c.next_row.ensures.adds c.next_row.ensures.keeps);
      keeps = λ r q less b. c.next_row.ensures.keeps r q (omega arith) b ∙ inv.keeps r q less b;
    }
