use Rattle.std.proofs.Common.{◌+◌, length, refl, ap, sym, ◌∙◌, arith, length-append}
use Rattle.std.proofs.lemmas.List.{drop_more}
use Rattle.std.proofs.lemmas.Option.{slice_get-get_or}
use Rattle.cu_op.specs.declared.kernel.Instr.TheVariants.{Load}
use Rattle.cu_kern.specs.Rows.{loads_along}
use Rattle.cu_kern.proofs.RowSteps.{begin_rows, next_rows}
use Rattle.cu_kern.proofs.by_rows.leave_rows.Goals as goal

pub loop-number-init : goal.loop-number-init
loop-number-init c = record {
  same_length = refl;
  short = omega arith;
  stand = λ k h. begin_rows c.args.kernel.code.now c.args.kernel.rows.now c.args.bank.now
      (loads_along c.args.kernel.inputs.lays.now c.args.kernel.inputs.ins.now c.args.kernel.inputs.dims.now c.args.range.from k) k;
}

pub loop-number-preserved : goal.loop-number-preserved
loop-number-preserved c =
    let number = c.loop-number.number in
    let code = c.args.kernel.code.now in
    let rows = c.args.kernel.rows.now in
    let front = c.split_at_mut-before.result.0.now in
    let back = c.split_at_mut-before.result.1.now in
    let rest = c.leave_row.new.rest in
    let value = c.split_at_mut-before.ensures.value in
    let kept = c.leave_row.auto.rest in
    let all = length-append front rest in
    let whole = ap length value ∙ length-append front back in
    let room = c.in-Some.ensures.room in
    record {
      same_length = length-append front rest ∙ ap (λ n. length front + n) kept ∙ sym (length-append front back) ∙ sym (ap length value) ∙ c.loop-number.invariant.same_length;
      short = omega (arith, c.split_at_mut-before.ensures.front_len);
      stand = λ k h. next_rows code rows c.loop-number.bank front back rest number c.loop-number.filled c.args.range.count c.in-Some.used k _ _
          (loads_along c.args.kernel.inputs.lays.now c.args.kernel.inputs.ins.now c.args.kernel.inputs.dims.now c.args.range.from) value c.split_at_mut-before.ensures.front_len (omega arith)
          (drop_more code number (Load 0) (omega arith)) (slice_get-get_or code number (Load 0) (omega arith)) (slice_get-get_or rows number _ (omega arith)) h (c.loop-number.invariant.stand k h) c.in-Some.ensures.leaves;
    }
