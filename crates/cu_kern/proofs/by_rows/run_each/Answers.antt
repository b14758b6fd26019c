use Rattle.std.proofs.Common.{rules, ◌≤◌, ◌+◌, ◌*◌, length, ◌∙◌, arith}
use Rattle.cu_kern.specs.Steps.{value_by_place}
use Rattle.cu_kern.proofs.Pieces.{part_within, values_from}
use Rattle.cu_kern.proofs.by_rows.run_each.Goals as goal

-- the part lies in the result
inside : (c : goal.After-rows-1) → (c.loop-done.done * c.size-size.result ≤ (c.loop-done.done + c.min-count.result) * c.size-size.result) × ((c.loop-done.done + c.min-count.result) * c.size-size.result ≤ length c.loop-done.out)
inside c = part_within c.args.t c.loop-done.done c.min-count.result c.args.all.count c.size-size.result (length c.loop-done.out) c.size-size.ensures (omega (arith, c.min-most.ensures, c.min-count.ensures, c.loop-done-test.true)) (c.loop-done.invariant.out_length ∙ c.requires.out)

pub overflow_mul-part : goal.overflow_mul-part
overflow_mul-part c = omega (arith, inside c)

pub overflow_mul-part-in-loop-done : goal.overflow_mul-part-in-loop-done
overflow_mul-part-in-loop-done c = omega (arith, inside c)

pub slice_bounds-part-count : goal.slice_bounds-part-count
slice_bounds-part-count c = omega (arith, inside c)

pub slice_bounds-part-start : goal.slice_bounds-part-start
slice_bounds-part-start c = omega (arith, inside c)

pub slice_bounds-part-end : goal.slice_bounds-part-end
slice_bounds-part-end c = omega (arith, inside c)

pub loop-done-preserved : goal.loop-done-preserved
loop-done-preserved c =
    let inputs = c.args.inputs in
    let done = c.loop-done.done in
    let size = c.size-size.result in
    let count = c.min-count.result in
    let within : done + count ≤ c.args.all.count = omega (arith, c.min-most.ensures, c.min-count.ensures, c.loop-done-test.true) in
    let more = values_from c.args.t c.loop-done.out c.run_row.new.out c.args.all.from done count c.args.all.count size (value_by_place c.args.code.now inputs.lays.now inputs.ins.now inputs.dims.now) c.size-size.ensures within
    (c.loop-done.invariant.out_length ∙ c.requires.out) c.run_row.auto.out c.loop-done.invariant.values (c.if-not-run_row.ensures (search rules)) in
    record {
      within = within;
      out_length = more.0 ∙ c.loop-done.invariant.out_length;
      bank_length = c.run_row.auto.bank ∙ c.loop-done.invariant.bank_length;
      values = more.1;
    }

pub returns : goal.returns
returns c met k h =
    let ends = c.loop-done-test.false in
    c.loop-done.invariant.values k (omega arith)
