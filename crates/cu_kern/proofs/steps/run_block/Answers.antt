use Rattle.std.proofs.Common.{◌≡◌, ◌<◌, ◌+◌, ◌-◌, ◌*◌, ◌/◌, length, get_or, refl, ap, sym, ◌∙◌, arith}
use Rattle.std.proofs.lemmas.List.{drop_more, get_or_append_left, length-take-le}
use Rattle.std.proofs.lemmas.List.Edits.{get_or-between, length-between}
use Rattle.std.specs.List.{between}
use Rattle.cu_op.specs.declared.kernel.Instr.TheVariants.{Load}
use Rattle.cu_kern.specs.Lays.{lay_types}
use Rattle.cu_kern.proofs.Parts.{element_count, element_below}
use Rattle.cu_kern.proofs.Running.{block_of, length-lay_types, begin, next_names, next, stepped_of, length-stepped, saved, code_positive}
use Rattle.cu_kern.proofs.steps.run_block.Goals as goal

pub loop-number-init : goal.loop-number-init
loop-number-init c = record {
  same_length = refl;
  running = begin (block_of c.args.code.now c.args.inputs.lays.now c.args.t c.args.inputs.dims.now c.args.inputs.ins.now c.args.from (length c.args.out.now / c.size.result)) c.args.words.now c.requires.kernel;
}

pub run_step-requires-clause-names : goal.run_step-requires-clause-names
run_step-requires-clause-names c =
    next_names (block_of c.args.code.now c.args.inputs.lays.now c.args.t c.args.inputs.dims.now c.args.inputs.ins.now c.args.from (length c.args.out.now / c.size.result)) c.loop-number.words c.split_at_mut-before.result.0.now c.loop-number.number (length c.args.inputs.lays.now) _ c.loop-number.invariant.running
    (drop_more c.args.code.now c.loop-number.number (Load 0) c.loop-number-test.true) (length-lay_types c.args.inputs.lays.now) c.split_at_mut-before.ensures.front_len

pub loop-number-preserved : goal.loop-number-preserved
loop-number-preserved c =
    let number = c.loop-number.number in
    let front = c.split_at_mut-before.result.0.now in
    let back = c.split_at_mut-before.result.1.now in
    let out = c.run_step.new.out in
    let count = length c.args.out.now / c.size.result in
    let (n, bytes, short, within) = c.requires.whole in
    let is : count ≡ n = element_count c.args.t n c.size.result (length c.args.out.now) c.size.ensures bytes in
    let room = c.split_at_mut-before.ensures.back_len in
    let same = c.loop-number.invariant.same_length in
    let part : length out ≡ count = c.run_step.auto.out ∙ length-take-le count back (omega arith) in
    record {
      same_length = length-stepped front back out c.loop-number.words count c.split_at_mut-before.ensures.value part (omega arith) ∙ same;
      running = next (block_of c.args.code.now c.args.inputs.lays.now c.args.t c.args.inputs.dims.now c.args.inputs.ins.now c.args.from (length c.args.out.now / c.size.result)) c.loop-number.words _ front number _ (λ k. get_or out k 0) c.loop-number.invariant.running
          (drop_more c.args.code.now number (Load 0) c.loop-number-test.true)
          (λ k j b. sym (ap (λ ws. get_or ws j 0) c.split_at_mut-before.ensures.value ∙ get_or_append_left front back 0 j (omega arith)))
          (stepped_of front back out c.loop-number.words number count c.split_at_mut-before.ensures.value c.split_at_mut-before.ensures.front_len (omega arith) part)
          (λ k h. c.run_step.ensures k (omega arith));
    }

pub returns : goal.returns
returns c k h =
    let count = length c.args.out.now / c.size.result in
    let (n, bytes, short, within) = c.requires.whole in
    let is : count ≡ n = element_count c.args.t n c.size.result (length c.args.out.now) c.size.ensures bytes in
    let kept = c.lane_save.auto.out in
    let below : k < n = element_below c.args.t k n (length c.args.out.now) bytes (omega arith) in
    let last = 64 * (length c.args.code.now - 1) in
    let fits = c.loop-number.invariant.same_length in
    let some = code_positive c.args.code.now (lay_types c.args.inputs.lays.now) c.args.t c.requires.kernel in
    let room = c.requires.words in
    let xs = between last (last + count) c.loop-number.words in
    let long : length xs ≡ count = length-between c.loop-number.words last (last + count) (omega arith) ∙ omega arith in
    saved (block_of c.args.code.now c.args.inputs.lays.now c.args.t c.args.inputs.dims.now c.args.inputs.ins.now c.args.from (length c.args.out.now / c.size.result)) c.loop-number.words c.lane_save.new.out xs c.loop-number.number k c.loop-number.invariant.running c.loop-number-test.false c.loop-number.auto.number-end (omega arith)
    (get_or-between c.loop-number.words last (last + count) k 0 (omega arith)) (λ x w. c.lane_save.ensures k x (omega arith) w)
