use Rattle.std.proofs.Common.{rules, ◌≡◌, ◌≤◌, ◌*◌, ◌/◌, suc, length, ap, ◌∙◌, arith}
use Rattle.std.proofs.Math.Nat.{mul-le-mul_right, div-mul-le_self}
use Rattle.cu_num.specs.Dtype.{size_of}
use Rattle.cu_kern.proofs.RowSteps.{left_of_computed}
use Rattle.cu_kern.proofs.row_steps.leave_computed.Goals as goal

pub returns : goal.returns
returns c =
    let t = c.args.row.dtype in
    let count = c.args.earlier.range.count in
    let size = c.size-size.result in
    let rest = c.args.rest.now in
    let out = c.row_of_step.new.out in
    let far : count * size ≤ length rest / size * size = mul-le-mul_right size (let l : count ≤ length rest / size = omega arith in l) in
    let all = div-mul-le_self (length rest) size in
    let same : count * size ≡ count * size_of t = ap (λ s. count * s) c.size-size.ensures in
    let long : length out ≡ count * size = c.row_of_step.auto.out ∙ c.split_at_mut-out.ensures.front_len in
    record {
      leaves = left_of_computed c.args.instr c.args.row _ _ count (count * size) out c.row_of_step.new.spare c.requires.computes
          (λ k h. let last : suc k * size_of t ≤ count * size_of t = mul-le-mul_right (size_of t) (let l : suc k ≤ count = omega arith in l) in omega arith)
          (omega arith) (c.if-not-row_of_step.ensures (search rules));
      room = omega arith;
    }
