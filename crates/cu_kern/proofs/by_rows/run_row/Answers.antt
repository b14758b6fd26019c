use Rattle.std.proofs.Common.{◌≡◌, ◌≤◌, ◌+◌, ◌-◌, ◌*◌, suc, [], ◌∷◌, length, drop, get_or, ap, ◌∙◌, arith}
use Rattle.std.proofs.lemmas.List.{drop_more, drop_all}
use Rattle.std.proofs.Math.Nat.{mul-le-mul_right}
use Rattle.cu_num.specs.Dtype.{size_of}
use Rattle.cu_op.specs.declared.kernel.Instr.TheVariants.{Load}
use Rattle.cu_kern.specs.Rows.{loads_along}
use Rattle.cu_kern.proofs.RowSteps.{ended_rows}
use Rattle.cu_kern.proofs.by_rows.run_row.Goals as goal

pub returns : goal.returns
returns c met k h =
    let code = c.args.kernel.code.now in
    let last = length code - 1 in
    let some = c.requires.some in
    let ends : drop last code ≡ get_or code last (Load 0) ∷ [] = drop_more code last (Load 0) (omega arith) ∙ ap (λ more. get_or code last (Load 0) ∷ more) (drop_all (last + 1) code (omega arith)) in
    let long : length c.row_of_step.new.out ≡ c.args.range.count * size_of c.args.t = c.row_of_step.auto.out ∙ c.requires.room in
    let far : suc k * size_of c.args.t ≤ c.args.range.count * size_of c.args.t = mul-le-mul_right (size_of c.args.t) (let l : suc k ≤ c.args.range.count = omega arith in l) in
    let begins = c.split_at_mut-before.ensures.front_len in
    ended_rows code c.args.kernel.rows.now c.leave_rows.new.bank c.split_at_mut-before.result.0.now c.split_at_mut-before.result.1.now c.row_of_step.new.out last c.in-Some.filled k (get_or code last (Load 0)) c.args.t
    (loads_along c.args.kernel.inputs.lays.now c.args.kernel.inputs.ins.now c.args.kernel.inputs.dims.now c.args.range.from) c.split_at_mut-before.ensures.value (omega arith) ends (omega arith) (c.in-Some.ensures.stand k h) (c.row_of_step.ensures met)
