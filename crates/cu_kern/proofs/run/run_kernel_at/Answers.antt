use Rattle.std.proofs.Common.{◌<◌, ◌+◌, subst, ℕ, List}
use Rattle.cu_op.specs.declared.kernel.Instr.{Instr}
use Rattle.cu_kern.specs.declared.lays.Lay.{Lay}
use Rattle.cu_kern.specs.Lays.{HasValue}
use Rattle.cu_kern.specs.Steps.{value_by_place}
use Rattle.cu_kern.proofs.Parts.{has_value_element}
use Rattle.cu_kern.proofs.run.run_kernel_at.Goals as goal

-- each element has its value
each : (c : goal.After-slice_known-4-1) (k : ℕ) → k < c.args.range.count → HasValue c.args.t c.run_places.new.out k (value_by_place c.args.kernel.now.code.items c.args.lays.now.items c.args.ins.now c.args.dims.now (c.args.range.from + k))
each c k h =
    let p = c.args.range.from + k in
    let P : List Instr → Type 0 = λ code. HasValue c.args.t c.run_places.new.out k (value_by_place code c.as_slice-lays.result.now c.args.ins.now c.args.dims.now p) in
    let Q : List Lay → Type 0 = λ lays. HasValue c.args.t c.run_places.new.out k (value_by_place c.args.kernel.now.code.items lays c.args.ins.now c.args.dims.now p) in
    subst Q c.as_slice-lays.ensures.value (subst P c.as_slice-code.ensures.value (c.run_places.ensures k h))

pub returns-clause-value : goal.returns-clause-value
returns-clause-value c k h = (has_value_element c.args.t c.run_places.new.out k _ (each c k h)).0

pub returns-clause-bytes : goal.returns-clause-bytes
returns-clause-bytes c k h = (has_value_element c.args.t c.run_places.new.out k _ (each c k h)).1
