use Rattle.std.proofs.Common.{rules, ◌≡◌, ℕ, Option, ℤ, sym, subst}
use Rattle.cu_num.specs.Scalar.{result_type1, result_type2}
use Rattle.cu_num.specs.declared.types.Dtype.{Dtype}
use Rattle.cu_op.specs.declared.kernel.Instr.{Instr}
use Rattle.cu_op.specs.declared.kernel.Instr.TheVariants.{One, Two}
use Rattle.cu_kern.specs.Rows.{rows_before, loads_along, Computes}
use Rattle.cu_kern.proofs.row_steps.row_of_step.Goals as goal

pub returns-in-Load : goal.returns-in-Load
returns-in-Load c met =
    let r = rows_before c.args.earlier.kernel.code.now c.args.earlier.kernel.rows.now c.args.earlier.bytes.now c.args.earlier.number in
    let loads : ℕ → ℕ → Option ℤ = loads_along c.args.earlier.kernel.inputs.lays.now c.args.earlier.kernel.inputs.ins.now c.args.earlier.kernel.inputs.dims.now c.args.earlier.range.from in
    let P : Instr → Type 0 = λ i. Computes i c.args.t r loads c.row_of_load.new.out in
    subst P (sym c.in-Load.is) (c.row_of_load.ensures met r)

pub returns-then-eq : goal.returns-then-eq
returns-then-eq c met =
    let r = rows_before c.args.earlier.kernel.code.now c.args.earlier.kernel.rows.now c.args.earlier.bytes.now c.args.earlier.number in
    let loads : ℕ → ℕ → Option ℤ = loads_along c.args.earlier.kernel.inputs.lays.now c.args.earlier.kernel.inputs.ins.now c.args.earlier.kernel.inputs.dims.now c.args.earlier.range.from in
    let P : Instr → Type 0 = λ i. Computes i c.args.t r loads c.row_of_one.new.out in
    let same : result_type1 c.in-One.f c.in-One.s ≡ c.args.t = search rules in
    let Q : Dtype → Type 0 = λ t. Computes (One c.in-One.f c.in-One.s c.in-One.a) t r loads c.row_of_one.new.out in
    subst P (sym c.in-One.is) (subst Q same (c.row_of_one.ensures met))

pub returns-then-eq-2 : goal.returns-then-eq-2
returns-then-eq-2 c met =
    let r = rows_before c.args.earlier.kernel.code.now c.args.earlier.kernel.rows.now c.args.earlier.bytes.now c.args.earlier.number in
    let loads : ℕ → ℕ → Option ℤ = loads_along c.args.earlier.kernel.inputs.lays.now c.args.earlier.kernel.inputs.ins.now c.args.earlier.kernel.inputs.dims.now c.args.earlier.range.from in
    let P : Instr → Type 0 = λ i. Computes i c.args.t r loads c.row_of_two.new.out in
    let same : result_type2 c.in-Two.f c.in-Two.s ≡ c.args.t = search rules in
    let Q : Dtype → Type 0 = λ t. Computes (Two c.in-Two.f c.in-Two.s c.in-Two.a c.in-Two.b) t r loads c.row_of_two.new.out in
    subst P (sym c.in-Two.is) (subst Q same (c.row_of_two.ensures met))

pub returns-in-Select : goal.returns-in-Select
returns-in-Select c met =
    let r = rows_before c.args.earlier.kernel.code.now c.args.earlier.kernel.rows.now c.args.earlier.bytes.now c.args.earlier.number in
    let loads : ℕ → ℕ → Option ℤ = loads_along c.args.earlier.kernel.inputs.lays.now c.args.earlier.kernel.inputs.ins.now c.args.earlier.kernel.inputs.dims.now c.args.earlier.range.from in
    let P : Instr → Type 0 = λ i. Computes i c.args.t r loads c.row_of_select.new.out in
    subst P (sym c.in-Select.is) (c.row_of_select.ensures met)
