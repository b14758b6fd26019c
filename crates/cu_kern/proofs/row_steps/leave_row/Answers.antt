use Rattle.std.proofs.lemmas.Option.{IfSome_then}
use Rattle.cu_kern.specs.Rows.{rows_before}
use Rattle.cu_kern.proofs.RowSteps.{left_nothing}
use Rattle.cu_kern.proofs.row_steps.leave_row.Goals as goal

pub returns-else-row-clause-leaves : goal.returns-else-row-clause-leaves
returns-else-row-clause-leaves c =
    let earlier = c.args.earlier in
    let inputs = earlier.kernel.inputs in
    let r = rows_before earlier.kernel.code.now earlier.kernel.rows.now earlier.bytes.now earlier.number in
    IfSome_then c.leave_nothing.result c.leave_nothing.ensures.there
    (λ used there. left_nothing c.args.instr c.args.row r inputs.lays.now inputs.ins.now inputs.dims.now earlier.range.from earlier.range.count used c.args.rest.now c.if-row.false there)
