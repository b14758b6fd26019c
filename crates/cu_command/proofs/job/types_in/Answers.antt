use Rattle.std.proofs.lemmas.List.Elements.{All-weaker}
use Rattle.cu_expr.specs.Premises.{HasGrid}
use Rattle.cu_expr.specs.declared.inputs.InputInfo.{InputInfo}
use Rattle.cu_command.specs.Stored.{IsArrayLayout}
use Rattle.cu_command.proofs.job.types_in.Goals as goal

pub type_of-requires : goal.type_of-requires
type_of-requires c =
    All-weaker (λ (i : InputInfo). IsArrayLayout i.layout) (λ (i : InputInfo). HasGrid i.layout) (λ i h. record { axes = h.storable.axes; grid = h.storable.grid }) c.args.inputs.now c.requires

pub returns-in-Err-Fault-clause-fault : goal.returns-in-Err-Fault-clause-fault
returns-in-Err-Fault-clause-fault c = (c.in-Err-Fault.fault.place, rw c.in-Err-Fault.field-0-is at c.in-Err-Fault.ensures.answer)
