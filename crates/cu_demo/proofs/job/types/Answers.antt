use Rattle.std.proofs.Common.{sym, subst, All}
use Rattle.cu_command.specs.Stored.{IsArrayLayout}
use Rattle.cu_expr.specs.declared.inputs.InputInfo.{InputInfo}
use Rattle.cu_demo.proofs.Computed.{both_storable, only_memory_typing}
use Rattle.cu_demo.proofs.job.types.Goals as goal

pub types_in-requires : goal.types_in-requires
types_in-requires c = subst (All (λ (i : InputInfo). IsArrayLayout i.layout)) (sym c.requires.inputs) (both_storable c.args.size c.requires.some c.requires.few)

pub memory_fault-requires : goal.memory_fault-requires
memory_fault-requires c =
    only_memory_typing c.args.size c.requires.some c.requires.few c.in-Err.fault (rw (c.requires.inputs, c.requires.expr) at c.in-Err.ensures.fault)
