use Rattle.std.proofs.Common.{◌∙◌, ap}
use Rattle.cu_op.specs.declared.operation.Planned.{Planned}
use Rattle.cu_op.proofs.schedule.projected.Goals as goal

pub returns : goal.returns
returns c = ap (λ (o : Planned). o.projected) c.operation.ensures.operation ∙ c.operation.ensures.sound.projections c.args.op c.requires
