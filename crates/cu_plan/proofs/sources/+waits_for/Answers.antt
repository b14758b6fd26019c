use Rattle.std.proofs.Common.{◌∙◌, ℕ, ap, sym}
use Rattle.std.specs.List.{list_any}
use Rattle.cu_op.specs.Operation.{reads_of}
use Rattle.cu_op.specs.declared.operation.Planned.{Planned}
use Rattle.cu_plan.proofs.Waiting.{waits_by}
use Rattle.cu_plan.proofs.sources.+waits_for.Goals as goal
use Rattle.cu_plan.specs.Listed.{comes_from}

pub waits_for-loop-array-init : goal.waits_for-loop-array-init
waits_for-loop-array-init t c =
    let p = c.args.plan.now in
    let read = c.as_slice-array-items.ensures.value ∙ c.reads-reads.ensures ∙ ap (λ (o : Planned). reads_of o.op) c.operation.ensures.operation in
    ap (list_any (λ (a : ℕ). comes_from p a c.args.other)) read ∙ sym (waits_by p c.operation.ensures.sound c.args.other c.args.op c.requires)
