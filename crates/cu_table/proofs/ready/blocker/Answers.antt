use Rattle.std.proofs.Common.{ℕ, ◌+◌, length, ap, sym, ◌∙◌, subst}
use Rattle.cu_op.specs.PlanView.{PlanView}
use Rattle.cu_table.specs.Queue.{of_tasks, Blocks}
use Rattle.cu_table.proofs.Inputs.{told_ready, told_waits}
use Rattle.cu_table.proofs.ready.blocker.Goals as goal

pub sources_of-requires : goal.sources_of-requires
sources_of-requires c = c.requires.counts.operations ∙ ap (λ (p : PlanView). length p.ops) (sym (c.make.ensures.plan ∙ c.plan.ensures.plan))

pub returns-in-Complete : goal.returns-in-Complete
returns-in-Complete c =
    told_ready c.args.tasks.now c.plan.ensures.sound c.args.states.now c.args.undone.now c.requires.counts c.make.result c.args.id.op c.args.id.task (c.make.ensures.plan ∙ c.plan.ensures.plan)
    c.make.ensures.operation c.make.ensures.number c.requires.task c.requires.states c.in-Complete.ensures

pub returns-in-Awaited : goal.returns-in-Awaited
returns-in-Awaited c =
    subst (λ (n : ℕ). Blocks c.args.tasks.now (of_tasks c.args.states.now) (n + c.in-Awaited.source) c.args.id.op c.args.id.task) (sym c.count.ensures.count)
    (told_waits c.args.tasks.now c.plan.ensures.sound c.args.states.now c.args.undone.now c.requires.counts c.make.result c.args.id.op c.args.id.task (c.make.ensures.plan ∙ c.plan.ensures.plan)
    c.make.ensures.operation c.make.ensures.number c.requires.task c.in-Awaited.source c.in-Awaited.ensures)
