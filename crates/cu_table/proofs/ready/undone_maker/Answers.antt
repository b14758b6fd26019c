use Rattle.std.proofs.Common.{◌≡◌, ℕ, false, None, get_or, refl, ap, sym, ◌∙◌, subst}
use Rattle.cu_op.specs.PlanView.{PlanView}
use Rattle.cu_op.specs.Schedule.{WritesCell}
use Rattle.cu_op.specs.Arrays.{is_inlined, maker_at}
use Rattle.cu_table.specs.Machine.{no_task}
use Rattle.cu_table.specs.Queue.{of_tasks}
use Rattle.cu_table.proofs.Inputs.{cell_input, cell_done}
use Rattle.cu_table.proofs.ready.undone_maker.Goals as goal

pub returns-in-None : goal.returns-in-None
returns-in-None c =
    cell_input c.args.tasks.now c.plan.ensures.sound (of_tasks c.args.states.now) c.args.cell.now
    (subst (λ (r : PlanView). maker_at r.arrays c.args.cell.now.array ≡ None) c.plan.ensures.plan (c.in-None.ensures.input.0 refl))

pub returns-then-states-number : goal.returns-then-states-number
returns-then-states-number c =
    cell_done c.args.tasks.now c.plan.ensures.sound (of_tasks c.args.states.now) c.args.cell.now c.in-Some.op c.in-Some.task
    (subst (λ (r : PlanView). WritesCell r c.in-Some.op c.in-Some.task c.args.cell.now.array c.args.cell.now.coord) c.plan.ensures.plan
    (c.in-Some.ensures.writes (subst (λ (r : PlanView). is_inlined r.arrays c.args.cell.now.array ≡ false) (sym c.plan.ensures.plan) c.requires.stored)))
    (ap (λ (n : ℕ). (get_or c.args.states.now n no_task).done) (sym c.number-number.ensures.number) ∙ c.if-states-number.true)
