use Rattle.std.proofs.Common.{◌≡◌, ℕ, ◌+◌, ◌<◌, List, ◌++◌, Bool, false, length, replicate, ap, sym, ◌∙◌, subst}
use Rattle.std.proofs.lemmas.List.{replicate-append-replicate}
use Rattle.cu_op.specs.declared.operation.Planned.{Planned}
use Rattle.cu_op.specs.Cells.{tasks_of}
use Rattle.cu_op.specs.PlanView.{PlanView}
use Rattle.cu_op.specs.Schedule.{op_of}
use Rattle.cu_table.specs.Numbers.{first_task}
use Rattle.cu_table.proofs.Numbers.{first_more}
use Rattle.cu_work.proofs.memory.undone_list.Goals as goal

-- the tasks of one operation more
more : (p : PlanView) (op count : ℕ) (old new : List Bool) → op < length p.ops → old ≡ replicate (first_task p op) false → count ≡ tasks_of p.arrays (op_of p op) → new ≡ old ++ replicate count false
    → new ≡ replicate (first_task p (op + 1)) false
more p op count old new below before many is =
    is ∙ ap (λ (xs : List Bool). xs ++ replicate count false) before ∙ replicate-append-replicate (first_task p op) count false
    ∙ ap (λ (n : ℕ). replicate n false) (ap (λ (n : ℕ). first_task p op + n) many ∙ sym (first_more p op below))

pub loop-op-preserved : goal.loop-op-preserved
loop-op-preserved c =
    more c.args.plan.now c.loop-op.op c.tasks.result c.loop-op.done.items c.push_undone.new.done.items (subst (λ (os : List Planned). c.loop-op.op < length os) c.ops.ensures.ops c.loop-op-test.true) c.loop-op.invariant c.tasks.ensures.tasks
    c.in_ok-push_undone.ensures
