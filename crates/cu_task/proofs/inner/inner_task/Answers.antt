use Rattle.cu_op.specs.Chunks.{walk}
use Rattle.cu_op.specs.Schedule.{op_of}
use Rattle.cu_op.specs.TaskView.{walk_at}
use Rattle.cu_op.specs.Walks.{input_walks}
use Rattle.cu_task.proofs.Standing.{stands_inside}
use Rattle.std.proofs.Common.{[], Option, None, Some}
use Rattle.std.proofs.lemmas.List.Elements.{All-contains_itself}
use Rattle.std.specs.Prelude.{IfSome}
use Rattle.cu_task.proofs.inner.inner_task.Goals as goal

on_some : {T : Type 0} {P Q : T → Type 0} (o : Option T) → ((x : T) → P x → Q x) → IfSome o P → IfSome o Q
on_some None more h = tt
on_some (Some x) more h = more x h

pub returns-clause-made : goal.returns-clause-made
returns-clause-made c =
    let task = c.args.task.now in
    let listed = All-contains_itself (input_walks task.plan.arrays (op_of task.plan task.op) task.number) c.args.place (walk 0 [] []) c.requires in
    on_some c.inner.result (λ t stands. stands_inside task t (walk_at task c.args.place) c.inner.ensures.sound listed stands) c.inner.ensures.made
