use Rattle.std.proofs.Common.{◌≡◌, ℕ, ◌+◌, List, ◌∷◌, [], ◌++◌, ap, sym, ◌∙◌, cond, Bool, append_assoc, arith}
use Rattle.std.specs.Prelude.{not}
use Rattle.std.proofs.lemmas.List.FromFn.{map-range_with_len_more}
use Rattle.cu_table.specs.declared.state.TaskId.{TaskId}
use Rattle.cu_table.specs.Queue.{task_ids}
use Rattle.cu_table.proofs.tasks.push_tasks.Goals as goal

-- one task more of the operation
more : (old ids new : List TaskId) (op task : ℕ) → ids ≡ old ++ task_ids op task → new ≡ ids ++ (record { op = op; task = task }) ∷ [] → new ≡ old ++ task_ids op (task + 1)
more old ids new op task before is =
    is ∙ ap (λ (xs : List TaskId). xs ++ (record { op = op; task = task }) ∷ []) before ∙ append_assoc old (task_ids op task) ((record { op = op; task = task }) ∷ [])
    ∙ ap (λ (xs : List TaskId). old ++ xs) (sym (map-range_with_len_more (λ (t : ℕ). record { op = op; task = t }) 0 task task (omega arith)))

pub loop-task-preserved : goal.loop-task-preserved
loop-task-preserved c =
    more c.args.ids.now.items c.loop-task.ids.items c.push.new.self.items c.args.op c.loop-task.task c.loop-task.invariant
    (c.push.ensures.items ∙ ap (λ (b : Bool). cond b (c.loop-task.ids.items ++ (record { op = c.args.op; task = c.loop-task.task }) ∷ []) c.loop-task.ids.items)
    (c.is_err.ensures.negation ∙ ap not c.if-is_err.false))
