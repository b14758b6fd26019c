-- How many tasks of a plan have a chunk that is absent. This project's own rule.
use Rattle.std.specs.Prelude.{ℕ, zero, suc, ◌+◌, Bool, length, is_some, if◌then◌else◌}
use Rattle.std.specs.List.{list_all}
use Rattle.cu_store.specs.Held.{Contents}
use Rattle.cu_op.specs.Cells.{tasks_of}
use Rattle.cu_op.specs.PlanView.{PlanView}
use Rattle.cu_op.specs.Schedule.{op_of, key_of}
use Rattle.cu_op.specs.Walks.{written_chunks}

-- each chunk that the task writes is held
abbrev pub is_stored : PlanView → Contents → ℕ → ℕ → Bool
is_stored p held op task =
    list_all (λ k. is_some (held (key_of p.arrays k))) (written_chunks p.arrays (op_of p op) task)

-- among the first tasks of an operation, and of the first operations, those with an absent chunk
abbrev pub absent_among : PlanView → Contents → ℕ → ℕ → ℕ
absent_among p held op zero = 0
absent_among p held op (suc n) = absent_among p held op n + (if is_stored p held op n then 0 else 1)

abbrev pub absent_before : PlanView → Contents → ℕ → ℕ
absent_before p held zero = 0
absent_before p held (suc k) =
    absent_before p held k + absent_among p held k (tasks_of p.arrays (op_of p k))

-- among all tasks
abbrev pub absent_tasks : PlanView → Contents → ℕ
absent_tasks p held = absent_before p held (length p.ops)
