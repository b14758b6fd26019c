-- The tasks of a plan by one number: those of operation 0 in order, then those of operation 1, and
-- so on. This project's own rule.
use Rattle.std.specs.Prelude.{ℕ, ◌+◌, ◌<◌, length, take, sum_by}
use Rattle.cu_op.specs.declared.operation.Planned.{Planned}
use Rattle.cu_op.specs.Cells.{tasks_of}
use Rattle.cu_op.specs.PlanView.{PlanView}
use Rattle.cu_op.specs.Schedule.{op_of}

-- a task of the plan
pub record IsTask (p : PlanView) (op task : ℕ) : Type 0 where
  pub operation : op < length p.ops
  pub number : task < tasks_of p.arrays (op_of p op)

-- how many tasks an operation has, how many those before operation k have, and how many all have
abbrev pub tasks_in : PlanView → Planned → ℕ
tasks_in p o = tasks_of p.arrays o.op

abbrev pub first_task : PlanView → ℕ → ℕ
first_task p k = sum_by (tasks_in p) (take k p.ops)

abbrev pub task_count : PlanView → ℕ
task_count p = sum_by (tasks_in p) p.ops

abbrev pub task_number : PlanView → ℕ → ℕ → ℕ
task_number p op task = first_task p op + task
