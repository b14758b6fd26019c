-- How many calls the parts of a run make where each is made once. This project's own rules.
use Rattle.std.specs.Prelude.{ℕ, zero, suc, ◌+◌, length}
use Rattle.cu_op.specs.Cells.{tasks_of}
use Rattle.cu_op.specs.PlanView.{PlanView}
use Rattle.cu_op.specs.Schedule.{op_of}
use Rattle.cu_task.specs.Calls.{calls_of}
use Rattle.cu_work.specs.declared.run.HeldTexts.{HeldTexts}
use Rattle.cu_work.specs.declared.run.HeldTexts.TheVariants.{Neither, Record, Both}

-- f 0 + f 1 + .. + f (n - 1)
abbrev pub sum_of_first : (ℕ → ℕ) → ℕ → ℕ
sum_of_first f zero = 0
sum_of_first f (suc n) = sum_of_first f n + f n

-- those of all tasks of an operation, one for each chunk that a task reads or writes
abbrev pub operation_calls : PlanView → ℕ → ℕ
operation_calls p k = sum_of_first (calls_of p k) (tasks_of p.arrays (op_of p k))

-- those of all tasks of the plan
abbrev pub calls_of_tasks : PlanView → ℕ
calls_of_tasks p = sum_of_first (operation_calls p) (length p.ops)

-- those for the texts that are to be stored, where these are held
abbrev pub missing_texts : HeldTexts → ℕ
missing_texts Neither = 2
missing_texts Record = 1
missing_texts Both = 0
