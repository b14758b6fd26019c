-- What each worker of a task table runs. This project's own rule.
use Rattle.std.specs.Prelude.{◌≡◌, ℕ, List, Option, Some, None, slice_index_or}
use Rattle.cu_table.specs.declared.state.TaskId.{TaskId}
use Rattle.cu_table.specs.Own.{running_of}
use Rattle.cu_table.specs.Step.{Replays}
use Rattle.cu_table.specs.Table.{TableView}

abbrev pub task_pair : Option TaskId → Option (ℕ × ℕ)
task_pair None = None
task_pair (Some id) = Some (id.op, id.task)

-- the list has the task of each worker's copy, by the worker's number
pub record IsTurns (t : TableView) (listed : List (Option TaskId)) : Type 0 where
  pub legal : Replays t.settings t.done t.history t.state
  pub running : (worker : ℕ) → running_of t.state.copies worker ≡ task_pair (slice_index_or listed worker None)
