-- Which workers a history of a plan's tasks has, how often each task is started at most, and how many
-- calls its starts make at most. This project's own rules.
use Rattle.std.specs.Prelude.{ℕ, ◌+◌, ◌-◌, ◌*◌, ◌<◌, ◌≤◌, ◌==◌, ◌&&◌, not, Bool, List, [], ◌∷◌, All}
use Rattle.std.specs.Prelude.{if◌then◌else◌}
use Rattle.cu_history.specs.declared.entry.Entry.{Entry}
use Rattle.cu_history.specs.History.{is_start, is_failed, count_kind, count_of_task}
use Rattle.cu_op.specs.PlanView.{PlanView}
use Rattle.cu_store.specs.Faults.{Rose}
use Rattle.cu_store.specs.Steps.{Shown}
use Rattle.cu_task.specs.Calls.{calls_of}
use Rattle.cu_table.specs.Numbers.{IsTask}
use Rattle.cu_table.specs.Step.{Settings}
use Rattle.cu_work.specs.Calls.{calls_of_tasks}
use Rattle.cu_work.specs.declared.options.RunOptions.{RunOptions}

-- the calls of each start of a history, where each chunk of its task is called for once
abbrev pub started_calls : PlanView → List Entry → ℕ
started_calls p [] = 0
started_calls p (e ∷ es) =
    (if is_start e.kind then calls_of p e.op e.task else 0) + started_calls p es

-- Beside one call for each of so many keys and those of the tasks that were started there are no
-- more than failed: the count of faults rose by each further call, and by each failure of the
-- history. All keys are counted together.
abbrev pub WithinHistory : ℕ → PlanView → List Entry → Shown → Shown → Type 0
WithinHistory keys p history old new =
    let further = new.calls - (old.calls + keys + started_calls p history) in
    Rose (further + count_kind is_failed history) old.faults new.faults

-- How often a task is started at most, with so many workers, second copies or none, and so many
-- retries: once more than it is tried again, and once more by several workers with second copies.
abbrev pub most_starts : ℕ → Bool → ℕ → ℕ
most_starts workers backups retries =
    retries + 1 + (if not (workers == 1) && backups then 1 else 0)

-- the calls of all tasks that are started so often
abbrev pub most_calls : RunOptions → PlanView → ℕ
most_calls o p = most_starts o.workers o.backups o.retries * calls_of_tasks p

-- Each entry is of a worker whose number is below this one, and no task is started more often.
pub record IsOfWorkers (workers : ℕ) (s : Settings) (history : List Entry) : Type 0 where
  pub numbers : All (λ e. e.worker < workers) history
  pub starts : (op task : ℕ) → IsTask s.plan op task
      → count_of_task is_start op task history ≤ most_starts workers s.backups s.retries
