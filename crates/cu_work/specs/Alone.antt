-- What a run of a plan's tasks over a yard, by a table, has come to. This project's own rules.
use Rattle.std.specs.Prelude.{◌≡◌, ℕ, ◌+◌, ◌≤◌, Bool, IsTrue, List, [], Some, None, Result, OnOk, IfErr}
use Rattle.cu_store.specs.Faults.{Rose}
use Rattle.cu_store.specs.Yard.{Served, Known, shown_by}
use Rattle.cu_store.specs.Steps.{Shown, Steps}
use Rattle.cu_store.specs.declared.faults.TaskFault.{TaskFault}
use Rattle.cu_store.specs.declared.faults.TaskFault.TheVariants as fault
use Rattle.cu_history.specs.History.{is_failed, count_kind}
use Rattle.cu_op.specs.PlanView.{PlanView}
use Rattle.cu_region.specs.Passes.{IsLaterIn}
use Rattle.cu_task.specs.Serving.{HasSeenOutputs, IsBadOfInput}
use Rattle.cu_task.specs.Task.{TaskChange, IsTaskFault}
use Rattle.cu_task.specs.Calls.{calls_of}
use Rattle.cu_table.specs.declared.state.Ending.TheVariants.{Broken, Halted}
use Rattle.cu_table.specs.Numbers.{IsTask}
use Rattle.cu_table.specs.Machine.{Machine, IsDone, AllDone}
use Rattle.cu_table.specs.Step.{Replays}
use Rattle.cu_table.specs.Table.{TableView}
use Rattle.cu_work.specs.Drive.{IsBadChunk}
use Rattle.cu_work.specs.Starts.{started_calls}
use Rattle.cu_work.specs.declared.outcome.Outcome.{Outcome}
use Rattle.cu_work.specs.declared.outcome.Outcome.TheVariants as outcome

-- What a try of a task came to, from what its pass knew to what it knows: the seen chunks, the step and the cause.
pub record Tried (p : PlanView) (op task : ℕ) (yard : Served) (ks : Known × Known) (r : Result (Unit {0}) TaskFault) : Type 0 where
  pub later : IsLaterIn yard.specs ks.0 ks.1
  pub seen : OnOk r (HasSeenOutputs p op task ks.1.seen)
  pub step : Steps (TaskChange p op task (shown_by ks.0)) 0 (calls_of p op task) (shown_by ks.0) (shown_by ks.1)
  pub cause : IfErr r (IsTaskFault (shown_by ks.0) (shown_by ks.1) p op task)
  pub bad : IfErr r (IsBadOfInput p yard.promise yard.entries)

-- the outcome of a run that this fault ended
abbrev pub halt_outcome : TaskFault → Outcome
halt_outcome (fault.BadChunk key got want) = outcome.BadChunk key got want
halt_outcome f = outcome.Lacked

-- each chunk of each task that is done was seen
abbrev pub HasSeenDone : PlanView → Machine → (List ℕ → Bool) → Type 0
HasSeenDone p m seen = (op task : ℕ) → IsTask p op task → IsDone p m op task → HasSeenOutputs p op task seen

-- The cause of a fault that ended the machine: a chunk that a task reads has another number of bytes than a chunk, and is an input's where the
-- promise is told; or the yard lacks memory.
abbrev pub IsHaltOf : PlanView → Served → Shown → TaskFault → Type 0
IsHaltOf p yard shown fault.Store = ⊥
IsHaltOf p yard shown (fault.BadChunk key got want) = IsBadChunk p shown key got want × IsBadOfInput p yard.promise yard.entries (fault.BadChunk key got want)
IsHaltOf p yard shown fault.NoMemory = IsTrue shown.lacks

-- the outcome is that of the history's deciding event: all tasks are done, one failed for the last time, or one met a fault that isn't tried again
abbrev pub IsDecided : PlanView → Machine → Outcome → Type 0
IsDecided p m outcome.Complete = (m.ended ≡ None) × AllDone p m
IsDecided p m (outcome.Broken op task) = m.ended ≡ Some (Broken op task)
IsDecided p m (outcome.BadChunk key got want) = m.ended ≡ Some (Halted (fault.BadChunk key got want))
IsDecided p m outcome.Lacked = m.ended ≡ Some (Halted fault.NoMemory)

-- From one moment to another tasks were run: of the table only the history and the state changed, and no copy runs; the pass has seen each chunk of
-- each task that is done. Its count of faults has risen by each failure at least, and that of calls by those of each start at most.
pub record HasRun (yard : Served) (first now : TableView) (old new : Known) : Type 0 where
  pub settings : now.settings ≡ first.settings
  pub done : now.done ≡ first.done
  pub legal : Replays now.settings now.done now.history now.state
  pub resting : now.state.copies ≡ []
  pub seen : HasSeenDone first.settings.plan now.state new.seen
  pub later : IsLaterIn yard.specs old new
  pub rose : Rose (count_kind is_failed now.history) old.faults new.faults
  pub calls : new.calls ≤ old.calls + started_calls first.settings.plan now.history
  pub cause : (f : TaskFault) → now.state.ended ≡ Some (Halted f) → IsHaltOf first.settings.plan yard (shown_by new) f
