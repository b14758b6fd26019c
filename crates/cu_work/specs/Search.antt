-- The tasks of a plan whose chunks are all held, as they are found by asking for each chunk. This project's own rules.
use Rattle.std.specs.Prelude.{◌≡◌, ◌⊎◌, ℕ, ◌*◌, Bool, true, false, IsTrue, List, ◌++◌, length, slice_index_or, All, Some}
use Rattle.cu_store.specs.Held.{Contents, IsHeldIn}
use Rattle.cu_store.specs.Steps.{Shown, NoChange, Steps, OnceEach}
use Rattle.cu_store.specs.declared.faults.DepotFault.TheVariants as depot
use Rattle.cu_op.specs.PlanView.{PlanView}
use Rattle.cu_run_law.specs.Left.{IsTaskBefore}
use Rattle.cu_run_law.specs.Pieces.{chunks_alone}
use Rattle.cu_table.specs.Numbers.{IsTask, task_count, task_number}
use Rattle.cu_work.specs.Ends.{NoneOf, EndsAt}
use Rattle.cu_work.specs.Order.{operation_keys, plan_keys}
use Rattle.cu_work.specs.World.{IsStored}
use Rattle.cu_work.specs.declared.find.FindFault.{FindFault}
use Rattle.cu_work.specs.declared.find.FindFault.TheVariants.{Failed, NoMemory}

-- the list names the task, by its number among all
abbrev pub NamesTask : PlanView → List Bool → ℕ → ℕ → Type 0
NamesTask p done op task = slice_index_or done (task_number p op task) false ≡ true

-- it names each task whose chunks are all held
abbrev pub NamesStored : PlanView → Contents → List Bool → Type 0
NamesStored p held done = (op task : ℕ) → IsTask p op task → IsStored p held op task → NamesTask p done op task

-- Why the search ended: the calls for a key failed, each of them, or the store lacked memory at one, or there was none before the first call.
abbrev pub IsSearchEnd : ℕ → List (List ℕ) → Shown × Shown → FindFault → Type 0
IsSearchEnd tries keys shown (Failed key) = EndsAt NoneOf tries keys shown key depot.Failed
IsSearchEnd tries keys shown NoMemory = (shown.1 ≡ shown.0) ⊎ ((key : List ℕ) × EndsAt NoneOf tries keys shown key depot.NoMemory)

-- ---- on the way

-- the same once the memory is there
abbrev pub IsSearchFault : ℕ → List (List ℕ) → Shown × Shown → FindFault → Type 0
IsSearchFault tries keys shown (Failed key) = EndsAt NoneOf tries keys shown key depot.Failed
IsSearchFault tries keys shown NoMemory = (key : List ℕ) × EndsAt NoneOf tries keys shown key depot.NoMemory

-- Keys were asked for, each at least once and at most `tries` times; beside one call a key there were no
-- more than failed. All are held afterwards where the answer is yes, and it is yes where all were held
-- before.
pub record AreAsked (tries : ℕ) (keys : List (List ℕ)) (old new : Shown) (all : Bool) : Type 0 where
  pub step : Steps NoChange (length keys) (tries * length keys) old new
  pub once : OnceEach (length keys) old new
  pub held : IsTrue all → All (IsHeldIn new.held) keys
  pub found : (held : Contents) → old.held ≡ Some held → All (IsHeldIn old.held) keys → IsTrue all

-- The chunks of the operations before k and of the tasks of operation k before `task` were asked for, and the list names of these tasks those that it is to.
pub record IsSearched (tries : ℕ) (p : PlanView) (k task : ℕ) (shown : Shown × Shown) (done : List Bool) : Type 0 where
  pub tasks : length done ≡ task_count p
  pub step : Steps NoChange (length (plan_keys p k ++ operation_keys p k task)) (tries * length (plan_keys p k ++ operation_keys p k task)) shown.0 shown.1
  pub once : OnceEach (length (plan_keys p k ++ operation_keys p k task)) shown.0 shown.1
  pub stored : (held : Contents) → shown.1.held ≡ Some held → (l other : ℕ) → IsTaskBefore (chunks_alone p) k task l other → NamesTask p done l other → IsStored p held l other
  pub named : (held : Contents) → shown.0.held ≡ Some held → (l other : ℕ) → IsTaskBefore (chunks_alone p) k task l other → IsStored p held l other → NamesTask p done l other
