-- What stands inside a task and makes a region that it reads, for the task. This project's own rules.
use Rattle.std.specs.Prelude.{◌≡◌, ℕ, ◌+◌, ◌<◌, ◌≤◌, ◌^◌, List}
use Rattle.cu_op.specs.Arrays.{type_at}
use Rattle.cu_op.specs.Cells.{task_lo, task_hi}
use Rattle.cu_op.specs.Operation.{target_of}
use Rattle.cu_op.specs.TaskView.{TaskView, task_op}
use Rattle.cu_op.specs.declared.walks.Walk.{Walk}
use Rattle.cu_shape.specs.Index.{differences}
use Rattle.cu_store.specs.Held.{Contents}
use Rattle.cu_store.specs.Steps.{Shown}
use Rattle.cu_store.specs.declared.faults.TaskFault.{TaskFault}
use Rattle.cu_task.specs.Inputs.{walk_room}
use Rattle.cu_task.specs.OfTask.{calls_for_walk, calls_to_read, found_bytes, held_inputs, kept_bytes, kernel_words, made_bytes, tally_for_walk, tally_to_read, work_bytes, HasMade, HasWalk, IsOwnFault, IsSure}
use Rattle.cu_task.specs.Task.{IsTaskKey}

-- its result is the region of a walk, it reads nothing that the task doesn't, and it fits into what the task works in
pub record StandsInside (outer : TaskView) (w : Walk) (inner : TaskView) : Type 0 where
  pub before : inner.op < outer.op
  pub typed : type_at inner.plan.arrays (target_of (task_op inner)) ≡ type_at outer.plan.arrays w.array
  pub sizes : differences (task_hi inner.plan.arrays (task_op inner) inner.number) (task_lo inner.plan.arrays (task_op inner) inner.number) ≡ differences w.region.hi w.region.lo
  pub room : made_bytes inner ≡ walk_room outer.plan.arrays w
  pub only : found_bytes inner ≡ 0
  pub small : kept_bytes inner < 2 ^ 64
  pub scratch : kept_bytes inner + work_bytes inner ≤ work_bytes outer
  pub words : kernel_words inner ≤ kernel_words outer
  pub keys : (key : List ℕ) → IsTaskKey inner.plan inner.op inner.number key → IsTaskKey outer.plan outer.op outer.number key
  pub faults : (old new : Shown) (e : TaskFault) → IsOwnFault inner old new e → IsOwnFault outer old new e
  pub calls : calls_to_read inner ≡ calls_for_walk outer w
  pub tally : (weight : List ℕ → ℕ) → tally_to_read weight inner ≡ tally_for_walk weight outer w
  pub sure : IsSure outer → IsSure inner
  pub values : (held : Contents) (buf : List ℕ) → HasMade inner (held_inputs inner held) buf → HasWalk outer (held_inputs outer held) w buf
