-- What a run of a plan shares of a depot, what it wants of it, and what its tasks have come to. This project's own rules.
use Rattle.std.specs.Prelude.{◌≡◌, ℕ, ◌+◌, ◌*◌, ◌≤◌, zero, suc, min, max, Bool, false, not, List, [], ◌∷◌, ◌++◌, length, map, count_by, replicate, Option, Some, None, is_some, if◌then◌else◌}
use Rattle.cu_store.specs.Faults.{Rose}
use Rattle.cu_store.specs.Held.{Contents, Write}
use Rattle.cu_store.specs.Steps.{Shown}
use Rattle.cu_store.specs.Share.{Lent}
use Rattle.cu_store.specs.Yard.{bytes_under}
use Rattle.cu_store.specs.declared.yard.Spec.{Spec}
use Rattle.cu_grid.specs.Grid.{coordinate_of}
use Rattle.cu_history.specs.History.{is_start, is_failed, count_kind}
use Rattle.cu_op.specs.declared.cells.Cell.{Cell}
use Rattle.cu_op.specs.declared.layout.ArrayInfo.{ArrayInfo}
use Rattle.cu_op.specs.Arrays.{array_at, grid_at, is_inlined, maker_at, chunk_room, array_chunk_count}
use Rattle.cu_op.specs.Chunks.{cell}
use Rattle.cu_op.specs.PlanView.{PlanView}
use Rattle.cu_op.specs.Schedule.{key_of, cell_value}
use Rattle.cu_op.specs.Elements.{Elements}
use Rattle.cu_op.specs.Value.{stored_inputs}
use Rattle.cu_run_law.specs.Left.{IsLeft}
use Rattle.cu_run_law.specs.Pieces.{PlanRun, HoldsTask}
use Rattle.cu_table.specs.Machine.{Machine, IsDone, opening}
use Rattle.cu_table.specs.Numbers.{IsTask, task_count}
use Rattle.cu_table.specs.Step.{Replays}
use Rattle.cu_table.specs.Table.{TableView, undone_among}
use Rattle.cu_work.specs.Alone.{IsDecided}
use Rattle.cu_work.specs.Rooms.{rooms_of}
use Rattle.cu_work.specs.declared.memory.RunMemory.{RunMemory}
use Rattle.cu_work.specs.declared.options.RunOptions.{RunOptions}
use Rattle.cu_work.specs.declared.outcome.Outcome.{Outcome}
use Rattle.cu_work.specs.declared.outcome.Outcome.TheVariants as outcome

-- ---- the keys

-- the first n chunks of array number a, row-major
abbrev pub chunks_below : List ArrayInfo → ℕ → ℕ → List Cell
chunks_below arrays a zero = []
chunks_below arrays a (suc n) = chunks_below arrays a n ++ cell a (coordinate_of (grid_at arrays a) n) ∷ []

-- those of an array that have keys: all, and none where they are made where they are read
abbrev pub stored_chunks : List ArrayInfo → ℕ → List Cell
stored_chunks arrays a = if is_inlined arrays a then [] else chunks_below arrays a (array_chunk_count (array_at arrays a))

-- those of the first n arrays
abbrev pub chunks_of_first : List ArrayInfo → ℕ → List Cell
chunks_of_first arrays zero = []
chunks_of_first arrays (suc n) = chunks_of_first arrays n ++ stored_chunks arrays n

-- those of all arrays of a plan, the inputs included
abbrev pub plan_chunks : PlanView → List Cell
plan_chunks p = chunks_of_first p.arrays (length p.arrays)

-- a chunk's key is served; it may be put where an operation makes its array
abbrev pub spec_of : List ArrayInfo → Cell → Spec
spec_of arrays c = record { key = key_of arrays c; len = chunk_room arrays c.array; made = is_some (maker_at arrays c.array) }

abbrev pub specs_of : PlanView → List Spec
specs_of p = map (spec_of p.arrays) (plan_chunks p)

-- ---- the promise

-- a write of these bytes in front of others, where there are any
abbrev pub with_write : List ℕ → Option (List ℕ) → List Write → List Write
with_write key None writes = writes
with_write key (Some bytes) writes = (key, bytes) ∷ writes

-- what is put of a chunk: its value, where its array is made
abbrev pub put_value : PlanView → Elements → Cell → Option ℕ → Option (List ℕ)
put_value p env c None = None
put_value p env c (Some maker) = cell_value p env c

-- the writes of these chunks' values
abbrev pub writes_of_chunks : PlanView → Elements → List Cell → List Write
writes_of_chunks p env [] = []
writes_of_chunks p env (c ∷ cs) = with_write (key_of p.arrays c) (put_value p env c (maker_at p.arrays c.array)) (writes_of_chunks p env cs)

-- Where the contents are told, each made chunk is promised its value over the inputs that are held. Where they aren't, nothing is promised.
abbrev pub promised_writes : PlanView → Option Contents → List Write
promised_writes p None = []
promised_writes p (Some held) = writes_of_chunks p (stored_inputs p.arrays held) (plan_chunks p)

abbrev pub lent_of : PlanView → Option Contents → Lent
lent_of p held = record { specs = specs_of p; promise = bytes_under (promised_writes p held) }

-- ---- what is wanted of a depot

-- where it tells its contents, the store is left by the plan over the inputs that are held
abbrev pub IsOpenAs : PlanRun → Option Contents → Shown → Type 0
IsOpenAs r None shown = Unit {0}
IsOpenAs r (Some held) shown = IsLeft r (stored_inputs r.plan.arrays held) shown

abbrev pub IsOpen : PlanRun → Shown → Type 0
IsOpen r shown = IsOpenAs r shown.held shown

-- ---- the memory

-- no task is done
abbrev pub none_done : PlanView → List Bool
none_done p = replicate (task_count p) false

-- the table of a run that has not begun, of which these tasks are done
abbrev pub opened_table : PlanView → RunOptions → List Bool → TableView
opened_table p o done = record {
  settings = record { plan = p; retries = o.retries; backups = o.backups };
  done = done;
  history = [];
  state = opening done;
}

-- how many copies of tasks run at the same time at most: one of each task that isn't done, and two with second copies
abbrev pub most_copies : Bool → List Bool → ℕ
most_copies backups done = count_by not done * (if backups then 2 else 1)

-- how many workers such a run has: as many as are wanted, but no more than copies of its tasks, and one if there are none
abbrev pub worker_count : RunOptions → List Bool → ℕ
worker_count o done = min o.workers (max 1 (most_copies o.backups done))

-- the memory for such a run: that of each worker, the keys and the table
pub record IsMemoryFor (p : PlanView) (o : RunOptions) (done : List Bool) (m : RunMemory) : Type 0 where
  pub rooms : m.rooms.items ≡ replicate (worker_count o done) (rooms_of p)
  pub specs : m.specs.items ≡ specs_of p
  pub table : m.table ≡ opened_table p o done

-- ---- what the tasks came to

-- The tasks were run, from one moment of a table and a depot to another: the history is legal and decided as the outcome says, no copy
-- runs, and the depot's count of faults has risen by each failure of the history at least.
pub record HasDriven (first now : TableView) (old new : Shown) (o : Outcome) : Type 0 where
  pub settings : now.settings ≡ first.settings
  pub done : now.done ≡ first.done
  pub legal : Replays now.settings now.done now.history now.state
  pub resting : now.state.copies ≡ []
  pub decided : IsDecided first.settings.plan now.state o
  pub rose : Rose (count_kind is_failed now.history) old.faults new.faults

-- Once all tasks are done they were started as often as they failed and once more each that wasn't done at first; with second
-- copies of tasks at least so often.
abbrev pub AreCounted : TableView → TableView → Type 0
AreCounted first now =
    (count_kind is_failed now.history + undone_among first.state.tasks ≤ count_kind is_start now.history)
    × (first.settings.backups ≡ false → count_kind is_start now.history ≡ count_kind is_failed now.history + undone_among first.state.tasks)

-- each task that is done holds its chunks
abbrev pub HoldsDone : PlanRun → Elements → Machine → Shown → Type 0
HoldsDone r env m shown = (op task : ℕ) → IsTask r.plan op task → IsDone r.plan m op task → HoldsTask r env op task shown

-- a fact of the chunk that ended a run, of a run whose tasks are all done, and of one that lacked memory
abbrev pub IfBadChunk : Outcome → (List ℕ → ℕ → ℕ → Type 0) → Type 0
IfBadChunk (outcome.BadChunk key got want) P = P key got want
IfBadChunk o P = Unit {0}

abbrev pub IfComplete : Outcome → Type 0 → Type 0
IfComplete outcome.Complete P = P
IfComplete o P = Unit {0}

abbrev pub IfLacked : Outcome → Type 0 → Type 0
IfLacked outcome.Lacked P = P
IfLacked o P = Unit {0}
