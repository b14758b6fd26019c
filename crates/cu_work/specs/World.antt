-- The world: the machine, what is held, and the tasks that were ever started, under any schedule of starts, failures, repeats, late
-- writes and stops. This project's own rule.
use Rattle.std.specs.Prelude.{◌≡◌, ◌≢◌, ℕ, Bool, true, false, List, [], ◌∷◌, bytes_eq, length, slice_index_or, Contains, Option, Some, None, if◌then◌else◌}
use Rattle.cu_zarr.specs.Spelling.{spelled}
use Rattle.cu_store.specs.Held.{Contents}
use Rattle.cu_store.specs.Steps.{Shown}
use Rattle.cu_op.specs.Arrays.{layout_at, maker_at}
use Rattle.cu_op.specs.PlanView.{PlanView}
use Rattle.cu_op.specs.Schedule.{op_of, key_of}
use Rattle.cu_op.specs.Elements.{Elements}
use Rattle.cu_op.specs.Value.{rule, stored_inputs}
use Rattle.cu_op.specs.InputCells.{input_cells}
use Rattle.cu_op.specs.Walks.{written_chunks}
use Rattle.cu_op.specs.Within.{with_inlined}
use Rattle.cu_op.specs.declared.cells.Cell.{Cell}
use Rattle.cu_run_law.specs.Left.{IsLeft}
use Rattle.cu_run_law.specs.Pieces.{chunks_alone, Chunk, HoldsPiece, HoldsTask}
use Rattle.cu_history.specs.declared.entry.Entry.{Entry}
use Rattle.cu_history.specs.declared.entry.EventKind.{EventKind}
use Rattle.cu_history.specs.declared.entry.EventKind.TheVariants.{Start, Done}
use Rattle.cu_table.specs.declared.state.TaskId.{TaskId}
use Rattle.cu_table.specs.Numbers.{IsTask, task_count, task_number}
use Rattle.cu_table.specs.Machine.{Machine, IsDone, Runs, opening}
use Rattle.cu_table.specs.Step.{Settings, Step}

pub record World : Type 0 where
  pub machine : Machine
  pub held : Contents
  -- the tasks that were ever started
  pub started : List TaskId

pub data Event : Type 0 where
  -- a step of the machine
  Steps : Entry → Event
  -- a worker that runs this task puts a cell of it
  Puts : ℕ → TaskId → Cell → Event
  -- the same of a task that was ever started
  PutsLate : TaskId → Cell → Event
  -- the run is stopped, and the machine is opened anew with this list of tasks that are done
  Stops : List Bool → Event

-- what a task writes to a cell, from what is held and what is made of it where it is read: the spelling of its operation's elements; none
-- where one of them isn't defined
abbrev pub computed : PlanView → ℕ → Contents → Cell → Option (List ℕ)
computed p op held c = spelled (layout_at p.arrays c.array) (rule (op_of p op) p.arrays (with_inlined p (stored_inputs p.arrays held)) c.array) c.coord

abbrev pub put_at : List ℕ → List ℕ → Contents → Contents
put_at put bytes held key = if bytes_eq key put then Some bytes else held key

-- a cell of the task gets what is computed
abbrev pub PutsCell : PlanView → TaskId → Cell → Contents → Contents → Type 0
PutsCell p t c old new = Contains (written_chunks p.arrays (op_of p t.op) t.task) c
    × ((bytes : List ℕ) × (computed p t.op old c ≡ Some bytes) × (new ≡ put_at (key_of p.arrays c) bytes old))

-- each cell of the task is held
abbrev pub IsStored : PlanView → Contents → ℕ → ℕ → Type 0
IsStored p held op task = (c : Cell) → Contains (written_chunks p.arrays (op_of p op) task) c → (bytes : List ℕ) × (held (key_of p.arrays c) ≡ Some bytes)

-- a list of tasks that are done, whose cells are all held
pub record IsFound (p : PlanView) (held : Contents) (done : List Bool) : Type 0 where
  pub tasks : length done ≡ task_count p
  pub stored : (op task : ℕ) → IsTask p op task → slice_index_or done (task_number p op task) false ≡ true → IsStored p held op task

abbrev pub started_by : EventKind → TaskId → List TaskId → List TaskId
started_by Start t started = t ∷ started
started_by kind t started = started

-- from old, by this event, to new
abbrev pub Happens : Settings → World → Event → World → Type 0
Happens g old (Steps e) new =
    Step g old.machine e new.machine × (e.kind ≡ Done → IsStored g.plan old.held e.op e.task)
    × (new.held ≡ old.held) × (new.started ≡ started_by e.kind (record { op = e.op; task = e.task }) old.started)
Happens g old (Puts worker t c) new =
    Runs old.machine worker t.op t.task × PutsCell g.plan t c old.held new.held × (new.machine ≡ old.machine) × (new.started ≡ old.started)
Happens g old (PutsLate t c) new =
    Contains old.started t × PutsCell g.plan t c old.held new.held × (new.machine ≡ old.machine) × (new.started ≡ old.started)
Happens g old (Stops done) new =
    IsFound g.plan old.held done × (new.machine ≡ opening done) × (new.held ≡ old.held) × (new.started ≡ old.started)

-- one event after another
abbrev pub AllHappen : Settings → World → List Event → World → Type 0
AllHappen g old [] new = new ≡ old
AllHappen g old (e ∷ es) new = (mid : World) × Happens g old e mid × AllHappen g mid es new

abbrev pub first_world : List Bool → Contents → World
first_world done held = record { machine = opening done; held = held; started = [] }

-- a map as a store that shows it, in which nothing is late
abbrev pub still : Contents → Shown
still held = record { held = Some held; late = []; faults = 0; calls = 0; lacks = false }

-- Each cell is absent or has its value, the made chunks that a task ever started reads have theirs, and so have the cells of each task
-- that is done.
pub record IsRight (p : PlanView) (env : Elements) (w : World) : Type 0 where
  pub left : IsLeft (chunks_alone p) env (still w.held)
  pub inputs : (t : TaskId) (c : Cell) → Contains w.started t → Contains (input_cells p t.op t.task) c → maker_at p.arrays c.array ≢ None
      → HoldsPiece (chunks_alone p) env (Chunk c) (still w.held)
  pub done : (op task : ℕ) → IsTask p op task → IsDone p w.machine op task → HoldsTask (chunks_alone p) env op task (still w.held)
