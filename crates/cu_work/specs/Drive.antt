-- How many tasks a plan has, how often each calls at most, and which chunks end a run of them. This project's own rules.
use Rattle.std.specs.Prelude.{◌≡◌, ◌≢◌, ℕ, ◌<◌, ◌≤◌, List, length, Contains}
use Rattle.cu_store.specs.Steps.{Shown}
use Rattle.cu_op.specs.declared.cells.Cell.{Cell}
use Rattle.cu_op.specs.Arrays.{chunk_room}
use Rattle.cu_op.specs.Cells.{tasks_of}
use Rattle.cu_op.specs.PlanView.{PlanView}
use Rattle.cu_op.specs.Schedule.{op_of, key_of}
use Rattle.cu_op.specs.Within.{fetched_chunks}
use Rattle.cu_region.specs.Steady.{HoldsLength}
use Rattle.cu_run_law.specs.Pieces.{IsInputChunk}
use Rattle.cu_task.specs.Calls.{calls_of}

-- no task of the plan makes more calls than these at one try
abbrev pub IsTaskMost : PlanView → ℕ → Type 0
IsTaskMost p m = (k task : ℕ) → k < length p.ops → task < tasks_of p.arrays (op_of p k) → calls_of p k task ≤ m

-- the key is that of a chunk that a task of the plan reads, which holds `got` bytes and not those of a chunk
abbrev pub IsBadChunk : PlanView → Shown → List ℕ → ℕ → ℕ → Type 0
IsBadChunk p shown key got want = (k : ℕ) × (task : ℕ) × (c : Cell) × (k < length p.ops) × (task < tasks_of p.arrays (op_of p k)) × Contains (fetched_chunks p k task) c
    × (key ≡ key_of p.arrays c) × (want ≡ chunk_room p.arrays c.array) × (got ≢ want) × HoldsLength shown.held key got

-- the key is that of a chunk of an input
abbrev pub IsInputKey : PlanView → List ℕ → Type 0
IsInputKey p key = (c : Cell) × IsInputChunk p.arrays c × (key ≡ key_of p.arrays c)
