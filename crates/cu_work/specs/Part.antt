-- Some tasks of one operation of a plan, which a process runs beside others: which they are, what they
-- lack, what they read, and what is put for them. This project's own rules.
use Rattle.std.specs.Prelude.{◌≡◌, ◌≢◌, ℕ, ◌<◌, ◌≤◌, List, length, Contains, Option, Some, None}
use Rattle.cu_store.specs.Held.{Contents, IsHeldIn}
use Rattle.cu_store.specs.Steps.{Shown, Changes}
use Rattle.cu_op.specs.declared.cells.Cell.{Cell}
use Rattle.cu_op.specs.Arrays.{maker_at}
use Rattle.cu_op.specs.Cells.{tasks_of}
use Rattle.cu_op.specs.PlanView.{PlanView}
use Rattle.cu_op.specs.Schedule.{op_of, key_of, cell_value}
use Rattle.cu_op.specs.Elements.{Elements}
use Rattle.cu_op.specs.Walks.{written_chunks}
use Rattle.cu_op.specs.Within.{fetched_chunks}
use Rattle.cu_run_law.specs.Left.{IsLeft}
use Rattle.cu_run_law.specs.Pieces.{chunks_alone}
use Rattle.cu_work.specs.World.{IsStored}
use Rattle.cu_work.specs.declared.part.Part.{Part}

-- the plan has these tasks
pub record IsPartOf (p : PlanView) (q : Part) : Type 0 where
  pub operation : q.op < length p.ops
  pub ordered : q.from ≤ q.to
  pub few : q.to ≤ tasks_of p.arrays (op_of p q.op)

abbrev pub IsInPart : Part → ℕ → Type 0
IsInPart q task = (q.from ≤ task) × (task < q.to)

-- ---- what a task lacks and reads

-- where contents are told, not all chunks that the task writes are held
abbrev pub LacksChunk : PlanView → ℕ → ℕ → Shown → Type 0
LacksChunk p k task shown = (held : Contents) → shown.held ≡ Some held → IsStored p held k task → ⊥

-- the key is that of a chunk which the task reads and an operation makes
abbrev pub IsMadeInput : PlanView → ℕ → ℕ → List ℕ → Type 0
IsMadeInput p k task key = (c : Cell) × Contains (fetched_chunks p k task) c
    × (maker_at p.arrays c.array ≢ None) × (key ≡ key_of p.arrays c)

-- where contents are told, each such chunk is held
abbrev pub HasInputs : PlanView → ℕ → ℕ → Option Contents → Type 0
HasInputs p k task held = (key : List ℕ) → IsMadeInput p k task key → IsHeldIn held key

-- where contents are told, one isn't
abbrev pub LacksInput : PlanView → ℕ → ℕ → Shown → Type 0
LacksInput p k task shown = (held : Contents) → shown.held ≡ Some held
    → (key : List ℕ) × IsMadeInput p k task key × (held key ≡ None)

-- ---- what is put

-- A put on a chunk that the task writes. Where the chunks were left so at a first moment, the bytes are
-- the chunk's value.
abbrev pub TaskPut : PlanView → ℕ → ℕ → Shown → Changes
TaskPut p k task first key value = (c : Cell) × (bytes : List ℕ)
    × Contains (written_chunks p.arrays (op_of p k) task) c × (key ≡ key_of p.arrays c) × (value ≡ Some bytes)
    × ((env : Elements) → IsLeft (chunks_alone p) env first → cell_value p env c ≡ Some bytes)

-- the same for a task of the part that lacked a chunk then
abbrev pub PartPut : PlanView → Part → Shown → Changes
PartPut p q first key value = (task : ℕ) × IsInPart q task × LacksChunk p q.op task first × TaskPut p q.op task first key value
