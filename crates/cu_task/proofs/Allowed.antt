-- What a task may put and ask for.
use Rattle.std.proofs.Common.{◌≡◌, ℕ, ◌<◌, List, length, Contains, Option, Some, refl, sym, subst}
use Rattle.cu_store.specs.Steps.{Within}
use Rattle.cu_op.specs.Cells.{regions_of}
use Rattle.cu_op.specs.PlanView.{PlanView}
use Rattle.cu_op.specs.Schedule.{op_of, key_of}
use Rattle.cu_op.specs.Sound.{Sound}
use Rattle.cu_op.specs.Walks.{written_chunks}
use Rattle.cu_op.specs.declared.cells.Cell.{Cell}
use Rattle.cu_store.specs.Chunks.{Allows}
use Rattle.cu_task.specs.Asks.{MayReadRegion}
use Rattle.cu_task.proofs.TaskSteps.{written_at}

-- a chunk of an array that a task writes may be asked for where the array's chunks in its region may
pub got_cell : (p : PlanView) (sound : Sound p) (k task a : ℕ) (K : List ℕ → Type 0) → k < length p.ops → task < regions_of p.arrays (op_of p k) → (c : Cell) → Contains (written_chunks p.arrays (op_of p k) task) c
    → c.array ≡ a → MayReadRegion p k task a K → K (key_of p.arrays c)
got_cell p sound k task a K op below c there same region =
    let meets = (written_at p sound k task op below c there).1 in
    subst (λ (x : ℕ). MayReadRegion p k task x K) (sym same) region (key_of p.arrays c) (c.coord, meets, refl)

-- a wider set of changes
pub allows_within : {V W : List ℕ → Option (List ℕ) → Type 0} {P : List ℕ → List ℕ → Type 0} → Within V W → Allows W P → Allows V P
allows_within within allows key bytes own = allows key bytes (within key (Some bytes) own)
