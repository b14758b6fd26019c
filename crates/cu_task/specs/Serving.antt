-- What a yard serves for the tasks of a plan, and what a pass has seen of their chunks. This project's own rules.
use Rattle.std.specs.Prelude.{◌≡◌, ◌≢◌, ℕ, Bool, IsTrue, false, List, Contains, Option, Some, None}
use Rattle.cu_store.specs.Held.{Contents}
use Rattle.cu_store.specs.Yard.{is_served, is_made, Served}
use Rattle.cu_store.specs.declared.faults.TaskFault.{TaskFault}
use Rattle.cu_store.specs.declared.faults.TaskFault.TheVariants.{BadChunk}
use Rattle.cu_store.specs.declared.yard.Spec.{Spec}
use Rattle.cu_op.specs.Arrays.{maker_at, chunk_room}
use Rattle.cu_op.specs.Cells.{IsChunk}
use Rattle.cu_op.specs.PlanView.{PlanView}
use Rattle.cu_op.specs.Schedule.{op_of, key_of, cell_value}
use Rattle.cu_op.specs.Sound.{IsCell}
use Rattle.cu_op.specs.Value.{stored_inputs}
use Rattle.cu_op.specs.Walks.{written_chunks}
use Rattle.cu_op.specs.Within.{fetched_chunks}
use Rattle.cu_op.specs.declared.cells.Cell.{Cell}
use Rattle.cu_region.specs.Steady.{HoldsLength}

-- the key is served, and may not be put
abbrev pub IsOnlyRead : List Spec → List ℕ → Type 0
IsOnlyRead specs key = IsTrue (is_served specs key) × (is_made specs key ≡ false)

-- The promise has the value of each chunk that the plan makes, and no other bytes, where the inputs' elements are those of the entries. Both are told, or nothing is wanted.
abbrev pub PromisesValues : PlanView → Option Contents → Option Contents → Type 0
PromisesValues p (Some promise) (Some entries) = (c : Cell) → IsCell p.arrays c.array c.coord → promise (key_of p.arrays c) ≡ cell_value p (stored_inputs p.arrays entries) c
PromisesValues p promise entries = Unit {0}

-- A yard for the tasks of a plan: each chunk that the plan makes has a made key, each chunk of an input a key that is only read, and the promise is of the chunks' values.
pub record ServesPlan (p : PlanView) (yard : Served) : Type 0 where
  pub cells : (c : Cell) → IsCell p.arrays c.array c.coord → IsTrue (is_made yard.specs (key_of p.arrays c))
  pub inputs : (c : Cell) → IsChunk p.arrays c → maker_at p.arrays c.array ≡ None → IsOnlyRead yard.specs (key_of p.arrays c)
  pub values : PromisesValues p yard.promise yard.entries

-- each chunk of a made array that the task reads was seen
abbrev pub HasSeenInputs : PlanView → ℕ → ℕ → (List ℕ → Bool) → Type 0
HasSeenInputs p k task seen = (c : Cell) → Contains (fetched_chunks p k task) c → maker_at p.arrays c.array ≢ None → IsTrue (seen (key_of p.arrays c))

-- and each that it writes
abbrev pub HasSeenOutputs : PlanView → ℕ → ℕ → (List ℕ → Bool) → Type 0
HasSeenOutputs p k task seen = (c : Cell) → Contains (written_chunks p.arrays (op_of p k) task) c → IsTrue (seen (key_of p.arrays c))

-- where the yard tells its promise, a bad chunk is an input's: the key is only read, and holds `got` bytes, which aren't the bytes of a chunk
abbrev pub IsBadOfInput : PlanView → Option Contents → Option Contents → TaskFault → Type 0
IsBadOfInput p (Some promise) entries (BadChunk key got want) = (c : Cell) × IsChunk p.arrays c × (maker_at p.arrays c.array ≡ None) × (key ≡ key_of p.arrays c)
    × (want ≡ chunk_room p.arrays c.array) × (got ≢ want) × HoldsLength entries key got
IsBadOfInput p promise entries e = Unit {0}
