-- What is read of a chunk of a stored array. This project's own words.
use Rattle.std.specs.Prelude.{◌≡◌, ◌≢◌, ◌≤◌, ℕ, List, length}
use Rattle.cu_op.specs.declared.layout.ArrayInfo.{ArrayInfo}
use Rattle.cu_op.specs.declared.layout.Layout.{Layout}
use Rattle.cu_region.specs.Reading.{bytes_of, key_at, HasChunk}
use Rattle.cu_region.specs.Steady.{IsSteady, HoldsLength}
use Rattle.cu_store.specs.Faults.{Rose}
use Rattle.cu_store.specs.Steps.{Shown, NoChange}
use Rattle.cu_store.specs.declared.faults.TaskFault.{TaskFault}
use Rattle.cu_store.specs.declared.faults.TaskFault.TheVariants.{Store, BadChunk as BadPart, NoMemory as NoRoom}
use Rattle.cu_command.specs.Seen.{Stepped}
use Rattle.cu_command.specs.Stored.{IsArrayLayout}
use Rattle.cu_command.specs.declared.status.Status.{Status}
use Rattle.cu_command.specs.declared.status.Status.TheVariants.{BadChunk, DepotFailed, NoMemory}

-- an array that is read: keys that are short enough, and a layout of a stored array
pub record IsStoredArray (info : ArrayInfo) : Type 0 where
  pub short : length info.prefix ≤ 45
  pub layout : IsArrayLayout info.layout

-- The buffer has the chunk at this coordinate as it was held at any moment since which only late puts landed, where each that was late
-- then on its key carried what was held there.
abbrev pub HasHeldChunk : ArrayInfo → List ℕ → Shown → List ℕ → Type 0
HasHeldChunk info coord now buf =
    (entry : Shown) → Stepped NoChange entry now → IsSteady (λ key. key ≡ key_at info coord) entry.held entry.late → HasChunk info coord entry.held buf

-- what is answered where reading the chunk under this key ends so
abbrev pub read_end : List ℕ → TaskFault → Status
read_end key Store = DepotFailed key
read_end key (BadPart bad got want) = BadChunk bad got want
read_end key NoRoom = NoMemory

-- why reading a chunk ends after so many tries, where this holds of its key
abbrev pub IsChunkFault : ℕ → Shown → Shown → Layout → (List ℕ → Type 0) → Status → Type 0
IsChunkFault tries old new l turn (DepotFailed key) = turn key × Rose tries old.faults new.faults
IsChunkFault tries old new l turn (BadChunk key got want) = turn key × (want ≡ bytes_of l) × (got ≢ want) × HoldsLength new.held key got
IsChunkFault tries old new l turn NoMemory = Unit {0}
IsChunkFault tries old new l turn status = ⊥
