-- What a chunk that was read says of what was held at an earlier moment, and why reading one ends.
use Rattle.std.proofs.Common.{◌≡◌, ℕ, ◌≤◌, List, Option, Some, None, Result, Ok, Err, refl, ap, arith}
use Rattle.std.specs.Prelude.{OnOk}
use Rattle.cu_shape.specs.Index.{quotients}
use Rattle.cu_op.specs.declared.layout.ArrayInfo.{ArrayInfo}
use Rattle.cu_op.specs.declared.layout.Layout.{Layout}
use Rattle.cu_store.specs.Faults.{Rose}
use Rattle.cu_store.specs.Held.{Contents}
use Rattle.cu_store.specs.Steps.{Shown, NoChange}
use Rattle.cu_store.specs.declared.faults.TaskFault.{TaskFault}
use Rattle.cu_store.specs.declared.faults.TaskFault.TheVariants.{Store, BadChunk as BadPart, NoMemory as NoRoom}
use Rattle.cu_region.specs.Reading.{bytes_of, key_at, HasChunk, IsChunkReadFault}
use Rattle.cu_region.specs.Steady.{HoldSame}
use Rattle.cu_region.proofs.SteadyKeys.{hold_same}
use Rattle.cu_command.specs.Chunks.{HasHeldChunk, IsChunkFault, read_end}
use Rattle.cu_command.specs.Seen.{Stepped}
use Rattle.cu_command.specs.declared.status.Status.{Status}
use Rattle.cu_command.specs.declared.status.Status.TheVariants.{BadChunk, DepotFailed, NoMemory}
use Rattle.cu_command.proofs.SeenLemmas.{stepped_then}

-- where its key holds what it held, the chunk is the one that was held
chunk_was : (info : ArrayInfo) (coord buf : List ℕ) (entry now : Option Contents) → HoldSame (λ key. key ≡ key_at info coord) entry now
    → HasChunk info coord now buf → HasChunk info coord entry buf
chunk_was info coord buf None None same has = tt
chunk_was info coord buf (Some entry) (Some now) same has = λ idx inside here.
    let e = same (key_at info (quotients idx info.layout.grid.chunk)) (ap (key_at info) here) in
    rw e at (has idx inside here)
chunk_was info coord buf None (Some now) same has = absurd same
chunk_was info coord buf (Some entry) None same has = absurd same

pub held_chunk : (info : ArrayInfo) (coord buf : List ℕ) (old new : Shown) → Stepped NoChange old new → HasChunk info coord new.held buf → HasHeldChunk info coord old buf
held_chunk info coord buf old new step has entry before steady =
    chunk_was info coord buf entry.held new.held (hold_same (λ key. key ≡ key_at info coord) steady (stepped_then before step).step) has

-- the same of what a later read says
pub held_later : {E : Type 0} → (r : Result Unit E) (info : ArrayInfo) (coord buf : List ℕ) (old now : Shown) → Stepped NoChange old now → OnOk r (HasHeldChunk info coord now buf)
    → OnOk r (HasHeldChunk info coord old buf)
held_later (Ok x) info coord buf old now step has = λ entry before steady. has entry (stepped_then before step) steady
held_later (Err e) info coord buf old now step has = tt

-- what a fault of one read is answered by
pub ended : (old new : Shown) (l : Layout) (key : List ℕ) (e : TaskFault) → IsChunkReadFault old new (λ k. k ≡ key) (bytes_of l) e → IsChunkFault 1 old new l (λ k. k ≡ key) (read_end key e)
ended old new l key Store h = (refl, h)
ended old new l key (BadPart bad got want) h = h
ended old new l key NoRoom h = tt

rose_since : (tries a b c : ℕ) → a ≤ b → Rose tries b c → Rose tries a c
rose_since tries a b c first rose = omega arith

-- why reading ends, of the calls since an earlier moment
pub fault_since : (tries : ℕ) (old mid new : Shown) (l : Layout) (turn : List ℕ → Type 0) (status : Status) → old.faults ≤ mid.faults → IsChunkFault tries mid new l turn status → IsChunkFault tries old new l turn status
fault_since tries old mid new l turn (DepotFailed key) count f = (f.0, rose_since tries old.faults mid.faults new.faults count f.1)
fault_since tries old mid new l turn (BadChunk key got want) count f = f
fault_since tries old mid new l turn NoMemory count f = tt
fault_since tries old mid new l turn status count f = absurd f
