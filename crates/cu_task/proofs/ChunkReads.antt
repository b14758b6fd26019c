-- The parts of a copy's region while the chunks of its source are read.
use Rattle.std.proofs.Common.{◌≡◌, ℕ, ◌*◌, ◌≤◌, List, [], ◌∷◌, length, Contains, Option, refl, sym, ap, ◌∙◌, subst}
use Rattle.std.proofs.lemmas.List.{length-map}
use Rattle.cu_num.specs.Dtype.{size_of}
use Rattle.cu_num.specs.declared.types.Dtype.{Dtype}
use Rattle.cu_shape.specs.Index.{product, quotients, IsInside}
use Rattle.cu_grid.specs.Counts.{IsWithin}
use Rattle.cu_grid.specs.Cover.{Meets, covering}
use Rattle.cu_codec.proofs.Taken.{region_in_array}
use Rattle.cu_store.specs.Held.{Contents}
use Rattle.cu_store.specs.Steps.{Shown}
use Rattle.cu_store.specs.declared.faults.TaskFault.{TaskFault}
use Rattle.cu_op.specs.Arrays.{array_at, no_array}
use Rattle.cu_op.specs.Chunks.{cell}
use Rattle.cu_op.specs.Layout.{IsArray}
use Rattle.cu_op.specs.TaskView.{TaskView}
use Rattle.cu_op.specs.Walks.{walk_cells}
use Rattle.cu_op.specs.declared.layout.ArrayInfo.{ArrayInfo}
use Rattle.cu_op.specs.declared.walks.Walk.{Walk}
use Rattle.cu_region.specs.Calls.{chunks_met}
use Rattle.cu_region.specs.Reading.{bytes_of, key_at, HasChunk, IsChunkKey, IsChunkReadFault}
use Rattle.cu_region.specs.Writing.{AreElements}
use Rattle.cu_region.proofs.StoredReads.{fault_more, meets_own}
use Rattle.cu_task.proofs.ChunkParts.{elements_come, gives_elements, gives_held, held_come, none_come, parts_come, parts_more, ComesSoFar, IsAnElement, IsHeldElement}
use Rattle.cu_task.proofs.CopyByChunks.{made_chunk, part_region}
use Rattle.cu_task.proofs.InputReads.{walk_fault, walk_key}
use Rattle.cu_task.specs.ChunkCopies.{region_chunks, made_info, own_lo, part_lo, part_hi, room_of_parts, ArePartsOfType, HasEachPart, IsChunkCopy, ReadsParts, TakesChunk}
use Rattle.cu_task.specs.Inputs.{IsWalkFault, IsWalkKey}
use Rattle.cu_task.specs.Task.{StillHolds}

module _ (t : TaskView) (w : Walk) (copy : IsChunkCopy t w) where
  abbrev from : ArrayInfo
  from = array_at t.plan.arrays w.array

  pub from_array : IsArray from
  from_array = copy.sound.arrays w.array no_array copy.reads.0

  same_size : size_of (made_info t).layout.dtype ≡ size_of from.layout.dtype
  same_size = ap size_of (sym copy.types)

  -- an index of a part lies in the region that is read, in the array, and in a chunk that is read
  part_within : (coord idx : List ℕ) → Contains (region_chunks t) coord → IsWithin (part_lo t coord) (part_hi t coord) idx → IsWithin w.region.lo w.region.hi idx
  part_within coord idx there within =
      subst (λ (x : List ℕ). IsWithin x w.region.hi idx) (sym copy.lo) (subst (λ (x : List ℕ). IsWithin (own_lo t) x idx) (sym copy.hi) (copy.whole coord (made_chunk t copy.sound coord there) idx within))

  part_inside : (coord idx : List ℕ) → Contains (region_chunks t) coord → IsWithin (part_lo t coord) (part_hi t coord) idx → IsInside from.layout.grid.shape idx
  part_inside coord idx there within = region_in_array from.layout.grid.shape w.region.lo w.region.hi idx copy.reads.1 (part_within coord idx there within)

  pub part_read : (coord idx : List ℕ) → Contains (region_chunks t) coord → IsWithin (part_lo t coord) (part_hi t coord) idx → Meets from.layout.grid w.region.lo w.region.hi (quotients idx from.layout.grid.chunk)
  part_read coord idx there within = meets_own from w.region.lo w.region.hi idx from_array.grid copy.reads.1 (part_within coord idx there within)

  -- at first all chunks are left
  pub none_read : (Q : List ℕ → List ℕ → Type 0) (left : List (List ℕ)) (buf : List ℕ) → ((coord : List ℕ) → Meets from.layout.grid w.region.lo w.region.hi coord → Contains left coord)
      → HasEachPart t (ComesSoFar t from.layout.grid Q left) (region_chunks t) buf
  none_read Q left buf all = none_come t from.layout.grid Q left (region_chunks t) buf (λ c idx there within. all (quotients idx from.layout.grid.chunk) (part_read c idx there within))

  -- one more is read
  pub held_more : (coord : List ℕ) (rest : List (List ℕ)) (held : Contents) (shown : Shown) (old new : List ℕ) → Meets from.layout.grid w.region.lo w.region.hi coord → StillHolds (IsWalkKey t.plan.arrays w) held shown
      → TakesChunk t w coord shown.held old new → HasEachPart t (ComesSoFar t from.layout.grid (IsHeldElement t from held) (coord ∷ rest)) (region_chunks t) old
      → HasEachPart t (ComesSoFar t from.layout.grid (IsHeldElement t from held) rest) (region_chunks t) new
  held_more coord rest held shown old new meets still takes before =
      parts_come t (record { grid = from.layout.grid; coord = coord; bytes = takes.bytes }) (IsHeldElement t from held) rest (region_chunks t) old new
      (λ c there. gives_held t from coord takes.bytes c held still.now same_size
      (still.same (key_at from coord) (walk_key t.plan.arrays w (key_at from coord) from_array.grid copy.reads (coord, meets, refl)))
      (λ idx within. part_inside c idx there within)
      (subst (λ (o : Option Contents). HasChunk from coord o takes.bytes) still.told takes.has))
      takes.taken before

  pub elements_more : (coord : List ℕ) (rest : List (List ℕ)) (held : Option Contents) (old new : List ℕ) → TakesChunk t w coord held old new
      → HasEachPart t (ComesSoFar t from.layout.grid (IsAnElement t) (coord ∷ rest)) (region_chunks t) old → HasEachPart t (ComesSoFar t from.layout.grid (IsAnElement t) rest) (region_chunks t) new
  elements_more coord rest held old new takes before =
      parts_come t (record { grid = from.layout.grid; coord = coord; bytes = takes.bytes }) (IsAnElement t) rest (region_chunks t) old new
      (λ c there. gives_elements t (record { grid = from.layout.grid; coord = coord; bytes = takes.bytes }) c from_array.grid
      (takes.long ∙ ap (λ n. product from.layout.grid.chunk * n) (sym same_size))
      (subst (λ (d : Dtype). AreElements d takes.bytes) copy.types takes.elements)
      (λ idx within. part_inside c idx there within))
      takes.taken before

  -- all are
  pub all_held : (held : Contents) (buf : List ℕ) → room_of_parts t (region_chunks t) ≤ length buf → HasEachPart t (ComesSoFar t from.layout.grid (IsHeldElement t from held) []) (region_chunks t) buf
      → ReadsParts t w held (region_chunks t) buf
  all_held held buf room has = parts_more t _ _ (region_chunks t) buf room (λ c own there long so_far. held_come t from held c own same_size so_far) has

  pub all_elements : (buf : List ℕ) → room_of_parts t (region_chunks t) ≤ length buf → HasEachPart t (ComesSoFar t from.layout.grid (IsAnElement t) []) (region_chunks t) buf
      → ArePartsOfType t (region_chunks t) buf
  all_elements buf room has =
      parts_more t _ _ (region_chunks t) buf room (λ c own there long so_far. elements_come t from.layout.grid c own (part_region t copy.sound c (made_chunk t copy.sound c there).0) long so_far) has

  -- ---- calls and faults

  pub walk_calls : chunks_met from.layout.grid w.region.lo w.region.hi ≡ length (walk_cells t.plan.arrays w)
  walk_calls = sym (length-map (covering from.layout.grid.chunk w.region.lo w.region.hi) (cell w.array))

  pub chunk_key : (coord key : List ℕ) → Meets from.layout.grid w.region.lo w.region.hi coord → key ≡ key_at from coord → IsWalkKey t.plan.arrays w key
  chunk_key coord key meets same = walk_key t.plan.arrays w key from_array.grid copy.reads (coord, meets, same)

  pub chunk_fault : (coord : List ℕ) (old mid new : Shown) (e : TaskFault) → Meets from.layout.grid w.region.lo w.region.hi coord → old.faults ≤ mid.faults
      → IsChunkReadFault mid new (λ key. key ≡ key_at from coord) (bytes_of from.layout) e → IsWalkFault old new t.plan.arrays w e
  chunk_fault coord old mid new e meets count fault =
      walk_fault old new t.plan.arrays w e from_array.grid copy.reads
      (fault_more old mid new (λ key. key ≡ key_at from coord) (IsChunkKey from w.region.lo w.region.hi) (bytes_of from.layout) e count (λ key same. (coord, meets, same)) fault)
