-- A task of a copy that goes by chunks: what it reads, the values that its parts spell, and the puts of its chunks.
use Rattle.std.proofs.Common.{◌≡◌, inl, inr, ℕ, suc, ◌+◌, ◌*◌, ◌^◌, ◌<◌, ◌≤◌, List, [], ◌∷◌, length, All, Contains, Some, refl, sym, ap, ◌∙◌, subst, arith}
use Rattle.std.specs.Prelude.{sum_by}
use Rattle.std.proofs.lemmas.List.{length-map}
use Rattle.std.proofs.lemmas.List.Sums.{sum_by-cons}
use Rattle.cu_num.specs.Dtype.{size_of}
use Rattle.cu_grid.specs.Counts.{chunk_lo, chunk_hi, IsRegion}
use Rattle.cu_grid.specs.Cover.{Meets, covering}
use Rattle.cu_grid.specs.Grid.{RegularGrid, IsCoordinate, IsInChunk}
use Rattle.cu_grid.proofs.Meeting.{exact_of}
use Rattle.cu_grid.proofs.Regions.{coordinate-length, region_inside}
use Rattle.cu_shape.specs.Index.{product, differences}
use Rattle.cu_store.specs.Held.{Contents, Holds, IsAmong}
use Rattle.cu_store.specs.Steps.{Shown, Steps, Within}
use Rattle.cu_store.proofs.Steps.{steps_same, steps_then, steps_wider}
use Rattle.cu_op.specs.Arrays.{no_array, array_at, grid_at, type_at, layout_at}
use Rattle.cu_op.specs.Chunks.{cell, walk}
use Rattle.cu_op.specs.Elements.{Elements}
use Rattle.cu_op.specs.Schedule.{key_of, cell_value}
use Rattle.cu_op.specs.Sound.{Sound}
use Rattle.cu_op.specs.TaskView.{TaskView, task_op, walk_at}
use Rattle.cu_op.specs.Value.{plan_value, stored_inputs}
use Rattle.cu_op.specs.Walks.{written_chunks, IsWalkOver}
use Rattle.cu_op.specs.Within.{with_inlined}
use Rattle.cu_op.specs.declared.cells.Cell.{Cell}
use Rattle.cu_op.specs.declared.layout.ArrayInfo.{ArrayInfo}
use Rattle.cu_op.specs.declared.walks.Walk.{Walk}
use Rattle.cu_op.proofs.Spellings.{spelled_alike}
use Rattle.cu_op.proofs.CellsOfTasks.{coordinates_small}
use Rattle.cu_op.proofs.TaskCells.{fit_of, ready_rule, region_lengths}
use Rattle.cu_op.specs.Layout.{IsArray}
use Rattle.cu_op.proofs.Values.{inlined_kept}
use Rattle.cu_region.specs.Calls.{chunks_met, region_tally, Made}
use Rattle.cu_region.specs.Reading.{bytes_of, key_at, ReadsRegion}
use Rattle.cu_region.specs.Writing.{buffer_element, chunk_value, HasWholeChunks, LateIsOwn, RegionPut, StoresRegion}
use Rattle.cu_region.proofs.SteadyKeys.{first_or_rest}
use Rattle.cu_task.proofs.ChunkParts.{one_covers, parts_for_all, parts_more, HeldSoFar, WritesSoFar}
use Rattle.cu_task.proofs.ChunkRegions.{meets_one, region_small, whole_chunk}
use Rattle.cu_task.proofs.CopyTask.{copy_walk}
use Rattle.cu_task.proofs.Inside.{own_key, read_of, stored_read}
use Rattle.cu_task.proofs.InputReads.{all_made, still_first, walk_tally}
use Rattle.cu_task.proofs.TaskKinds.{of_copy}
use Rattle.cu_task.proofs.TaskRegions.{only_calls, only_tally, scratch_written, target_written, written_in, Written}
use Rattle.cu_task.proofs.TaskSteps.{late_value, only_array, steady_reads, still_holds, written_at}
use Rattle.cu_task.specs.ChunkCopies.{region_chunks, made_info, made_number, own_lo, own_hi, part_lo, part_hi, part_room, room_of_parts, CarriesPart, HasEachPart, HoldsPart, IsChunkCopy, ReadsParts}
use Rattle.cu_task.specs.Inputs.{IsWalkKey}
use Rattle.cu_task.specs.Calls.{weight_in}
use Rattle.cu_task.specs.OfTask.{calls_to_write, scratch_bytes, tally_to_write, ChangeBy, HoldsMade, IsOwnTask, IsReadyFor, MayReadMade}
use Rattle.cu_task.specs.Task.{IsCopy, StillHolds}

self_meets : (g : RegularGrid) (lo hi coord : List ℕ) → Meets g lo hi coord → Meets g (chunk_lo g.chunk coord) (chunk_hi g.shape g.chunk coord) coord
self_meets g lo hi coord (there, (idx, within, own)) = (there, (idx, own, own))

some_index : (g : RegularGrid) (lo hi coord : List ℕ) → Meets g lo hi coord → (idx : List ℕ) × IsInChunk g coord idx
some_index g lo hi coord (there, (idx, within, own)) = (idx, own)

module _ (t : TaskView) (s : Sound t.plan) where
  made : Written t.plan (task_op t) t.number (made_number t)
  made = written_in t.plan s t.op (task_op t) (fit_of t.plan s t.op t.operation) t.number t.within (made_number t) (target_written (task_op t))

  -- the chunks that are made are those that meet the region
  pub made_chunk : (coord : List ℕ) → Contains (region_chunks t) coord → Meets (made_info t).layout.grid (own_lo t) (own_hi t) coord
  made_chunk coord = (exact_of (made_info t).layout.grid (own_lo t) (own_hi t) (region_chunks t) made.grid made.over.1 refl coord).0

  pub chunk_made : (coord : List ℕ) → Meets (made_info t).layout.grid (own_lo t) (own_hi t) coord → Contains (region_chunks t) coord
  chunk_made coord = (exact_of (made_info t).layout.grid (own_lo t) (own_hi t) (region_chunks t) made.grid made.over.1 refl coord).1

  pub part_region : (coord : List ℕ) → IsCoordinate (made_info t).layout.grid coord → IsRegion (made_info t).layout.grid.shape (part_lo t coord) (part_hi t coord)
  part_region coord here = region_inside (made_info t).layout.grid.shape (made_info t).layout.grid.chunk coord made.grid.positive made.grid.ranks here

  -- a part is met by its own chunk alone
  pub one_call : (coord : List ℕ) → Meets (made_info t).layout.grid (own_lo t) (own_hi t) coord → chunks_met (made_info t).layout.grid (part_lo t coord) (part_hi t coord) ≡ 1
  one_call coord m = ap length (one_covers (made_info t).layout.grid coord made.grid m.0 (some_index (made_info t).layout.grid (own_lo t) (own_hi t) coord m))

  pub one_tally : (weight : List ℕ → ℕ) (coord : List ℕ) → Meets (made_info t).layout.grid (own_lo t) (own_hi t) coord
      → region_tally weight (made_info t) (part_lo t coord) (part_hi t coord) ≡ weight (key_at (made_info t) coord)
  one_tally weight coord m =
      let own = ap (sum_by (λ c. weight (key_at (made_info t) c))) (one_covers (made_info t).layout.grid coord made.grid m.0 (some_index (made_info t).layout.grid (own_lo t) (own_hi t) coord m)) in
      let one = sum_by-cons (λ c. weight (key_at (made_info t) c)) coord [] in
      own ∙ one ∙ omega arith

  -- ---- what is copied

  pub chunk_copy : (w : Walk) → IsCopy (task_op t) → w ≡ walk_at t 0 → IsWalkOver t.plan.arrays w → IsChunkCopy t w
  chunk_copy w is at over =
      let copy = (copy_walk t.plan t.op t.number w s t.operation is at).copy in
      record {
        sound = s;
        reads = over;
        makes = made.over;
        shape = copy.shape;
        types = copy.types;
        lo = copy.lo;
        hi = copy.hi;
        whole = made.whole;
      }

  -- a part that has what is held spells the value of its chunk, where the task was ready
  carries_part : (w : Walk) (is : IsCopy (task_op t)) (from : w ≡ walk_at t 0) (start : Shown) (coord own : List ℕ) → Contains (region_chunks t) coord
      → ((env : Elements) (ready : IsReadyFor t env start) → ReadsRegion (array_at t.plan.arrays w.array) (part_lo t coord) (part_hi t coord) (Some ready.held) own)
      → type_at t.plan.arrays w.array ≡ (made_info t).layout.dtype → CarriesPart t start coord own
  carries_part w is from start coord own there reads types env ready =
      let walked = copy_walk t.plan t.op t.number w s t.operation is from in
      let kept = stored_read t.plan s t.op w.array t.operation (read_of t.plan s t.op t.number w walked.listed) (walked.copy.whole w.array) in
      let m = made_chunk coord there in
      spelled_alike (layout_at t.plan.arrays (made_number t)) (buffer_element (made_info t).layout.dtype (part_lo t coord) (part_hi t coord) own) (plan_value t.plan env (made_number t)) coord made.grid m.0
      (λ idx here.
      let held : stored_inputs t.plan.arrays ready.held w.array idx ≡ buffer_element (made_info t).layout.dtype (part_lo t coord) (part_hi t coord) own idx
      = reads env ready idx here ∙ ap (λ d. buffer_element d (part_lo t coord) (part_hi t coord) own idx) types in
      sym held ∙ sym (inlined_kept t.plan (stored_inputs t.plan.arrays ready.held) w.array idx s kept)
      ∙ sym (walked.copy.value (with_inlined t.plan (stored_inputs t.plan.arrays ready.held)) idx)
      ∙ ready_rule t.plan s t.op t.number (made_number t) env ready.held coord idx ready.inputs (record { operation = t.operation; number = t.within; cell = made.written coord m }) here)

  pub carries_parts : (w : Walk) → IsCopy (task_op t) → w ≡ walk_at t 0 → type_at t.plan.arrays w.array ≡ (made_info t).layout.dtype → (start : Shown) (buf : List ℕ) → room_of_parts t (region_chunks t) ≤ length buf
      → ((held : Contents) → StillHolds (IsWalkKey t.plan.arrays w) held start → ReadsParts t w held (region_chunks t) buf) → HasEachPart t (CarriesPart t start) (region_chunks t) buf
  carries_parts w is from types start buf room reads =
      parts_more t (λ c own. (env : Elements) (ready : IsReadyFor t env start) → ReadsRegion (array_at t.plan.arrays w.array) (part_lo t c) (part_hi t c) (Some ready.held) own) (CarriesPart t start) (region_chunks t) buf room
      (λ c own there long has. carries_part w is from start c own there has types)
      (parts_for_all t Elements (λ env c own. (ready : IsReadyFor t env start) → ReadsRegion (array_at t.plan.arrays w.array) (part_lo t c) (part_hi t c) (Some ready.held) own) (region_chunks t) buf
      (λ env. parts_for_all t (IsReadyFor t env start) (λ ready c own. ReadsRegion (array_at t.plan.arrays w.array) (part_lo t c) (part_hi t c) (Some ready.held) own) (region_chunks t) buf
      (λ ready. reads ready.held (still_of env ready))))
    where
      still_of : (env : Elements) (ready : IsReadyFor t env start) → StillHolds (IsWalkKey t.plan.arrays w) ready.held start
      still_of env ready =
          let walked = copy_walk t.plan t.op t.number w s t.operation is from in
          let steady = steady_reads t.plan s t.op t.number t.operation t.within env start ready in
          still_first (IsWalkKey t.plan.arrays w) ready.held start steady.0 (λ key bytes here among. steady.1 key bytes (own_key t.plan s t.op t.number w walked.listed walked.as_is key here) among)

  -- ---- what is written of a part

  module _ (coord own : List ℕ) (m : Meets (made_info t).layout.grid (own_lo t) (own_hi t) coord) where
    its : (other : List ℕ) → Meets (made_info t).layout.grid (part_lo t coord) (part_hi t coord) other → other ≡ coord
    its other n = meets_one (made_info t).layout.grid coord other made.grid m.0 n

    pub puts_part : (start : Shown) → CarriesPart t start coord own → Within (RegionPut (made_info t) (part_lo t coord) (part_hi t coord) own) (ChangeBy t start)
    puts_part start carries key value (bytes, is, (other, n, e, v)) = (
      cell (made_number t) coord,
      bytes,
      made.written coord m,
      e ∙ ap (key_at (made_info t)) (its other n),
      is,
      λ env ready. sym (carries env ready) ∙ ap (chunk_value (made_info t) (part_lo t coord) (part_hi t coord) own) (sym (its other n)) ∙ v,
    )

    pub late_part : IsOwnTask t → (env : Elements) (start mid : Shown) (calls : ℕ) → CarriesPart t start coord own → IsReadyFor t env start → Steps (ChangeBy t start) 0 calls start mid
        → LateIsOwn (made_info t) (part_lo t coord) (part_hi t coord) own mid.late
    late_part stored env start mid calls carries ready step other bytes n among =
        ap (chunk_value (made_info t) (part_lo t coord) (part_hi t coord) own) (its other n) ∙ carries env ready
        ∙ late_value t.plan s t.op t.number t.operation t.within stored env start mid 0 calls (cell (made_number t) coord) bytes ready step (made.written coord m)
        (subst (λ (x : List ℕ). IsAmong mid.late (key_at (made_info t) x) bytes) (its other n) among)

    pub holds_part : (env : Elements) (start new : Shown) → CarriesPart t start coord own → IsReadyFor t env start → StoresRegion (made_info t) (part_lo t coord) (part_hi t coord) own new.held
        → HoldsPart t env new coord
    holds_part env start new carries ready stores =
        let (bytes, value, held) = stores coord (self_meets (made_info t).layout.grid (own_lo t) (own_hi t) coord m) in
        (bytes, sym (carries env ready) ∙ value, held)

  -- ---- the parts that are written, one after another

  pub held_more : IsOwnTask t → (env : Elements) (start mid new : Shown) (calls : ℕ) (coord : List ℕ) (rest : List (List ℕ)) → IsReadyFor t env start → Steps (ChangeBy t start) 0 calls start mid
      → Steps (ChangeBy t start) 0 1 mid new → HoldsPart t env new coord → HeldSoFar t env mid (coord ∷ rest) → HeldSoFar t env new rest
  held_more stored env start mid new calls coord rest ready first step one before other there =
      elim (before other there) [
        | inl left ↦ elim (first_or_rest coord rest other left) [
          | inl here ↦ inr (subst (HoldsPart t env new) (sym here) one)
          | inr later ↦ inl later
        ]
        | inr (bytes, value, held) ↦ inr (
          bytes,
          value,
          still_holds t.plan s t.op t.number t.operation t.within stored env start mid new 0 calls 1 (cell (made_number t) other) bytes ready first step (made.written other (made_chunk other there)) value held,
        )
      ]

  -- all are
  pub made_cell : IsCopy (task_op t) → (c : Cell) → Contains (written_chunks t.plan.arrays (task_op t) t.number) c → (c.array ≡ made_number t) × Contains (region_chunks t) c.coord
  made_cell is c there =
      let copy = of_copy t.plan t.op (task_op t) t.number (fit_of t.plan s t.op t.operation) is in
      let only : c.array ≡ made_number t = only_array t.plan s t.op t.number t.operation t.within (made_number t) copy.writes c there in
      (only, chunk_made c.coord (subst (λ (b : ℕ). Meets (grid_at t.plan.arrays b) (own_lo t) (own_hi t) c.coord) only (written_at t.plan s t.op t.number t.operation t.within c there).1))

  pub holds_all : IsCopy (task_op t) → (env : Elements) (new : Shown) → ((coord : List ℕ) → Contains (region_chunks t) coord → HoldsPart t env new coord) → HoldsMade t env new
  holds_all is env new each c there =
      let (only, of_made) = made_cell is c there in
      let (bytes, value, held) = each c.coord of_made in (
        bytes,
        ap (λ (b : ℕ). cell_value t.plan env (cell b c.coord)) only ∙ value,
        subst (λ (x : List ℕ). Holds new.held x bytes) (ap (λ (b : ℕ). key_of t.plan.arrays (cell b c.coord)) (sym only)) held,
      )

  pub got_all : IsCopy (task_op t) → (K : List ℕ → Type 0) → ((coord : List ℕ) → Contains (region_chunks t) coord → K (key_at (made_info t) coord)) → MayReadMade t K
  got_all is K each c there =
      let (only, of_made) = made_cell is c there in
      subst K (ap (λ (b : ℕ). key_of t.plan.arrays (cell b c.coord)) (sym only)) (each c.coord of_made)

  pub no_writes : (buf : List ℕ) (left : ℕ) (shown : Shown) → left ≡ length (region_chunks t) → WritesSoFar t buf left shown shown
  no_writes buf left shown all = (0, omega (arith, all), omega arith, λ start has. steps_same (ChangeBy t start) shown)

  pub one_write : (buf : List ℕ) (left : ℕ) (old mid new : Shown) → WritesSoFar t buf (suc left) old mid → Made 1 mid.calls new.calls
      → ((start : Shown) → HasEachPart t (CarriesPart t start) (region_chunks t) buf → Steps (ChangeBy t start) 0 1 mid new) → WritesSoFar t buf left old new
  one_write buf left old mid new (calls, count, made_so_far, steps) one step = (
    calls + 1,
    omega (arith, count),
    all_made old.calls mid.calls new.calls calls 1 made_so_far one,
    λ start has. steps_then (steps start has) (step start has),
  )

  pub writes_most : (buf : List ℕ) (left : ℕ) (old new : Shown) (start : Shown) → WritesSoFar t buf left old new → HasEachPart t (CarriesPart t start) (region_chunks t) buf
      → Steps (ChangeBy t start) 0 (length (region_chunks t)) old new
  writes_most buf left old new start (calls, count, made_so_far, steps) has = steps_wider (λ key value own. own) (omega arith) (omega (arith, count)) (steps start has)

  pub writes_made : (buf : List ℕ) (old new : Shown) → WritesSoFar t buf 0 old new → Made (length (region_chunks t)) old.calls new.calls
  writes_made buf old new (calls, count, made_so_far, steps) = let all : calls ≡ length (region_chunks t) = omega (arith, count) in subst (λ (n : ℕ). Made n old.calls new.calls) all made_so_far

  -- the chunks that the task writes are those of the parts
  pub written_calls : IsCopy (task_op t) → calls_to_write t ≡ length (region_chunks t)
  written_calls is =
      let copy = of_copy t.plan t.op (task_op t) t.number (fit_of t.plan s t.op t.operation) is in
      only_calls t.plan.arrays (task_op t) t.number copy.writes
      ∙ length-map (region_chunks t) (cell (made_number t))

  pub written_tally : (weight : List ℕ → ℕ) → IsCopy (task_op t) → region_tally weight (made_info t) (own_lo t) (own_hi t) ≡ tally_to_write weight t
  written_tally weight is =
      let copy = of_copy t.plan t.op (task_op t) t.number (fit_of t.plan s t.op t.operation) is in
      walk_tally weight t.plan.arrays (walk (made_number t) (own_lo t) (own_hi t)) (made_info t) refl
      ∙ sym (only_tally (weight_in weight t.plan.arrays) t.plan.arrays (task_op t) t.number copy.writes)

  -- the sizes of a part
  pub part_ranks : (coord : List ℕ) → IsCoordinate (made_info t).layout.grid coord → length (part_hi t coord) ≡ length (part_lo t coord)
  part_ranks coord here =
      let (low, high) = region_lengths (made_info t).layout.grid.shape (part_lo t coord) (part_hi t coord) (part_region coord here) in
      high ∙ sym low

  pub part_few : (coord : List ℕ) → IsCoordinate (made_info t).layout.grid coord → product (differences (part_hi t coord) (part_lo t coord)) ≤ 2 ^ 56
  part_few coord here =
      let few = region_small (made_info t).layout.grid.shape (made_info t).layout.grid.chunk coord made.grid.ranks (coordinate-length (made_info t).layout.grid coord made.grid here ∙ sym made.grid.ranks) in
      let most = made.grid.chunk_elements in
      omega (arith, few, most)

  -- the array that is made
  pub made_array : IsArray (made_info t)
  made_array = s.arrays (made_number t) no_array made.over.0

  pub made_small : (coord : List ℕ) → IsCoordinate (made_info t).layout.grid coord → All (λ i. i < 1048576) coord
  made_small coord here = coordinates_small t.plan (made_number t) coord s made.over.0 here

  pub scratch_made : (n : ℕ) → scratch_bytes t ≤ n → bytes_of (made_info t).layout ≤ n
  scratch_made n room = let own = scratch_written t.plan.arrays (task_op t) (made_number t) (target_written (task_op t)) in omega (arith, own, room)

  pub part_whole : (coord : List ℕ) → IsCoordinate (made_info t).layout.grid coord → HasWholeChunks (made_info t).layout.grid (part_lo t coord) (part_hi t coord)
  part_whole coord here = whole_chunk (made_info t).layout.grid coord made.grid here

  pub part_met : (coord : List ℕ) → Meets (made_info t).layout.grid (own_lo t) (own_hi t) coord → Meets (made_info t).layout.grid (part_lo t coord) (part_hi t coord) coord
  part_met coord m = self_meets (made_info t).layout.grid (own_lo t) (own_hi t) coord m

  -- the bytes of a part, and the parts, from the array and the regions that the code has
  pub room_here : (i : ArrayInfo) (coord lo hi : List ℕ) → i ≡ made_info t → lo ≡ chunk_lo i.layout.grid.chunk coord → hi ≡ chunk_hi i.layout.grid.shape i.layout.grid.chunk coord
      → product (differences hi lo) * size_of i.layout.dtype ≡ part_room t coord
  room_here i coord lo hi e low high =
      ap (λ (x : List ℕ). product (differences hi x) * size_of i.layout.dtype) low
      ∙ ap (λ (x : List ℕ). product (differences x (chunk_lo i.layout.grid.chunk coord)) * size_of i.layout.dtype) high
      ∙ ap (λ (j : ArrayInfo). product (differences (chunk_hi j.layout.grid.shape j.layout.grid.chunk coord) (chunk_lo j.layout.grid.chunk coord)) * size_of j.layout.dtype) e

  pub all_here : (i : ArrayInfo) (lo hi : List ℕ) → i ≡ made_info t → lo ≡ own_lo t → hi ≡ own_hi t → covering i.layout.grid.chunk lo hi ≡ region_chunks t
  all_here i lo hi e low high =
      ap (λ (j : ArrayInfo). covering j.layout.grid.chunk lo hi) e
      ∙ ap (λ (x : List ℕ). covering (made_info t).layout.grid.chunk x hi) low
      ∙ ap (λ (x : List ℕ). covering (made_info t).layout.grid.chunk (own_lo t) x) high

  pub few_here : (i : ArrayInfo) (coord lo hi : List ℕ) → i ≡ made_info t → IsCoordinate (made_info t).layout.grid coord → lo ≡ chunk_lo i.layout.grid.chunk coord → hi ≡ chunk_hi i.layout.grid.shape i.layout.grid.chunk coord
      → product (differences hi lo) ≤ 2 ^ 56
  few_here i coord lo hi e here low high =
      let same : product (differences hi lo) ≡ product (differences (part_hi t coord) (part_lo t coord))
      = ap (λ (x : List ℕ). product (differences hi x)) low ∙ ap (λ (x : List ℕ). product (differences x (chunk_lo i.layout.grid.chunk coord))) high
      ∙ ap (λ (j : ArrayInfo). product (differences (chunk_hi j.layout.grid.shape j.layout.grid.chunk coord) (chunk_lo j.layout.grid.chunk coord))) e in
      let few = part_few coord here in
      omega (arith, same, few)

  -- the bytes of the first of some parts, and of the others
  pub first_room : (coord : List ℕ) (rest xs : List (List ℕ)) → xs ≡ coord ∷ rest → room_of_parts t xs ≡ part_room t coord + room_of_parts t rest
  first_room coord rest xs e = ap (room_of_parts t) e ∙ sum_by-cons (part_room t) coord rest
