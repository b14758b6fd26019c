-- A map of which a view makes one of two inputs, slab by slab: by some indices of the first axis of its region. This project's own rules.
use Rattle.std.specs.Prelude.{◌≡◌, ℕ, zero, suc, ◌+◌, ◌-◌, ◌*◌, ◌<◌, ◌≤◌, ◌==◌, ℤ, true, List, [], ◌∷◌, Option, Some, length, take, drop, slice_index, slice_set, if◌then◌else◌}
use Rattle.std.specs.List.{slice_get}
use Rattle.cu_grid.specs.Counts.{IsWithin}
use Rattle.cu_grid.specs.Cover.{covering}
use Rattle.cu_grid.specs.Grid.{IsCoordinate}
use Rattle.cu_kern.specs.declared.lays.Lay.{Lay}
use Rattle.cu_num.specs.Dtype.{size_of}
use Rattle.cu_num.specs.Element.{bytes_at, element_at, element_bytes}
use Rattle.cu_num.specs.declared.layout.Endian.TheVariants.{Little}
use Rattle.cu_num.specs.declared.types.Dtype.{Dtype}
use Rattle.cu_op.specs.Arrays.{type_at}
use Rattle.cu_op.specs.Cells.{task_lo, task_hi}
use Rattle.cu_op.specs.Kernel.{kernel_value}
use Rattle.cu_op.specs.Operation.{target_of}
use Rattle.cu_op.specs.Sound.{Sound}
use Rattle.cu_op.specs.TaskView.{TaskView, task_op, walk_at}
use Rattle.cu_origin.specs.declared.provenance.Provenance.{Provenance}
use Rattle.cu_origin.specs.declared.provenance.Provenance.TheVariants.{From, Const}
use Rattle.cu_shape.specs.Index.{differences, place_of, product, remainders}
use Rattle.cu_store.specs.Held.{Contents}
use Rattle.cu_task.specs.Calls.{IsPullOf}
use Rattle.cu_task.specs.Inputs.{map_code, walk_room, HasKernel}
use Rattle.cu_task.specs.Inside.{StandsInside}
use Rattle.cu_task.specs.OfTask.{held_inputs, made_bytes, walks_from, HasWalk}
use Rattle.cu_task.specs.Straight.{behind_first}
use Rattle.cu_task.specs.ViewJobs.{is_needed_chunk, source_of_chunk, view_of_chunk, view_task_of, HasHull, IsFront, IsSourceChunk, IsViewJob}
use Rattle.cu_task.specs.Views.{ViewTask, bytes_in, is_exact, needs_chunk, origin_in, source_in}
use Rattle.cu_task.specs.declared.slab_jobs.MadeInput.{MadeInput}
use Rattle.cu_task.specs.declared.slab_jobs.NeededChunk.{NeededChunk}
use Rattle.cu_task.specs.declared.slab_jobs.SlabJob.{SlabJob}
use Rattle.cu_task.specs.declared.slab_jobs.SlabSizes.{SlabSizes}
use Rattle.cu_task.specs.declared.views.SourceChunk.{SourceChunk}
use Rattle.cu_task.specs.declared.views.ViewJob.{ViewJob}

-- ---- which maps

-- the task is a map of two inputs
pub record MapsTwo (t : TaskView) : Type 0 where
  pub map : HasKernel (task_op t)
  pub two : length (walks_from t 0) ≡ 2

-- the inner one makes the input at this place where it is read
pub record MapsMade (outer : TaskView) (place : ℕ) (inner : TaskView) : Type 0 where
  pub maps : MapsTwo outer
  pub listed : place < 2
  pub inside : StandsInside outer (walk_at outer place) inner

-- it is a task of this view of these arrays
pub record IsMadeByView (m : MadeInput) : Type 0 where
  pub sound : Sound m.maker.plan
  pub view : IsPullOf (task_op m.maker) m.pull.now m.ins.now
  pub few : length m.ins.now ≤ 8

-- the place of the other input
abbrev pub other_place : ℕ → ℕ
other_place place = 1 - place

-- all that the view needs of its only source lies in this chunk, and exactly the chunks are read that are needed
pub record IsOnlyChunk (chunk : SourceChunk) : Type 0 where
  pub of_source : IsSourceChunk chunk
  pub one : length chunk.job.now.ins.now ≡ 1
  pub exact : is_exact chunk.job.now.pull.now ≡ true
  pub needed : is_needed_chunk chunk ≡ true
  pub only : covering (source_of_chunk chunk).layout.grid.chunk chunk.needed.lo chunk.needed.hi ≡ chunk.coord ∷ []

-- the same of a chunk of a view's task
pub record IsOnlyNeeded (job : ViewJob) (c : NeededChunk) : Type 0 where
  pub view : IsViewJob job
  pub coordinate : IsCoordinate (source_in (view_task_of job) 0).layout.grid c.coord
  pub hull : HasHull (view_task_of job) 0 (Some c.needed)
  pub one : length job.ins.now ≡ 1
  pub exact : is_exact job.pull.now ≡ true
  pub needs : needs_chunk (view_task_of job) 0 c.coord ≡ true
  pub only : covering (source_in (view_task_of job) 0).layout.grid.chunk c.needed.lo c.needed.hi ≡ c.coord ∷ []

-- ---- sizes

-- of the task's region
abbrev pub own_sizes : TaskView → List ℕ
own_sizes t = differences (task_hi t.plan.arrays (task_op t) t.number) (task_lo t.plan.arrays (task_op t) t.number)

abbrev pub made_type : TaskView → Dtype
made_type t = type_at t.plan.arrays (target_of (task_op t))

-- of the input at a place
abbrev pub input_type : TaskView → ℕ → Dtype
input_type t place = type_at t.plan.arrays (walk_at t place).array

abbrev pub input_sizes : TaskView → ℕ → List ℕ
input_sizes t place = differences (walk_at t place).region.hi (walk_at t place).region.lo

-- a region of these sizes in rows, each with all elements of one index of the first axis, and the bytes of a slab of it, in two types
pub record ArePartedSizes (sizes : List ℕ) (view made : ℕ) (s : SlabSizes) : Type 0 where
  pub first : 0 < length sizes
  pub rows : s.rows ≡ slice_index sizes 0
  pub row : s.row ≡ product (behind_first sizes)
  pub some : 0 < s.step
  pub gap : s.gap ≡ s.step * s.row * made
  pub strip : s.strip ≡ s.step * s.row * view

-- in a sound plan neither input is stretched, and the other one's elements have as many bytes as the result's
pub record AreSlabSizes (t : TaskView) (place : ℕ) (s : SlabSizes) : Type 0 where
  pub sound : Sound t.plan
  pub each : (k : ℕ) → k < 2 → input_sizes t k ≡ own_sizes t
  pub bytes : size_of (input_type t (other_place place)) ≡ size_of (made_type t)
  pub parted : ArePartedSizes (own_sizes t) (size_of (input_type t place)) (size_of (made_type t)) s

-- the view of which a chunk is read
abbrev pub task_of_chunk : SourceChunk → TaskView
task_of_chunk chunk = chunk.job.now.task.now

abbrev pub view_task_in : SlabJob → TaskView
view_task_in job = task_of_chunk job.chunk.now

-- the map's result can be made by slabs
pub record IsSlabJob (t : TaskView) (job : SlabJob) : Type 0 where
  pub maps : MapsMade t job.place (view_task_in job)
  pub only : IsOnlyChunk job.chunk.now
  pub front : IsFront job.chunk.now job.front
  pub sizes : AreSlabSizes t job.place job.sizes

-- the bytes that are read of the chunk
abbrev pub front_room : SlabJob → ℕ
front_room job = product job.front.dims * size_of job.front.dtype

-- the memory has room: for the chunk beside what the other input is read in, and for the strip
pub record FitsSlabs (t : TaskView) (job : SlabJob) (room : ℕ) : Type 0 where
  pub chunk : front_room job + job.sizes.gap ≤ walk_room t.plan.arrays (walk_at t job.place) + made_bytes t
  pub strip : front_room job + job.sizes.strip + job.sizes.gap + made_bytes t ≤ room

-- ---- what the view shows

-- the number that comes from there, where the chunk's front has these bytes
abbrev pub number_shown : SourceChunk → List ℕ → Provenance → ℤ
number_shown chunk front (From s i) = element_at Little (source_of_chunk chunk).layout.dtype front (place_of (source_of_chunk chunk).layout.grid.chunk (remainders i (source_of_chunk chunk).layout.grid.chunk))
number_shown chunk front (Const x) = x

abbrev pub view_type : SourceChunk → Dtype
view_type chunk = type_at (view_of_chunk chunk).arrays (view_of_chunk chunk).out

abbrev pub bytes_shown : SourceChunk → List ℕ → List ℕ → List ℕ
bytes_shown chunk front idx = element_bytes Little (view_type chunk) (number_shown chunk front (origin_in (view_of_chunk chunk) idx))

-- a buffer of the view's region has them: the bytes that would have been made of it
abbrev pub IsWholeShown : SourceChunk → List ℕ → List ℕ → Type 0
IsWholeShown chunk front whole = (idx : List ℕ) → IsWithin (view_of_chunk chunk).lo (view_of_chunk chunk).hi idx
    → bytes_in (view_of_chunk chunk) whole idx ≡ bytes_shown chunk front idx

-- the rows of the view's region from one up to before another
abbrev pub slab_lo : ViewTask → ℕ → List ℕ
slab_lo v first = slice_set v.lo 0 (slice_index v.lo 0 + first)

abbrev pub slab_hi : ViewTask → ℕ → List ℕ
slab_hi v end = slice_set v.hi 0 (slice_index v.lo 0 + end)

abbrev pub slab_dims : ViewTask → ℕ → ℕ → List ℕ
slab_dims v first end = slice_set (differences v.hi v.lo) 0 (end - first)

-- and what is shown of them in a strip
abbrev pub IsStrip : SourceChunk → List ℕ → ℕ → ℕ → List ℕ → Type 0
IsStrip chunk front first end strip = (idx : List ℕ) → IsWithin (slab_lo (view_of_chunk chunk) first) (slab_hi (view_of_chunk chunk) end) idx
    → bytes_at (view_type chunk) strip (place_of (slab_dims (view_of_chunk chunk) first end) (differences idx (slab_lo (view_of_chunk chunk) first))) ≡ bytes_shown chunk front idx

-- in a buffer of the view's region whose bytes are those of the front the task's input is what is held
abbrev pub ShowsInput : TaskView → SlabJob → Contents → List ℕ → Type 0
ShowsInput t job held front = (whole : List ℕ) → IsWholeShown job.chunk.now front whole → HasWalk t (held_inputs t held) (walk_at t job.place) whole

-- ---- what the kernel gives

-- where a strip of the input at a place stands in front of a buffer, and so many elements of the other one from a byte on
abbrev pub slab_lay : TaskView → ℕ → ℕ → ℕ → ℕ → Lay
slab_lay t place at count k = record { at = if k == place then 0 else at; dtype = input_type t k; dims = count ∷ [] }

abbrev pub slab_lays : TaskView → ℕ → ℕ → ℕ → List Lay
slab_lays t place at count = slab_lay t place at count 0 ∷ slab_lay t place at count 1 ∷ []

-- what the two inputs have, of which the view makes the one at a place
abbrev pub two_loads : ℕ → ℤ → ℤ → ℕ → Option ℤ
two_loads zero shown other k = slice_get (shown ∷ other ∷ []) k
two_loads (suc place) shown other k = slice_get (other ∷ shown ∷ []) k

-- bytes of a memory, from one on
abbrev pub cut_from : ℕ → ℕ → List ℕ → List ℕ
cut_from size at bytes = take size (drop at bytes)

-- these are those of an element, and it has this value
pub record IsValue (t : Dtype) (value : Option ℤ) (bytes : List ℕ) : Type 0 where
  pub same : value ≡ Some (element_at Little t bytes 0)
  pub spelled : bytes ≡ element_bytes Little t (element_at Little t bytes 0)

-- the map's value at a place of its region, where the view's region is `whole`, and these are the bytes of the other input's element
abbrev pub mapped_value : TaskView → ℕ → List ℕ → ℕ → List ℕ → Option ℤ
mapped_value t place whole p other = kernel_value (map_code (task_op t)) (two_loads place (element_at Little (input_type t place) whole p) (element_at Little (input_type t (other_place place)) other 0))

-- ---- what stands where: the other input's region in front of the result's last bytes, which are past its end

abbrev pub input_start : TaskView → SlabSizes → ℕ → ℕ
input_start t s room = room - s.gap - made_bytes t

-- the bytes of an element of the other input, and of the result
abbrev pub input_bytes_at : TaskView → SlabSizes → List ℕ → ℕ → List ℕ
input_bytes_at t s memory p = cut_from (size_of (made_type t)) (input_start t s (length memory) + p * size_of (made_type t)) memory

abbrev pub result_bytes_at : TaskView → SlabSizes → List ℕ → ℕ → List ℕ
result_bytes_at t s memory p = cut_from (size_of (made_type t)) (input_start t s (length memory) + s.gap + p * size_of (made_type t)) memory

-- the memory has the results from one place up to before another, of what another memory has of the other input
abbrev pub HasSlabResults : TaskView → SlabJob → List ℕ → ℕ → ℕ → List ℕ → List ℕ → Type 0
HasSlabResults t job front from to old new = (whole : List ℕ) → IsWholeShown job.chunk.now front whole → (p : ℕ) → from ≤ p → p < to
    → IsValue (made_type t) (mapped_value t job.place whole p (input_bytes_at t job.sizes old p)) (result_bytes_at t job.sizes new p)
