-- What is told of an operation by its kind: the route of its tasks, what they read and write, and the rooms of a view and of a copy.
use Rattle.std.specs.Prelude.{slice_index, slice_index_or, sum_by, unwrap_or, IsSome}
use Rattle.std.proofs.Common.{◌≡◌, ◌+◌, ◌*◌, ◌<◌, ◌≤◌, ℕ, suc, true, List, [], ◌∷◌, length, map, All, Contains, Option, Some, None, append-nil, refl, sym, ap, subst, arith, ◌∙◌}
use Rattle.std.proofs.lemmas.List.Elements.{All-contains_itself}
use Rattle.std.proofs.lemmas.List.Sums.{sum_by-cons}
use Rattle.arrayvec.specs.declared.ArrayVec.{ArrayVec}
use Rattle.cu_num.specs.Dtype.{size_of}
use Rattle.cu_num.specs.declared.types.Dtype.{Dtype}
use Rattle.cu_op.proofs.KindLaws.{laws_of, map_by_kernel}
use Rattle.cu_op.proofs.Operations.{Fit}
use Rattle.cu_op.proofs.Results.{not_one}
use Rattle.cu_op.specs.Arrays.{grid_at, type_at}
use Rattle.cu_op.specs.Cells.{task_grid, task_lo, task_hi}
use Rattle.cu_op.specs.Chunks.{walk, whole_walk}
use Rattle.cu_op.specs.Elements.{Elements}
use Rattle.cu_op.specs.Kind.Pull.{origin_at, PullFits, pulled}
use Rattle.cu_op.specs.Operation.{route_of, kernel_of, reads_of, writes_of, target_of, compared_array, value_array, ReadsByChunk}
use Rattle.cu_op.specs.PlanView.{PlanView}
use Rattle.cu_op.specs.Projection.{input_room, instruction_count, output_room}
use Rattle.cu_op.specs.Value.{rule}
use Rattle.cu_op.specs.Walks.{cells_of_walks, input_walks, walk_cells}
use Rattle.cu_op.specs.declared.cells.Cell.{Cell}
use Rattle.cu_op.specs.declared.kernel.Instr.{Instr}
use Rattle.cu_op.specs.declared.layout.ArrayInfo.{ArrayInfo}
use Rattle.cu_op.specs.declared.operation.Op.{Op}
use Rattle.cu_op.specs.declared.operation.Op.TheVariants.{Pull, Copy}
use Rattle.cu_op.specs.declared.walks.Walk.{Walk}
use Rattle.cu_origin.specs.declared.pull.Pull.{Pull as View}
use Rattle.cu_shape.specs.Index.{product, differences}
use Rattle.cu_task.specs.Calls.{calls_by, tally_by, view_task, IsPullOf, MakesSureCalls}
use Rattle.cu_task.specs.Inputs.{map_code, HasKernel}
use Rattle.cu_task.specs.Task.{compared_by, kept_by, kept_room, room_beside, IsComputing, IsCopy, IsPlaceSearch, IsSomeArray}
use Rattle.cu_task.specs.Views.{is_exact, view_calls, view_tally}

-- ---- routes

pub computing : (op : Op) → ((pull : View) (ins : ArrayVec ℕ 8 (Unit {0})) (out : ℕ) → op ≡ Pull pull ins out → ⊥) → ((region : List ℕ) (source out : ℕ) → op ≡ Copy region source out → ⊥) → IsComputing op
computing (Pull pull ins out) not_pull not_copy = absurd (not_pull pull ins out refl)
computing (Copy region source out) not_pull not_copy = absurd (not_copy region source out refl)
computing op not_pull not_copy = tt

-- ---- maps

has_steps : (kernel : Option (List Instr)) → IsSome kernel → kernel ≡ Some (unwrap_or kernel [])
has_steps None is = cc
has_steps (Some code) is = refl

-- what a map is
pub record OfMap (op : Op) : Type 0 where
  pub code : kernel_of op ≡ Some (map_code op)
  pub computes : IsComputing op
  pub stores : value_array op ≡ None

pub of_map : (op : Op) → HasKernel op → OfMap op
of_map op is =
    let code = has_steps (kernel_of op) is in
    let same = map_by_kernel op (map_code op) code in
    record { code = code; computes = subst IsComputing (sym same) tt; stores = ap value_array same }

-- ---- views

-- a task of a view of these arrays
pub record OfPull (p : PlanView) (op : Op) (task : ℕ) (pull : View) (ins : List ℕ) : Type 0 where
  pub reads : All (λ a. a < length p.arrays) ins
  pub fits : PullFits p.arrays pull ins (target_of op)
  pub grid : task_grid p.arrays op ≡ grid_at p.arrays (target_of op)
  pub among : (s : ℕ) → s < length ins → Contains (reads_of op) (slice_index ins s)
  pub value : (at : Elements) (idx : List ℕ) → rule op p.arrays at (target_of op) idx ≡ pulled ins at (origin_at p.arrays pull ins (target_of op) idx)
  pub calls : (each : Cell → ℕ) → calls_by each p.arrays op task ≡ view_calls (view_task p.arrays pull ins (target_of op) (task_lo p.arrays op task) (task_hi p.arrays op task)) (length ins)
  pub tally : (weight each : Cell → ℕ) → tally_by weight each p.arrays op task ≡ view_tally weight (view_task p.arrays pull ins (target_of op) (task_lo p.arrays op task) (task_hi p.arrays op task)) (length ins)
  pub sure : MakesSureCalls op → is_exact pull ≡ true
  pub stores : value_array op ≡ None
  pub whole : (a : ℕ) → ReadsByChunk p.arrays op a → ⊥
  pub walks : input_walks p.arrays op task ≡ map (whole_walk p.arrays) ins
  pub inputs : input_room p.arrays op ≡ 0
  pub words : instruction_count op ≡ 0

pub of_pull : (p : PlanView) (k : ℕ) (op : Op) (task : ℕ) (pull : View) (ins : List ℕ) → Fit p.arrays k op → IsPullOf op pull ins → OfPull p op task pull ins
of_pull p k (Pull own sources out) task pull ins fit is =
    subst (λ (x : View). OfPull p (Pull own sources out) task x ins) (sym is.0)
    (subst (λ (x : List ℕ). OfPull p (Pull own sources out) task own x) (sym is.1) (record {
      reads = λ i d b. (fit.0 i d b).0;
      fits = fit.2;
      grid = refl;
      among = λ s b. All-contains_itself sources.items s 0 b;
      value = λ at idx. refl;
      calls = λ each. refl;
      tally = λ weight each. refl;
      sure = λ h. h;
      stores = refl;
      whole = λ a h. not_one h;
      walks = refl;
      inputs = refl;
      words = refl;
    }))
of_pull p k op task pull ins fit is = absurd is

pub view_keeps : (arrays : List ArrayInfo) (op : Op) (task : ℕ) (pull : View) (ins : List ℕ) → IsPullOf op pull ins → kept_room arrays op task ≡ 0
view_keeps arrays (Pull own sources out) task pull ins is = refl
view_keeps arrays op task pull ins is = absurd is

-- ---- copies

-- a task of a copy, and the one region that it reads
pub record OfCopy (p : PlanView) (op : Op) (task : ℕ) (w : Walk) : Type 0 where
  pub walks : input_walks p.arrays op task ≡ w ∷ []
  pub among : Contains (reads_of op) w.array
  pub lo : w.region.lo ≡ task_lo p.arrays op task
  pub hi : w.region.hi ≡ task_hi p.arrays op task
  pub shape : (grid_at p.arrays w.array).shape ≡ (grid_at p.arrays (target_of op)).shape
  pub types : type_at p.arrays w.array ≡ type_at p.arrays (target_of op)
  pub value : (at : Elements) (idx : List ℕ) → rule op p.arrays at (target_of op) idx ≡ at w.array idx
  pub writes : writes_of op ≡ target_of op ∷ []
  pub stores : value_array op ≡ None
  pub whole : (a : ℕ) → ReadsByChunk p.arrays op a → ⊥
  pub tally : (weight each : Cell → ℕ) → tally_by weight each p.arrays op task ≡ sum_by each (walk_cells p.arrays w)

pub copy_some : (arrays : List ArrayInfo) (op : Op) (task : ℕ) → IsCopy op → 0 < length (input_walks arrays op task)
copy_some arrays (Copy region source out) task is = omega arith
copy_some arrays op task is = absurd is

pub copy_keeps : (arrays : List ArrayInfo) (op : Op) (task : ℕ) → IsCopy op → kept_room arrays op task ≡ 0
copy_keeps arrays (Copy region source out) task is = refl
copy_keeps arrays op task is = absurd is

pub of_copy : (p : PlanView) (k : ℕ) (op : Op) (task : ℕ) → Fit p.arrays k op → IsCopy op → OfCopy p op task (slice_index_or (input_walks p.arrays op task) 0 (walk 0 [] []))
of_copy p k (Copy region source out) task fit is = record {
  walks = refl;
  among = (0, omega arith, refl);
  lo = refl;
  hi = refl;
  shape = fit.2.shape;
  types = fit.2.types;
  value = λ at idx. refl;
  writes = refl;
  stores = refl;
  whole = λ a h. not_one h;
  tally = λ weight each. ap (sum_by each) (append-nil (walk_cells p.arrays (slice_index_or (input_walks p.arrays (Copy region source out) task) 0 (walk 0 [] []))));
}
of_copy p k op task fit is = absurd is

-- ---- calls

pub sums_alike : (f g : Cell → ℕ) (cs : List Cell) → ((c : Cell) → Contains cs c → f c ≡ g c)
    → sum_by f cs ≡ sum_by g cs
sums_alike f g [] h = refl
sums_alike f g (c ∷ cs) h =
    let own = h c (0, omega arith, refl) in
    let rest = sums_alike f g cs (λ d there. h d (suc there.0, (let l = there.1 in omega arith), there.2)) in
    sum_by-cons f c cs ∙ ap (λ (n : ℕ). n + sum_by f cs) own ∙ ap (λ (n : ℕ). g c + n) rest ∙ sym (sum_by-cons g c cs)

-- they depend on what a chunk takes that is read
pub tally_alike : (weight f g : Cell → ℕ) (arrays : List ArrayInfo) (op : Op) (task : ℕ)
    → ((c : Cell) → Contains (cells_of_walks arrays (input_walks arrays op task)) c → f c ≡ g c)
    → tally_by weight f arrays op task ≡ tally_by weight g arrays op task
tally_alike weight f g arrays (Pull pull ins out) task h = refl
tally_alike weight f g arrays op task h = sums_alike f g (cells_of_walks arrays (input_walks arrays op task)) h

-- of an operation that computes from regions
pub computed_tally : (weight f : Cell → ℕ) (arrays : List ArrayInfo) (op : Op) (task : ℕ) → IsComputing op
    → tally_by weight f arrays op task ≡ sum_by f (cells_of_walks arrays (input_walks arrays op task))
computed_tally weight f arrays (Pull pull ins out) task computing = absurd computing
computed_tally weight f arrays op task computing = refl

pub computed_calls : (f : Cell → ℕ) (arrays : List ArrayInfo) (op : Op) (task : ℕ) → IsComputing op
    → calls_by f arrays op task ≡ sum_by f (cells_of_walks arrays (input_walks arrays op task))
computed_calls f arrays op task computing = computed_tally (λ c. 1) f arrays op task computing

-- ---- values that are stored beside the places

abbrev IsNone : Option ℕ → Type 0
IsNone None = Unit {0}
IsNone (Some n) = ⊥

pub none_stored : (array : ℕ) → None ≡ Some array → ⊥
none_stored array e = subst IsNone e tt

pub both_written : (op : Op) (array : ℕ) → value_array op ≡ Some array → writes_of op ≡ array ∷ target_of op ∷ []
both_written op array is = (laws_of op).stores array is

pub only_written : (op : Op) → value_array op ≡ None → writes_of op ≡ target_of op ∷ []
only_written op is = (laws_of op).stores_none is

pub compared_reads : (op : Op) (array : ℕ) → compared_array op ≡ Some array → Contains (reads_of op) array
compared_reads op array is = (laws_of op).compares array is

-- ---- rooms

pub searched_room : (arrays : List ArrayInfo) (op : Op) (task : ℕ) → IsPlaceSearch op
    → room_beside arrays op task (compared_array op) ≡ product (differences (task_hi arrays op task) (task_lo arrays op task)) * size_of (type_at arrays (compared_by op))
searched_room arrays op task is = room_by (compared_array op) is
  where
    room_by : (compared : Option ℕ) → IsSomeArray compared → room_beside arrays op task compared ≡ product (differences (task_hi arrays op task) (task_lo arrays op task)) * size_of (type_at arrays (unwrap_or compared 0))
    room_by None is = absurd is
    room_by (Some array) is = refl

pub stored_room : (arrays : List ArrayInfo) (k : ℕ) (op : Op) (task array : ℕ) → Fit arrays k op → value_array op ≡ Some array
    → room_beside arrays op task (compared_array op) ≡ product (differences (task_hi arrays op task) (task_lo arrays op task)) * size_of (type_at arrays array)
stored_room arrays k op task array fit is =
    let (source, compared, typed) = (laws_of op).stored_type arrays array fit.2 is in
    ap (room_beside arrays op task) compared ∙ ap (λ (t : Dtype). product (differences (task_hi arrays op task) (task_lo arrays op task)) * size_of t) (sym typed)

-- ---- what a task may keep, and what it makes

-- so many elements of the array that is compared, where there is one
abbrev pub compared_room : List ArrayInfo → ℕ → Option ℕ → ℕ
compared_room arrays n None = 0
compared_room arrays n (Some array) = n * size_of (type_at arrays array)

-- the elements of a chunk of the tasks' grid, the values beside them, and the input regions, where they are kept, fit what an operation is lent; a
-- copy has its elements in the room of its input regions
pub lent_rooms : (arrays : List ArrayInfo) (k : ℕ) (op : Op) → Fit arrays k op
    → compared_room arrays (product (task_grid arrays op).chunk) (compared_array op) + product (task_grid arrays op).chunk * size_of (type_at arrays (target_of op)) + kept_by (route_of op) (input_room arrays op)
    ≤ input_room arrays op + output_room arrays op
lent_rooms arrays k (Copy region source out) fit =
    let same : product region * size_of (type_at arrays out) ≡ product region * size_of (type_at arrays source) = ap (λ (t : Dtype). product region * size_of t) (sym fit.2.types) in
    omega (arith, same)
lent_rooms arrays k op fit = omega arith
