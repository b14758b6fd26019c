-- A task that merges partial results which stand one behind another: what it reads, and what its results are.
use Rattle.std.proofs.Common.{◌≡◌, inl, ◌<◌, ◌+◌, ◌-◌, ◌*◌, ◌/◌, ◌==◌, ℕ, ℤ, List, [], ◌∷◌, append-nil, Contains, Some, None, get_or, length, map, refl, sym, ap, ◌∙◌, subst, arith}
use Rattle.std.specs.Prelude.{slice_index_or, sum_by}
use Rattle.std.proofs.lemmas.List.Elements.{All-contains_itself}
use Rattle.std.proofs.lemmas.Nat.{div-mul-add}
use Rattle.cu_grid.specs.Counts.{IsWithin}
use Rattle.cu_num.specs.Dtype.{size_of}
use Rattle.cu_num.specs.Element.{element_at}
use Rattle.cu_num.specs.declared.folds.FoldKind.{FoldKind}
use Rattle.cu_num.specs.declared.layout.Endian.TheVariants.{Little}
use Rattle.cu_num.specs.declared.types.Dtype.{Dtype}
use Rattle.cu_op.proofs.Operations.{Fit}
use Rattle.cu_op.proofs.TaskCells.{fit_of, region_lengths}
use Rattle.cu_op.specs.Arrays.{grid_at, grid_counts, type_at}
use Rattle.cu_op.specs.Cells.{regions_of, task_lo, task_hi}
use Rattle.cu_op.specs.Chunks.{walk}
use Rattle.cu_op.specs.Elements.{Elements}
use Rattle.cu_op.specs.Operation.{target_of, value_array}
use Rattle.cu_op.specs.Partial.{partial_indices}
use Rattle.cu_op.specs.PlanView.{PlanView}
use Rattle.cu_op.specs.Reductions.{FoldFits, IsMergeAlong}
use Rattle.cu_op.specs.Sound.{Sound}
use Rattle.cu_op.specs.TaskView.{TaskView, task_op, walk_at}
use Rattle.cu_op.specs.Value.{rule}
use Rattle.cu_op.specs.Walks.{cells_of_walks, input_walks, walk_cells, IsWalkOver}
use Rattle.cu_op.specs.declared.cells.Cell.{Cell}
use Rattle.cu_op.specs.declared.layout.ArrayInfo.{ArrayInfo}
use Rattle.cu_op.specs.declared.operation.Op.{Op}
use Rattle.cu_op.specs.declared.walks.Walk.{Walk}
use Rattle.cu_reduce.specs.Folds.{fold_of, reduced_to}
use Rattle.cu_reduce.specs.Groups.{group_indices}
use Rattle.cu_reduce.specs.Kinds.{Accumulates, HasEnough}
use Rattle.cu_region.specs.Writing.{AreElements, buffer_element}
use Rattle.cu_shape.specs.Index.{product, differences, sums, IsInside}
use Rattle.cu_shape.proofs.Axes.{get_or-axis_by_axis}
use Rattle.cu_codec.specs.Parts.{place_within}
use Rattle.cu_task.specs.Calls.{chunk_calls, chunk_tally}
use Rattle.cu_task.specs.Inputs.{room_of_walks, HasRegion, IsMergeOf}
use Rattle.cu_task.specs.Merges.{place_by_parts, without_axis, StandsByParts, MergesParts}
use Rattle.cu_task.specs.OfTask.{calls_to_read, cell_weight, tally_to_read, weight_of_walk}
use Rattle.cu_task.specs.Task.{IsComputing}
use Rattle.cu_task.specs.declared.merges.PartMerge.{PartMerge}
use Rattle.cu_task.proofs.Inside.{stored_calls, stored_tally}
use Rattle.cu_task.proofs.PartGroups.{axis_groups, results_count, rows_of, HasMerged}
use Rattle.cu_task.proofs.PartialTasks.{result_lo, result_hi}
use Rattle.cu_task.proofs.PartialValues.{number_at, reduced_given}
use Rattle.cu_task.proofs.PullTask.{box_back}
use Rattle.cu_task.proofs.ReductionTask.{source_walk, source_over, source_rank, count_is, kind_enough, are_elements, has_element, index, index_inside, map_is}
use Rattle.cu_task.proofs.TaskKinds.{computed_calls, computed_tally}
use Rattle.cu_task.proofs.TaskRooms.{merge_parts, of_merge, OfMerge, Parts}
use Rattle.cu_task.proofs.ViewChunks.{within_box}

-- ---- what any merge is

pub merge_computes : (op : Op) (m : PartMerge) → IsMergeOf op m.kind m.axis m.out → IsComputing op
merge_computes op m is = subst IsComputing (sym (of_merge op m.kind m.axis m.out is).is) tt

pub merge_stores : (op : Op) (m : PartMerge) → IsMergeOf op m.kind m.axis m.out → None ≡ value_array op
merge_stores op m is = sym (ap value_array (of_merge op m.kind m.axis m.out is).is)

one_region : (arrays : List ArrayInfo) (op : Op) (task : ℕ) (m : PartMerge) → IsMergeOf op m.kind m.axis m.out → input_walks arrays op task ≡ slice_index_or (input_walks arrays op task) 0 (walk 0 [] []) ∷ []
one_region arrays op task m is = subst (λ (o : Op). input_walks arrays o task ≡ slice_index_or (input_walks arrays o task) 0 (walk 0 [] []) ∷ []) (sym (of_merge op m.kind m.axis m.out is).is) refl

-- it reads one region
pub reads_one : (t : TaskView) (m : PartMerge) → IsMergeOf (task_op t) m.kind m.axis m.out → input_walks t.plan.arrays (task_op t) t.number ≡ walk_at t 0 ∷ []
reads_one t m is = one_region t.plan.arrays (task_op t) t.number m is

pub reads_some : (t : TaskView) (m : PartMerge) → IsMergeOf (task_op t) m.kind m.axis m.out → 0 < length (input_walks t.plan.arrays (task_op t) t.number)
reads_some t m is = let one = ap length (reads_one t m is) in omega (arith, one)

pub region_listed : (t : TaskView) (m : PartMerge) → IsMergeOf (task_op t) m.kind m.axis m.out → Contains (input_walks t.plan.arrays (task_op t) t.number) (walk_at t 0)
region_listed t m is = All-contains_itself (input_walks t.plan.arrays (task_op t) t.number) 0 (walk 0 [] []) (reads_some t m is)

pub cells_of_one : (f : Cell → ℕ) (t : TaskView) (m : PartMerge) → IsMergeOf (task_op t) m.kind m.axis m.out
    → sum_by f (cells_of_walks t.plan.arrays (input_walks t.plan.arrays (task_op t) t.number)) ≡ sum_by f (walk_cells t.plan.arrays (walk_at t 0))
cells_of_one f t m is =
    ap (λ (ws : List Walk). sum_by f (cells_of_walks t.plan.arrays ws)) (reads_one t m is)
    ∙ ap (sum_by f) (append-nil (walk_cells t.plan.arrays (walk_at t 0)))

-- ---- the elements of the region, and the results that are made of them

-- their sizes
abbrev pub sizes_of : Walk → List ℕ
sizes_of w = differences w.region.hi w.region.lo

-- an element at its place in the buffer
abbrev pub part_element : Dtype → ℕ → List ℕ → List ℕ → List ℕ → ℤ
part_element t axis sizes input i = element_at Little t input (place_by_parts axis sizes i)

pub record TaskMerge (p : PlanView) (op : Op) (task : ℕ) (m : PartMerge) (w : Walk) : Type 0 where
  pub made : m.out < length p.arrays
  pub source : m.axis < length (grid_at p.arrays w.array).shape
  pub types : Accumulates m.kind (type_at p.arrays m.out) (type_at p.arrays m.out)
  pub along : m.axis < length (sizes_of w)
  pub enough : HasEnough m.kind (axis_groups m.axis (sizes_of w)) (sizes_of w)
  pub input : room_of_walks p.arrays (input_walks p.arrays op task) ≡ product (sizes_of w) * size_of (type_at p.arrays m.out)
  pub output : product (differences (task_hi p.arrays op task) (task_lo p.arrays op task)) * size_of (type_at p.arrays (target_of op)) ≡ product (without_axis m.axis (sizes_of w)) * size_of (type_at p.arrays m.out)
  pub values : (at : Elements) (input output : List ℕ) → StandsByParts (type_at p.arrays w.array) (at w.array) m.axis w.region input
      → HasMerged m.kind (type_at p.arrays m.out) m.axis (sizes_of w) (part_element (type_at p.arrays m.out) m.axis (sizes_of w) input) output
      → HasRegion (type_at p.arrays (target_of op)) (rule op p.arrays at (target_of op)) (task_lo p.arrays op task) (task_hi p.arrays op task) output
  pub elements : (element : List ℕ → ℤ) (output : List ℕ) → length output ≡ product (differences (task_hi p.arrays op task) (task_lo p.arrays op task)) * size_of (type_at p.arrays (target_of op))
      → HasMerged m.kind (type_at p.arrays m.out) m.axis (sizes_of w) element output → AreElements (type_at p.arrays (target_of op)) output

module _ (p : PlanView) (s : Sound p) (k task : ℕ) (kind : FoldKind) (axis out : ℕ) (op : Op) (m : OfMerge op kind axis out) (fit : Fit p.arrays k op) (within : task < regions_of p.arrays op) where
  abbrev group_sizes : List ℕ
  group_sizes = map (λ n. m.group) (grid_at p.arrays m.source).shape

  -- what is asked of it
  source_in : m.source < length p.arrays
  source_in = let own = subst (Fit p.arrays k) m.is fit in (own.0 0 0 (omega arith)).0

  out_in : out < length p.arrays
  out_in = let own = subst (Fit p.arrays k) m.is fit in (own.1 0 0 (omega arith)).0

  goes_along : IsMergeAlong p.arrays axis m.group m.source
  goes_along = let own = subst (Fit p.arrays k) m.is fit in own.2.0

  folds : FoldFits p.arrays kind (axis_groups axis group_sizes) m.source out
  folds = let own = subst (Fit p.arrays k) m.is fit in own.2.1

  typed : type_at p.arrays m.source ≡ type_at p.arrays out
  typed = let own = subst (Fit p.arrays k) m.is fit in own.2.2

  h : task < product (grid_counts (grid_at p.arrays out))
  h = subst (λ (o : Op). task < regions_of p.arrays o) m.is within

  abbrev parts : Parts p (axis_groups axis group_sizes) m.source out
  parts = merge_parts p s axis m.group m.source out source_in out_in goes_along.some folds.result

  abbrev own_walk : Walk
  own_walk = source_walk p (λ d. d == axis) group_sizes m.source out task parts h

  abbrev lo : List ℕ
  lo = result_lo (grid_at p.arrays out) task

  abbrev hi : List ℕ
  hi = result_hi (grid_at p.arrays out) task

  abbrev made : PartMerge
  made = record { kind = kind; axis = axis; out = out }

  axis_in : axis < length (sizes_of own_walk)
  axis_in =
      let rank = source_rank p (λ d. d == axis) group_sizes m.source out task parts h in
      let along = goes_along.along in
      omega (arith, rank, along)

  results : product (without_axis axis (sizes_of own_walk)) ≡ product (differences hi lo)
  results = sym (results_count axis (sizes_of own_walk) axis_in) ∙ count_is p (λ d. d == axis) group_sizes m.source out task parts h

  input_long : room_of_walks p.arrays (own_walk ∷ []) ≡ product (sizes_of own_walk) * size_of (type_at p.arrays out)
  input_long = rw (sym typed) (omega arith)

  -- what the rule gives is the reduction of the elements, by their places in the buffer
  merged_is : (t : Dtype) (at : Elements) (input output : List ℕ) → t ≡ type_at p.arrays m.source → StandsByParts (type_at p.arrays m.source) (at m.source) axis own_walk.region input
      → HasMerged kind t axis (sizes_of own_walk) (part_element t axis (sizes_of own_walk) input) output
      → (idx : List ℕ) → IsWithin lo hi idx
      → reduced_to kind t (map (at m.source) (partial_indices p.arrays (axis_groups axis group_sizes) m.source out idx)) ≡ buffer_element t lo hi output idx
  merged_is t at input output same reads has idx w =
      let over = source_over p (λ d. d == axis) group_sizes m.source out task parts h in
      let element : List ℕ → ℤ = part_element t axis (sizes_of own_walk) input in
      let at_index = index p (λ d. d == axis) group_sizes m.source out task parts h idx in
      let inside = index_inside p (λ d. d == axis) group_sizes m.source out task parts h idx w in
      let each : (i : List ℕ) → IsInside (sizes_of own_walk) i → at m.source (sums own_walk.region.lo i) ≡ Some (element i) = λ i here.
      reads (sums own_walk.region.lo i) (within_box (grid_at p.arrays m.source).shape own_walk.region.lo own_walk.region.hi i over here)
      ∙ ap (λ (x : List ℕ). Some (part_element (type_at p.arrays m.source) axis (sizes_of own_walk) input x)) (box_back (grid_at p.arrays m.source).shape own_walk.region.lo own_walk.region.hi i over here)
      ∙ ap (λ (d : Dtype). Some (part_element d axis (sizes_of own_walk) input i)) (sym same) in
      let numbers = fold_of kind (map element (group_indices (axis_groups axis (sizes_of own_walk)) (sizes_of own_walk) at_index)) in
      ap (reduced_to kind t) (map_is p (λ d. d == axis) group_sizes m.source out task parts h (at m.source) (λ i. Some (element i)) idx w each)
      ∙ reduced_given kind t element (group_indices (axis_groups axis (sizes_of own_walk)) (sizes_of own_walk) at_index)
      ∙ ap Some (sym (number_at t output (place_within lo hi idx) numbers
      (has_element p (λ d. d == axis) group_sizes m.source out task parts h t output idx numbers w (has at_index inside))))

  merge_known : TaskMerge p op task made (slice_index_or (input_walks p.arrays op task) 0 (walk 0 [] []))
  merge_known = subst (λ (o : Op). TaskMerge p o task made (slice_index_or (input_walks p.arrays o task) 0 (walk 0 [] []))) (sym m.is) (record {
    made = out_in;
    source = goes_along.along;
    types = subst (λ (t : Dtype). Accumulates kind t (type_at p.arrays out)) typed folds.types;
    along = axis_in;
    enough = kind_enough p (λ d. d == axis) group_sizes m.source out task parts h kind folds.enough;
    input = input_long;
    output = ap (λ n. n * size_of (type_at p.arrays out)) (sym results);
    values = λ at input output reads has idx w. merged_is (type_at p.arrays out) at input output (sym typed) reads has idx w;
    elements = λ element output long has. are_elements p (λ d. d == axis) group_sizes m.source out task parts h (type_at p.arrays out) output long (λ x inside. (_, has x inside));
  })

-- a task of a merge
pub task_merge : (t : TaskView) (s : Sound t.plan) (m : PartMerge) → IsMergeOf (task_op t) m.kind m.axis m.out → TaskMerge t.plan (task_op t) t.number m (walk_at t 0)
task_merge t s m of_kind = merge_known t.plan s t.op t.number m.kind m.axis m.out (task_op t) (of_merge (task_op t) m.kind m.axis m.out of_kind) (fit_of t.plan s t.op t.operation) t.within

-- its axis is one of the region that it reads
pub axis_within : (t : TaskView) (s : Sound t.plan) (m : PartMerge) (w : Walk) → IsMergeOf (task_op t) m.kind m.axis m.out → w ≡ walk_at t 0 → IsWalkOver t.plan.arrays w
    → (m.axis < length w.region.lo) × (m.axis < length w.region.hi)
axis_within t s m w of_kind is over =
    let inside : m.axis < length (grid_at t.plan.arrays w.array).shape = rw is (task_merge t s m of_kind).source in
    let ranks = region_lengths (grid_at t.plan.arrays w.array).shape w.region.lo w.region.hi over.1 in
    let low = ranks.0 in
    let high = ranks.1 in
    (omega (arith, inside, low), omega (arith, inside, high))

-- ---- its calls

module _ (t : TaskView) (s : Sound t.plan) (m : PartMerge) (merges : MergesParts t m) where
  pub part_calls : calls_to_read t ≡ length (walk_cells t.plan.arrays (walk_at t 0))
  part_calls =
      computed_calls (chunk_calls t.plan t.op) t.plan.arrays (task_op t) t.number (merge_computes (task_op t) m merges.merge)
      ∙ cells_of_one (chunk_calls t.plan t.op) t m merges.merge
      ∙ stored_calls t.plan s t.op (walk_at t 0) (inl merges.apart.stored)

  pub part_tally : (weight : List ℕ → ℕ) → tally_to_read weight t ≡ weight_of_walk weight t (walk_at t 0)
  part_tally weight =
      computed_tally (cell_weight weight t) (chunk_tally (cell_weight weight t) t.plan t.op) t.plan.arrays (task_op t) t.number (merge_computes (task_op t) m merges.merge)
      ∙ cells_of_one (chunk_tally (cell_weight weight t) t.plan t.op) t m merges.merge
      ∙ stored_tally t.plan s (cell_weight weight t) t.op (walk_at t 0) (inl merges.apart.stored)

-- ---- the array of rows

pub times_over : (n k : ℕ) → 0 < k → n * k / k ≡ n
times_over n k some = let none : n * k ≡ n * k + 0 = omega arith in ap (λ m. m / k) none ∙ div-mul-add n k 0 some

pub rows_known : (axis parts results : ℕ) (w : Walk) → length w.region.hi ≡ length w.region.lo → axis < length w.region.lo → parts ≡ get_or w.region.hi axis 0 - get_or w.region.lo axis 0
    → results ≡ product (without_axis axis (sizes_of w)) → parts ∷ results ∷ [] ≡ rows_of axis (sizes_of w)
rows_known axis parts results w e along first second =
    rw (first, second) (ap (λ (n : ℕ). n ∷ product (without_axis axis (sizes_of w)) ∷ []) (sym (get_or-axis_by_axis (λ i j. i - j) w.region.hi w.region.lo axis (omega (arith, e, along)) along)))
