-- A task of a fold: the region that it reads, its results, and what the results are that are made of it.
use Rattle.std.proofs.Common.{◌≡◌, ◌<◌, ◌≤◌, ◌*◌, ◌^◌, ℕ, List, [], ◌∷◌, None, length, map, sym, ap, ◌∙◌, subst, refl, arith}
use Rattle.std.specs.Prelude.{slice_index_or}
use Rattle.cu_codec.proofs.Shared.{few_elements}
use Rattle.cu_fold.specs.Strips.{fold_groups, result_sizes}
use Rattle.cu_fold.specs.declared.types.RegionFold.{RegionFold}
use Rattle.cu_num.specs.Dtype.{size_of}
use Rattle.cu_num.specs.Element.{element_at}
use Rattle.cu_num.specs.declared.folds.FoldKind.{FoldKind}
use Rattle.cu_num.specs.declared.types.Dtype.{Dtype}
use Rattle.cu_num.specs.declared.layout.Endian.TheVariants.{Little}
use Rattle.cu_op.proofs.Operations.{Fit}
use Rattle.cu_op.proofs.Plans.{grid_ok}
use Rattle.cu_op.proofs.TaskCells.{fit_of}
use Rattle.cu_op.specs.Arrays.{grid_at, type_at}
use Rattle.cu_op.specs.Cells.{regions_of, task_lo, task_hi}
use Rattle.cu_op.specs.Chunks.{walk}
use Rattle.cu_op.specs.Operation.{target_of, value_array}
use Rattle.cu_op.specs.PlanView.{PlanView}
use Rattle.cu_op.specs.Sound.{Sound}
use Rattle.cu_op.specs.TaskView.{TaskView, task_op, walk_at}
use Rattle.cu_op.specs.Walks.{input_walks}
use Rattle.cu_op.specs.declared.layout.ArrayInfo.{ArrayInfo}
use Rattle.cu_op.specs.declared.operation.Op.{Op}
use Rattle.cu_op.specs.declared.operation.Op.TheVariants.{Fold}
use Rattle.cu_op.specs.declared.walks.Walk.{Walk}
use Rattle.cu_origin.specs.Pull.{has_axis}
use Rattle.cu_origin.specs.declared.axes.Axes.{Axes}
use Rattle.cu_reduce.specs.Folds.{fold_of}
use Rattle.cu_reduce.specs.Groups.{groups_of, group_indices}
use Rattle.cu_reduce.specs.Kinds.{Accumulates, HasEnough}
use Rattle.cu_reduce.specs.Numbers.{HasNumber}
use Rattle.cu_region.specs.Writing.{AreElements}
use Rattle.cu_shape.specs.Index.{product, place_of, differences, IsInside}
use Rattle.cu_task.specs.Inputs.{room_of_walks}
use Rattle.cu_task.specs.Strips.{IsFold}
use Rattle.cu_task.specs.Task.{IsComputing}
use Rattle.cu_task.proofs.ReductionTask.{source_walk, source_over, count_is, kind_enough, are_elements, reduced_is}
use Rattle.cu_task.proofs.TaskRooms.{chunk_parts, IsComputedBy, Parts}

-- what is folded, where the region of the source is known
abbrev pub fold_over : PlanView → FoldKind → Axes → ℕ → ℕ → Walk → RegionFold
fold_over p kind axes source out w = record {
  kind = kind;
  from = type_at p.arrays source;
  acc = type_at p.arrays out;
  dims = differences w.region.hi w.region.lo;
  axes = axes;
}

-- the results are those of the elements that stand in a buffer
abbrev pub HasFolded : RegionFold → List ℕ → List ℕ → Type 0
HasFolded fold input output = (idx : List ℕ) → IsInside (result_sizes fold) idx
    → HasNumber fold.acc output (place_of (result_sizes fold) idx) (fold_of fold.kind (map (λ i. element_at Little fold.from input (place_of fold.dims i)) (group_indices (fold_groups fold) fold.dims idx)))

-- a task of an operation that folds the region of a walk
pub record TaskFold (p : PlanView) (op : Op) (task : ℕ) (fold : RegionFold) (w : Walk) : Type 0 where
  pub source : fold.from ≡ type_at p.arrays w.array
  pub types : Accumulates fold.kind fold.from fold.acc
  pub enough : HasEnough fold.kind (fold_groups fold) fold.dims
  pub few : product fold.dims ≤ 2 ^ 56
  pub input : room_of_walks p.arrays (input_walks p.arrays op task) ≡ product fold.dims * size_of fold.from
  pub output : product (differences (task_hi p.arrays op task) (task_lo p.arrays op task)) * size_of (type_at p.arrays (target_of op)) ≡ product (result_sizes fold) * size_of fold.acc
  pub values : (input output : List ℕ) → HasFolded fold input output → IsComputedBy p.arrays op task (target_of op) input output
  pub elements : (input output : List ℕ) → length output ≡ product (result_sizes fold) * size_of fold.acc → HasFolded fold input output → AreElements (type_at p.arrays (target_of op)) output

module _ (p : PlanView) (s : Sound p) (k task : ℕ) (kind : FoldKind) (axes : Axes) (source out : ℕ) (fit : Fit p.arrays k (Fold kind axes source out)) (h : task < regions_of p.arrays (Fold kind axes source out)) where
  source_in : source < length p.arrays
  source_in = (fit.0 0 0 (omega arith)).0

  abbrev parts : Parts p (groups_of (has_axis axes) (grid_at p.arrays source).chunk) source out
  parts = chunk_parts p s (has_axis axes) source out (fit.0 0 0 (omega arith)).0 (fit.1 0 0 (omega arith)).0 fit.2.result

  abbrev own_walk : Walk
  own_walk = source_walk p (has_axis axes) (grid_at p.arrays source).chunk source out task parts h

  abbrev folded : RegionFold
  folded = fold_over p kind axes source out own_walk

  -- as many results as the task's region has indices
  results : product (result_sizes folded) ≡ product (differences (task_hi p.arrays (Fold kind axes source out) task) (task_lo p.arrays (Fold kind axes source out) task))
  results = count_is p (has_axis axes) (grid_at p.arrays source).chunk source out task parts h

  fold_known : TaskFold p (Fold kind axes source out) task folded own_walk
  fold_known = record {
    source = refl;
    types = fit.2.types;
    enough = kind_enough p (has_axis axes) (grid_at p.arrays source).chunk source out task parts h kind fit.2.enough;
    few = few_elements (grid_at p.arrays source) own_walk.region.lo own_walk.region.hi (grid_ok p source s source_in) (source_over p (has_axis axes) (grid_at p.arrays source).chunk source out task parts h);
    input = omega arith;
    output = ap (λ n. n * size_of (type_at p.arrays out)) (sym results);
    values = λ input output has at regions idx w. reduced_is p (has_axis axes) (grid_at p.arrays source).chunk source out task parts h kind (type_at p.arrays out) at input output regions.0 has idx w;
    elements = λ input output long has. are_elements p (has_axis axes) (grid_at p.arrays source).chunk source out task parts h (type_at p.arrays out) output (long ∙ ap (λ n. n * size_of (type_at p.arrays out)) results) (λ x inside. (_, has x inside));
  }

task_fold : (t : TaskView) (s : Sound t.plan) (kind : FoldKind) (axes : Axes) (source out : ℕ) → task_op t ≡ Fold kind axes source out
    → TaskFold t.plan (task_op t) t.number (fold_over t.plan kind axes source out (walk_at t 0)) (walk_at t 0)
task_fold t s kind axes source out is =
    subst (λ (op : Op). TaskFold t.plan op t.number (fold_over t.plan kind axes source out (slice_index_or (input_walks t.plan.arrays op t.number) 0 (walk 0 [] []))) (slice_index_or (input_walks t.plan.arrays op t.number) 0 (walk 0 [] []))) (sym is)
    (fold_known t.plan s t.op t.number kind axes source out
    (subst (Fit t.plan.arrays t.op) is (fit_of t.plan s t.op t.operation))
    (subst (λ (op : Op). t.number < regions_of t.plan.arrays op) is t.within))

-- a task of a fold, whose parts are told one by one
pub fold_found : {kind : FoldKind} {axes : Axes} {source out : ℕ} {w : Walk} {from acc : Dtype} {dims : List ℕ} (t : TaskView) → Sound t.plan → task_op t ≡ Fold kind axes source out
    → w ≡ walk_at t 0 → from ≡ type_at t.plan.arrays source → acc ≡ type_at t.plan.arrays out → dims ≡ differences w.region.hi w.region.lo
    → TaskFold t.plan (task_op t) t.number (record { kind = kind; from = from; acc = acc; dims = dims; axes = axes }) w
fold_found {kind = kind} {axes = axes} {source = source} {out = out} t s is walk read made sizes =
    rw (sizes, walk, read, made) (task_fold t s kind axes source out is)

-- the array of the results is one of the plan
pub results_in : {kind : FoldKind} {axes : Axes} {source out : ℕ} (t : TaskView) → Sound t.plan → task_op t ≡ Fold kind axes source out → out < length t.plan.arrays
results_in t s is = ((subst (Fit t.plan.arrays t.op) is (fit_of t.plan s t.op t.operation)).1 0 0 (omega arith)).0

-- ---- what any fold is

pub fold_computes : (op : Op) → IsFold op → IsComputing op
fold_computes (Fold kind axes source out) is = tt
fold_computes op is = absurd is

-- it stores no values beside its result
pub fold_stores : (op : Op) → IsFold op → None ≡ value_array op
fold_stores (Fold kind axes source out) is = refl
fold_stores op is = absurd is

-- it reads one region
one_region : (arrays : List ArrayInfo) (op : Op) (task : ℕ) → IsFold op → input_walks arrays op task ≡ slice_index_or (input_walks arrays op task) 0 (walk 0 [] []) ∷ []
one_region arrays (Fold kind axes source out) task is = refl
one_region arrays op task is = absurd is

pub reads_one : (t : TaskView) → IsFold (task_op t) → input_walks t.plan.arrays (task_op t) t.number ≡ walk_at t 0 ∷ []
reads_one t is = one_region t.plan.arrays (task_op t) t.number is
