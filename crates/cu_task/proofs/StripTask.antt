-- A task that folds what a map makes where it is read: its calls, its region, and what it makes.
use Rattle.std.proofs.Common.{◌≡◌, ◌<◌, ◌≤◌, ℕ, List, [], append-nil, All, Some, sym, ap, ◌∙◌, subst}
use Rattle.std.specs.Prelude.{sum_by}
use Rattle.cu_kern.specs.Lays.{lay_types, loaded_at, LayFits}
use Rattle.cu_kern.specs.Steps.{value_by_place}
use Rattle.cu_kern.specs.declared.lays.Lay.{Lay}
use Rattle.cu_num.specs.Element.{element_at}
use Rattle.cu_num.specs.declared.layout.Endian.TheVariants.{Little}
use Rattle.cu_num.specs.declared.types.Dtype.{Dtype}
use Rattle.cu_op.proofs.TaskCells.{fit_of}
use Rattle.cu_op.specs.Arrays.{type_at}
use Rattle.cu_op.specs.Cells.{task_lo, task_hi}
use Rattle.cu_op.specs.Kernel.{kernel_value}
use Rattle.cu_op.specs.KernelTypes.{KernelFits}
use Rattle.cu_op.specs.Operation.{target_of}
use Rattle.cu_op.specs.Sound.{Sound}
use Rattle.cu_op.specs.TaskView.{TaskView, task_op, walk_at}
use Rattle.cu_op.specs.Walks.{cells_of_walks, input_walks, walk_cells}
use Rattle.cu_op.specs.declared.cells.Cell.{Cell}
use Rattle.cu_op.specs.declared.kernel.Kernel.{Kernel}
use Rattle.cu_op.specs.declared.walks.Walk.{Walk}
use Rattle.cu_shape.proofs.Places.{index-place, place-below}
use Rattle.cu_shape.specs.Index.{product, place_of, differences}
use Rattle.cu_store.specs.Held.{Contents}
use Rattle.cu_task.proofs.TaskKinds.{computed_calls, computed_tally, of_map}
use Rattle.cu_task.proofs.MapTask.{task_kernel}
use Rattle.cu_task.proofs.PartialFolds.{fold_computes, reads_one}
use Rattle.cu_task.specs.Calls.{chunk_calls, chunk_tally}
use Rattle.cu_task.specs.Inputs.{lays_from, HasRegions, IsMapOf}
use Rattle.cu_task.specs.OfTask.{calls_for_walks, calls_to_read, cell_weight, held_inputs, read_bytes, tally_for_walks, tally_to_read, walks_from, HasMade, IsMadeFrom}
use Rattle.cu_task.specs.Strips.{FoldsMap, IsFold, IsMadeThrough}

cells_of_one : (f : Cell → ℕ) (t : TaskView) → IsFold (task_op t) → sum_by f (cells_of_walks t.plan.arrays (input_walks t.plan.arrays (task_op t) t.number)) ≡ sum_by f (walk_cells t.plan.arrays (walk_at t 0))
cells_of_one f t is =
    ap (λ (ws : List Walk). sum_by f (cells_of_walks t.plan.arrays ws)) (reads_one t is)
    ∙ ap (sum_by f) (append-nil (walk_cells t.plan.arrays (walk_at t 0)))

module _ (t inner : TaskView) (folds : FoldsMap t inner) where
  -- its calls are those by which the map reads, and so is what they add to a tally
  pub folded_calls : calls_to_read t ≡ calls_for_walks inner (walks_from inner 0)
  folded_calls =
      computed_calls (chunk_calls t.plan t.op) t.plan.arrays (task_op t) t.number (fold_computes (task_op t) folds.fold)
      ∙ cells_of_one (chunk_calls t.plan t.op) t folds.fold
      ∙ sym folds.inside.calls
      ∙ computed_calls (chunk_calls inner.plan inner.op) inner.plan.arrays (task_op inner) inner.number (of_map (task_op inner) folds.map).computes

  pub folded_tally : (weight : List ℕ → ℕ) → tally_to_read weight t ≡ tally_for_walks weight inner (walks_from inner 0)
  folded_tally weight =
      computed_tally (cell_weight weight t) (chunk_tally (cell_weight weight t) t.plan t.op) t.plan.arrays (task_op t) t.number (fold_computes (task_op t) folds.fold)
      ∙ cells_of_one (chunk_tally (cell_weight weight t) t.plan t.op) t folds.fold
      ∙ sym (folds.inside.tally weight)
      ∙ computed_tally (cell_weight weight inner) (chunk_tally (cell_weight weight inner) inner.plan inner.op) inner.plan.arrays (task_op inner) inner.number (of_map (task_op inner) folds.map).computes

  -- what it makes of what the map makes of what is held
  pub folded_made : (held : Contents) (inputs output : List ℕ) → HasRegions inner.plan.arrays (held_inputs inner held) (walks_from inner 0) inputs
      → IsMadeThrough t inner inputs output → HasMade t (held_inputs t held) output
  folded_made held inputs output has made =
      let between = folds.inside.values held made.between (made.inner_made (held_inputs inner held) has) in
      made.outer_made (held_inputs t held)
      (subst (λ (ws : List Walk). HasRegions t.plan.arrays (held_inputs t held) ws made.between) (sym (reads_one t folds.fold)) (between, tt))

-- ---- the map

-- a kernel over the regions that a map reads, by the places of its region
pub record PlacedKernel (inner : TaskView) (kernel : Kernel) (lays : List Lay) (t : Dtype) (dims : List ℕ) : Type 0 where
  pub fits : KernelFits kernel.code.items (lay_types lays) [] t
  pub lays_fit : (room : ℕ) → read_bytes inner ≤ room → All (LayFits dims room) lays
  pub made : (inputs between : List ℕ) → ((p : ℕ) → p < product dims → value_by_place kernel.code.items lays inputs dims p ≡ Some (element_at Little t between p)) → IsMadeFrom inner inputs between

own_kernel : (inner : TaskView) → Sound inner.plan → (kernel : Kernel) → IsMapOf (task_op inner) kernel
    → PlacedKernel inner kernel (lays_from inner.plan.arrays 0 (input_walks inner.plan.arrays (task_op inner) inner.number)) (type_at inner.plan.arrays (target_of (task_op inner)))
    (differences (task_hi inner.plan.arrays (task_op inner) inner.number) (task_lo inner.plan.arrays (task_op inner) inner.number))
own_kernel inner s kernel is =
    let own = task_kernel inner.plan s inner.op (task_op inner) inner.number kernel (fit_of inner.plan s inner.op inner.operation) inner.within is in
    let dims = differences (task_hi inner.plan.arrays (task_op inner) inner.number) (task_lo inner.plan.arrays (task_op inner) inner.number) in
    record {
      fits = own.fits;
      lays_fit = own.lays;
      made = λ inputs between values at has idx within. own.value at inputs between has
          (λ i inside. ap (λ x. kernel_value kernel.code.items (loaded_at (lays_from inner.plan.arrays 0 (input_walks inner.plan.arrays (task_op inner) inner.number)) inputs x)) (sym (index-place dims i inside)) ∙ values (place_of dims i) (place-below dims i inside))
          idx within;
    }

pub kernel_found : {lays : List Lay} {t : Dtype} {dims : List ℕ} (inner : TaskView) → Sound inner.plan → (kernel : Kernel) → IsMapOf (task_op inner) kernel
    → lays ≡ lays_from inner.plan.arrays 0 (input_walks inner.plan.arrays (task_op inner) inner.number) → t ≡ type_at inner.plan.arrays (target_of (task_op inner))
    → dims ≡ differences (task_hi inner.plan.arrays (task_op inner) inner.number) (task_lo inner.plan.arrays (task_op inner) inner.number)
    → PlacedKernel inner kernel lays t dims
kernel_found inner s kernel is laid typed sizes = rw (laid, typed, sizes) (own_kernel inner s kernel is)
