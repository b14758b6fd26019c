-- A task of a fold by labels in a plan: the bytes of its regions, and what is made of them.
use Rattle.std.proofs.Common.{◌≡◌, ℕ, ◌+◌, ◌*◌, ◌<◌, List, [], ◌++◌, length, drop, set, get_or, sym, ap, ◌∙◌, subst, arith}
use Rattle.std.specs.Prelude.{slice_index_or}
use Rattle.cu_num.specs.Dtype.{size_of}
use Rattle.cu_shape.specs.Index.{product, differences}
use Rattle.cu_grid.specs.Grid.{IsGrid}
use Rattle.cu_op.specs.Arrays.{grid_at, type_at, grid_counts}
use Rattle.cu_op.specs.Cells.{regions_of, task_lo, task_hi}
use Rattle.cu_op.specs.Chunks.{walk}
use Rattle.cu_op.specs.Grouping.{grouped_walk, labels_walk}
use Rattle.cu_op.specs.Operation.{target_of}
use Rattle.cu_op.specs.PlanView.{PlanView}
use Rattle.cu_op.specs.Schedule.{op_of}
use Rattle.cu_op.specs.Sound.{Sound}
use Rattle.cu_op.specs.Walks.{input_walks}
use Rattle.cu_op.specs.declared.operation.Op.{Op}
use Rattle.cu_op.specs.declared.walks.Walk.{Walk}
use Rattle.cu_op.proofs.Operations.{Fit}
use Rattle.cu_op.proofs.Plans.{grid_ok}
use Rattle.cu_op.proofs.TaskCells.{fit_of}
use Rattle.cu_region.specs.Writing.{AreElements}
use Rattle.cu_task.specs.ByLabels.{fold_by_labels}
use Rattle.cu_task.specs.Inputs.{walk_room, room_of_walks, HasRegion}
use Rattle.cu_task.specs.Task.{IsComputed}
use Rattle.cu_task.specs.declared.groups.LabelFold.{LabelFold}
use Rattle.cu_task.proofs.InputReads.{reads_part}
use Rattle.cu_task.proofs.LabelTask.{LabelRegion, HasGroups, own_region, labels_size, result_length, groups_are, group_elements}
use Rattle.cu_task.proofs.TaskRooms.{IsComputedBy, computed_by}

pub record GroupTask (p : PlanView) (k task : ℕ) (a : LabelFold) : Type 0 where
  pub fit : Fit p.arrays k (fold_by_labels a)
  pub in_grid : task < product (grid_counts (grid_at p.arrays a.out))
  pub source_grid : IsGrid (grid_at p.arrays a.source)
  pub labels_grid : IsGrid (grid_at p.arrays a.labels)
  pub made_grid : IsGrid (grid_at p.arrays a.out)

pub group_task : (p : PlanView) (k task : ℕ) (a : LabelFold) → Sound p → op_of p k ≡ fold_by_labels a → k < length p.ops → task < regions_of p.arrays (op_of p k) → GroupTask p k task a
group_task p k task a s is below h =
    let fit = subst (Fit p.arrays k) is (fit_of p s k below) in
    record {
      fit = fit;
      in_grid = subst (λ (o : Op). task < regions_of p.arrays o) is h;
      source_grid = grid_ok p a.source s (fit.0 0 0 (omega arith)).0;
      labels_grid = grid_ok p a.labels s (fit.0 1 0 (omega arith)).0;
      made_grid = grid_ok p a.out s (fit.1 0 0 (omega arith)).0;
    }

two_rooms : (a b : ℕ) → 0 + a + b ≡ a + b
two_rooms a b = omega arith

module _ (p : PlanView) (k task : ℕ) (a : LabelFold) (is : op_of p k ≡ fold_by_labels a) (t : GroupTask p k task a) where
  abbrev pub region : LabelRegion
  region = own_region p.arrays a.kind a.axis a.groups a.source a.labels a.out task t.fit.2 t.source_grid t.labels_grid t.made_grid t.in_grid

  abbrev source_region : Walk
  source_region = grouped_walk (grid_at p.arrays a.source) a.axis a.source (task_lo p.arrays (fold_by_labels a) task) (task_hi p.arrays (fold_by_labels a) task)

  abbrev labels_region : Walk
  labels_region = labels_walk (grid_at p.arrays a.source) a.axis a.labels (task_lo p.arrays (fold_by_labels a) task) (task_hi p.arrays (fold_by_labels a) task)

  pub walk_same : (w : Walk) → w ≡ slice_index_or (input_walks p.arrays (op_of p k) task) 0 (walk 0 [] []) → w ≡ source_region
  walk_same w e = e ∙ ap (λ (o : Op). slice_index_or (input_walks p.arrays o task) 0 (walk 0 [] [])) is

  pub dims_same : (w : Walk) (ds : List ℕ) → w ≡ source_region → ds ≡ differences w.region.hi w.region.lo → ds ≡ region.dims
  dims_same w ds same e = e ∙ ap (λ (x : Walk). differences x.region.hi x.region.lo) same

  -- the source's elements stand in front, the labels behind them
  pub rooms : (input : List ℕ) → length input ≡ room_of_walks p.arrays (input_walks p.arrays (op_of p k) task)
      → length input ≡ product region.dims * size_of region.source_type + get_or region.dims region.axis 0 * size_of region.label_type
  rooms input e =
      e ∙ ap (λ (o : Op). room_of_walks p.arrays (input_walks p.arrays o task)) is ∙ two_rooms (walk_room p.arrays source_region) (walk_room p.arrays labels_region)
      ∙ ap (λ m. product region.dims * size_of region.source_type + m * size_of region.label_type)
      (labels_size p.arrays a.kind a.axis a.groups a.source a.labels a.out task t.fit.2 t.source_grid t.labels_grid t.made_grid t.in_grid)

  abbrev lo_at : Op → List ℕ
  lo_at o = task_lo p.arrays o task

  abbrev hi_at : Op → List ℕ
  hi_at o = task_hi p.arrays o task

  own_room : (output : List ℕ) → length output ≡ product (differences (hi_at (op_of p k)) (lo_at (op_of p k))) * size_of (type_at p.arrays (target_of (op_of p k)))
      → length output ≡ product (differences (hi_at (fold_by_labels a)) (lo_at (fold_by_labels a))) * size_of region.made_type
  own_room output e = e ∙ ap (λ (o : Op). product (differences (hi_at o) (lo_at o)) * size_of (type_at p.arrays (target_of o))) is

  pub made_room : (output : List ℕ) → length output ≡ product (differences (hi_at (op_of p k)) (lo_at (op_of p k))) * size_of (type_at p.arrays (target_of (op_of p k)))
      → length output ≡ product (set region.dims region.axis region.groups) * size_of region.made_type
  made_room output e =
      own_room output e ∙ ap (λ m. m * size_of region.made_type) (sym (result_length p.arrays a.kind a.axis a.groups a.source a.labels a.out task t.fit.2 t.source_grid t.labels_grid t.made_grid t.in_grid))

  -- the regions in the task's bytes
  pub record Cut (input front behind : List ℕ) : Type 0 where
    pub long : length front ≡ product region.dims * size_of region.source_type
    pub whole : input ≡ front ++ behind
    pub rest : drop (walk_room p.arrays source_region) input ≡ behind

  pub groups_made : (input front behind out : List ℕ) → Cut input front behind → HasGroups region front behind out → IsComputed p k task (target_of (op_of p k)) input out
  groups_made input front behind out cut has = computed_by p k task (fold_by_labels a) input out is made
    where
      made : IsComputedBy p.arrays (fold_by_labels a) task a.out input out
      made at regions idx w =
          let elements = subst (HasRegion (type_at p.arrays a.source) (at a.source) source_region.region.lo source_region.region.hi) cut.whole regions.0 in
          let marks = subst (HasRegion (type_at p.arrays a.labels) (at a.labels) labels_region.region.lo labels_region.region.hi) cut.rest regions.1.0 in
          groups_are p.arrays a.kind a.axis a.groups a.source a.labels a.out task t.fit.2 t.source_grid t.labels_grid t.made_grid t.in_grid at front behind
          (reads_part (type_at p.arrays a.source) (at a.source) source_region.region.lo source_region.region.hi front behind cut.long elements) marks out has idx w

  pub elements_made : (front behind out : List ℕ) → length out ≡ product (differences (hi_at (op_of p k)) (lo_at (op_of p k))) * size_of (type_at p.arrays (target_of (op_of p k)))
      → HasGroups region front behind out → AreElements (type_at p.arrays (target_of (op_of p k))) out
  elements_made front behind out long has =
      subst (λ (o : Op). AreElements (type_at p.arrays (target_of o)) out) (sym is)
      (group_elements p.arrays a.kind a.axis a.groups a.source a.labels a.out task t.fit.2 t.source_grid t.labels_grid t.made_grid t.in_grid front behind out (own_room out long) has)
