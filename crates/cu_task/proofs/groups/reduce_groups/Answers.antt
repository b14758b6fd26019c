use Rattle.std.proofs.Common.{◌≡◌, ℕ, ◌*◌, List, ◌++◌, drop, sym, ap, ◌∙◌, subst, arith}
use Rattle.std.proofs.lemmas.List.{take-append-drop}
use Rattle.cu_num.specs.Dtype.{size_of}
use Rattle.cu_num.specs.declared.types.Dtype.{Dtype}
use Rattle.cu_num.specs.declared.folds.FoldKind.{FoldKind}
use Rattle.cu_shape.specs.Index.{product}
use Rattle.cu_op.specs.Arrays.{type_at}
use Rattle.cu_op.specs.TaskView.{task_op}
use Rattle.cu_op.proofs.TaskCells.{region_lengths}
use Rattle.cu_task.specs.ByLabels.{fold_by_labels}
use Rattle.cu_task.specs.Inputs.{walk_room}
use Rattle.cu_task.proofs.LabelTask.{LabelRegion, HasGroups, dims_long}
use Rattle.cu_task.proofs.LabelPlan.{group_task, region, walk_same, dims_same, rooms, made_room, Cut, groups_made, elements_made}
use Rattle.cu_task.proofs.groups.reduce_groups.Goals as goal

abbrev made_region : FoldKind → ℕ → ℕ → Dtype → Dtype → Dtype → List ℕ → LabelRegion
made_region kind axis groups source label made dims = record { kind = kind; axis = axis; groups = groups; source_type = source; label_type = label; made_type = made; dims = dims }

pub difference-requires : goal.difference-requires
difference-requires c = let e = region_lengths _ _ _ c.input_walk-walk.ensures.over.1 in e.0 ∙ sym e.1

pub split_at-requires : goal.split_at-requires
split_at-requires c =
    let p = c.args.task.now.plan in
    let k = c.args.task.now.op in
    let n = c.args.task.now.number in
    let a = c.args.fold.now in
    let is : task_op c.args.task.now ≡ fold_by_labels a = c.requires.fold in
    let t = group_task p k n a c.input_walk-walk.ensures.sound is c.args.task.now.operation c.args.task.now.within in
    let walked = walk_same p k n a is t c.input_walk-walk.result c.input_walk-walk.ensures.walk in
    let at : c.walk_bytes.result ≡ product (region p k n a is t).dims * size_of (type_at p.arrays a.source) = c.walk_bytes.ensures.bytes ∙ ap (walk_room p.arrays) walked in
    let room = rooms p k n a is t c.args.input.now c.requires.input in
    omega (arith, at, room)

pub dtype_of-requires : goal.dtype_of-requires
dtype_of-requires c =
    let p = c.args.task.now.plan in
    let k = c.args.task.now.op in
    let n = c.args.task.now.number in
    let a = c.args.fold.now in
    let is : task_op c.args.task.now ≡ fold_by_labels a = c.requires.fold in
    let t = group_task p k n a c.input_walk-walk.ensures.sound is c.args.task.now.operation c.args.task.now.within in
    (t.fit.0 0 0 (omega arith)).0

pub dtype_of-requires-2 : goal.dtype_of-requires-2
dtype_of-requires-2 c =
    let p = c.args.task.now.plan in
    let k = c.args.task.now.op in
    let n = c.args.task.now.number in
    let a = c.args.fold.now in
    let is : task_op c.args.task.now ≡ fold_by_labels a = c.requires.fold in
    let t = group_task p k n a c.input_walk-walk.ensures.sound is c.args.task.now.operation c.args.task.now.within in
    (t.fit.1 0 0 (omega arith)).0

pub dtype_of-requires-3 : goal.dtype_of-requires-3
dtype_of-requires-3 c =
    let p = c.args.task.now.plan in
    let k = c.args.task.now.op in
    let n = c.args.task.now.number in
    let a = c.args.fold.now in
    let is : task_op c.args.task.now ≡ fold_by_labels a = c.requires.fold in
    let t = group_task p k n a c.input_walk-walk.ensures.sound is c.args.task.now.operation c.args.task.now.within in
    (t.fit.0 1 0 (omega arith)).0

pub group_region-requires-clause-types : goal.group_region-requires-clause-types
group_region-requires-clause-types c =
    let p = c.args.task.now.plan in
    let k = c.args.task.now.op in
    let n = c.args.task.now.number in
    let a = c.args.fold.now in
    let is : task_op c.args.task.now ≡ fold_by_labels a = c.requires.fold in
    let t = group_task p k n a c.input_walk-walk.ensures.sound is c.args.task.now.operation c.args.task.now.within in
    rw (c.dtype_of.ensures, c.dtype_of-2.ensures) t.fit.2.types

pub group_region-requires-clause-axis : goal.group_region-requires-clause-axis
group_region-requires-clause-axis c =
    let p = c.args.task.now.plan in
    let k = c.args.task.now.op in
    let n = c.args.task.now.number in
    let a = c.args.fold.now in
    let is : task_op c.args.task.now ≡ fold_by_labels a = c.requires.fold in
    let t = group_task p k n a c.input_walk-walk.ensures.sound is c.args.task.now.operation c.args.task.now.within in
    let walked = walk_same p k n a is t c.input_walk-walk.result c.input_walk-walk.ensures.walk in
    let sized : c.difference.result ≡ (region p k n a is t).dims = dims_same p k n a is t c.input_walk-walk.result c.difference.result walked c.difference.ensures in
    rw sized (dims_long p.arrays a.kind a.axis a.groups a.source a.labels a.out n t.fit.2 t.source_grid t.labels_grid t.made_grid t.in_grid)

pub group_region-requires-clause-input : goal.group_region-requires-clause-input
group_region-requires-clause-input c =
    let p = c.args.task.now.plan in
    let k = c.args.task.now.op in
    let n = c.args.task.now.number in
    let a = c.args.fold.now in
    let is : task_op c.args.task.now ≡ fold_by_labels a = c.requires.fold in
    let t = group_task p k n a c.input_walk-walk.ensures.sound is c.args.task.now.operation c.args.task.now.within in
    let walked = walk_same p k n a is t c.input_walk-walk.result c.input_walk-walk.ensures.walk in
    let sized : c.difference.result ≡ (region p k n a is t).dims = dims_same p k n a is t c.input_walk-walk.result c.difference.result walked c.difference.ensures in
    let at : c.walk_bytes.result ≡ product (region p k n a is t).dims * size_of (type_at p.arrays a.source) = c.walk_bytes.ensures.bytes ∙ ap (walk_room p.arrays) walked in
    let long = c.split_at.ensures.front_len in
    rw (sized, c.dtype_of.ensures) (omega (arith, at, long))

pub group_region-requires-clause-labels : goal.group_region-requires-clause-labels
group_region-requires-clause-labels c =
    let p = c.args.task.now.plan in
    let k = c.args.task.now.op in
    let n = c.args.task.now.number in
    let a = c.args.fold.now in
    let is : task_op c.args.task.now ≡ fold_by_labels a = c.requires.fold in
    let t = group_task p k n a c.input_walk-walk.ensures.sound is c.args.task.now.operation c.args.task.now.within in
    let walked = walk_same p k n a is t c.input_walk-walk.result c.input_walk-walk.ensures.walk in
    let sized : c.difference.result ≡ (region p k n a is t).dims = dims_same p k n a is t c.input_walk-walk.result c.difference.result walked c.difference.ensures in
    let at : c.walk_bytes.result ≡ product (region p k n a is t).dims * size_of (type_at p.arrays a.source) = c.walk_bytes.ensures.bytes ∙ ap (walk_room p.arrays) walked in
    let room = rooms p k n a is t c.args.input.now c.requires.input in
    let long = c.split_at.ensures.back_len in
    rw (sized, c.dtype_of-3.ensures) (omega (arith, at, room, long))

pub group_region-requires-clause-out : goal.group_region-requires-clause-out
group_region-requires-clause-out c =
    let p = c.args.task.now.plan in
    let k = c.args.task.now.op in
    let n = c.args.task.now.number in
    let a = c.args.fold.now in
    let is : task_op c.args.task.now ≡ fold_by_labels a = c.requires.fold in
    let t = group_task p k n a c.input_walk-walk.ensures.sound is c.args.task.now.operation c.args.task.now.within in
    let walked = walk_same p k n a is t c.input_walk-walk.result c.input_walk-walk.ensures.walk in
    let sized : c.difference.result ≡ (region p k n a is t).dims = dims_same p k n a is t c.input_walk-walk.result c.difference.result walked c.difference.ensures in
    rw (sized, c.dtype_of-2.ensures) (made_room p k n a is t c.args.output.now c.requires.output)

pub returns-clause-values : goal.returns-clause-values
returns-clause-values c =
    let p = c.args.task.now.plan in
    let k = c.args.task.now.op in
    let n = c.args.task.now.number in
    let a = c.args.fold.now in
    let is : task_op c.args.task.now ≡ fold_by_labels a = c.requires.fold in
    let t = group_task p k n a c.input_walk-walk.ensures.sound is c.args.task.now.operation c.args.task.now.within in
    let walked = walk_same p k n a is t c.input_walk-walk.result c.input_walk-walk.ensures.walk in
    let sized : c.difference.result ≡ (region p k n a is t).dims = dims_same p k n a is t c.input_walk-walk.result c.difference.result walked c.difference.ensures in
    let at : c.walk_bytes.result ≡ product (region p k n a is t).dims * size_of (type_at p.arrays a.source) = c.walk_bytes.ensures.bytes ∙ ap (walk_room p.arrays) walked in
    let same : made_region c.args.fold.now.kind c.args.fold.now.axis c.args.fold.now.groups c.dtype_of.result c.dtype_of-3.result c.dtype_of-2.result c.difference.result ≡ region p k n a is t =
    λ i. made_region a.kind a.axis a.groups (c.dtype_of.ensures i) (c.dtype_of-3.ensures i) (c.dtype_of-2.ensures i) (sized i) in
    let front_long = c.split_at.ensures.front_len in
    let cut : Cut p k n a is t c.args.input.now c.split_at.result.0.now c.split_at.result.1.now = record {
      long = omega (arith, at, front_long);
      whole = sym (take-append-drop c.walk_bytes.result c.args.input.now) ∙ ap (λ (b : List ℕ). b ++ drop c.walk_bytes.result c.args.input.now) (sym c.split_at.ensures.front) ∙ ap (λ (b : List ℕ). c.split_at.result.0.now ++ b) (sym c.split_at.ensures.back);
      rest = ap (λ m. drop m c.args.input.now) (sym at) ∙ sym c.split_at.ensures.back;
    } in
    let has = subst (λ (x : LabelRegion). HasGroups x c.split_at.result.0.now c.split_at.result.1.now c.group_region.new.out) same c.group_region.ensures in
    groups_made p k n a is t c.args.input.now c.split_at.result.0.now c.split_at.result.1.now c.group_region.new.out cut has

pub returns-clause-elements : goal.returns-clause-elements
returns-clause-elements c =
    let p = c.args.task.now.plan in
    let k = c.args.task.now.op in
    let n = c.args.task.now.number in
    let a = c.args.fold.now in
    let is : task_op c.args.task.now ≡ fold_by_labels a = c.requires.fold in
    let t = group_task p k n a c.input_walk-walk.ensures.sound is c.args.task.now.operation c.args.task.now.within in
    let walked = walk_same p k n a is t c.input_walk-walk.result c.input_walk-walk.ensures.walk in
    let sized : c.difference.result ≡ (region p k n a is t).dims = dims_same p k n a is t c.input_walk-walk.result c.difference.result walked c.difference.ensures in
    let same : made_region c.args.fold.now.kind c.args.fold.now.axis c.args.fold.now.groups c.dtype_of.result c.dtype_of-3.result c.dtype_of-2.result c.difference.result ≡ region p k n a is t =
    λ i. made_region a.kind a.axis a.groups (c.dtype_of.ensures i) (c.dtype_of-3.ensures i) (c.dtype_of-2.ensures i) (sized i) in
    let has = subst (λ (x : LabelRegion). HasGroups x c.split_at.result.0.now c.split_at.result.1.now c.group_region.new.out) same c.group_region.ensures in
    elements_made p k n a is t c.split_at.result.0.now c.split_at.result.1.now c.group_region.new.out (c.group_region.auto.out ∙ c.requires.output) has
