use Rattle.std.proofs.Common.{ℕ, List, sym, ◌∙◌, subst}
use Rattle.cu_num.specs.Dtype.{IsInteger}
use Rattle.cu_op.specs.Arrays.{type_at}
use Rattle.cu_op.specs.TaskView.{task_op}
use Rattle.cu_op.proofs.TaskCells.{region_lengths}
use Rattle.cu_region.proofs.Whole.{bytes_small}
use Rattle.cu_task.proofs.ScanTask.{ScansAs}
use Rattle.cu_task.proofs.SumTasks.{IsSplit, own_sizes, sizes_are, bytes_are, fits, front_long, given, elements, scan_parts, scan_task, source_within, scan_own_rank, scan_made, scan_values}
use Rattle.cu_task.proofs.scans.scan.Goals as goal

pub difference-dims-requires : goal.difference-dims-requires
difference-dims-requires c = let e = region_lengths _ _ _ c.input_walk-walk.ensures.over.1 in e.0 ∙ sym e.1

pub dtype_of-requires : goal.dtype_of-requires
dtype_of-requires c =
    let t = c.args.task.now in
    let m = scan_parts (task_op t) c.args.axis c.args.source c.args.out c.requires.scan in
    source_within t c.input_walk-walk.ensures.sound c.args.axis c.args.source c.args.out m

pub dtype_of-requires-2 : goal.dtype_of-requires-2
dtype_of-requires-2 c =
    let t = c.args.task.now in
    let m = scan_parts (task_op t) c.args.axis c.args.source c.args.out c.requires.scan in
    (scan_task t c.input_walk-walk.ensures.sound c.args.axis c.args.source c.args.out m).out_within

pub split_at-requires : goal.split_at-requires
split_at-requires c =
    let t = c.args.task.now in
    let m = scan_parts (task_op t) c.args.axis c.args.source c.args.out c.requires.scan in
    let k = scan_task t c.input_walk-walk.ensures.sound c.args.axis c.args.source c.args.out m in
    fits t c.args.axis c.args.source c.args.out k c.args.inputs.now c.walk_bytes.result c.requires.inputs
    (bytes_are t c.args.axis c.args.source c.args.out k c.input_walk-walk.result c.walk_bytes.result c.input_walk-walk.ensures.walk c.walk_bytes.ensures.bytes)

pub scan_region-requires-clause-acc : goal.scan_region-requires-clause-acc
scan_region-requires-clause-acc c =
    let t = c.args.task.now in
    let sound = c.input_walk-walk.ensures.sound in
    let m = scan_parts (task_op t) c.args.axis c.args.source c.args.out c.requires.scan in
    let k = scan_task t sound c.args.axis c.args.source c.args.out m in
    let sizes = sizes_are t c.args.axis c.args.source c.args.out k c.input_walk-walk.result c.difference-dims.result c.input_walk-walk.ensures.walk c.difference-dims.ensures in
    subst IsInteger (sym c.dtype_of-2.ensures) k.integer

pub scan_region-requires-clause-axis : goal.scan_region-requires-clause-axis
scan_region-requires-clause-axis c =
    let t = c.args.task.now in
    let sound = c.input_walk-walk.ensures.sound in
    let m = scan_parts (task_op t) c.args.axis c.args.source c.args.out c.requires.scan in
    let k = scan_task t sound c.args.axis c.args.source c.args.out m in
    let sizes = sizes_are t c.args.axis c.args.source c.args.out k c.input_walk-walk.result c.difference-dims.result c.input_walk-walk.ensures.walk c.difference-dims.ensures in
    rw sizes (scan_own_rank t sound c.args.axis c.args.source c.args.out m)

pub scan_region-requires-clause-input : goal.scan_region-requires-clause-input
scan_region-requires-clause-input c =
    let t = c.args.task.now in
    let sound = c.input_walk-walk.ensures.sound in
    let m = scan_parts (task_op t) c.args.axis c.args.source c.args.out c.requires.scan in
    let k = scan_task t sound c.args.axis c.args.source c.args.out m in
    let sizes = sizes_are t c.args.axis c.args.source c.args.out k c.input_walk-walk.result c.difference-dims.result c.input_walk-walk.ensures.walk c.difference-dims.ensures in
    let split : IsSplit t c.args.axis c.args.source c.args.out k c.walk_bytes.result c.args.inputs.now c.split_at.result.0.now c.split_at.result.1.now = record {
      all = c.requires.inputs;
      at = bytes_are t c.args.axis c.args.source c.args.out k c.input_walk-walk.result c.walk_bytes.result c.input_walk-walk.ensures.walk c.walk_bytes.ensures.bytes;
      long = c.split_at.ensures.front_len;
      first = c.split_at.ensures.front;
      rest = c.split_at.ensures.back;
    } in
    rw (sizes, c.dtype_of.ensures) (front_long t c.args.axis c.args.source c.args.out k c.walk_bytes.result c.args.inputs.now c.split_at.result.0.now c.split_at.result.1.now split)

pub scan_region-requires-clause-carry : goal.scan_region-requires-clause-carry
scan_region-requires-clause-carry c =
    let t = c.args.task.now in
    let sound = c.input_walk-walk.ensures.sound in
    let m = scan_parts (task_op t) c.args.axis c.args.source c.args.out c.requires.scan in
    let k = scan_task t sound c.args.axis c.args.source c.args.out m in
    let sizes = sizes_are t c.args.axis c.args.source c.args.out k c.input_walk-walk.result c.difference-dims.result c.input_walk-walk.ensures.walk c.difference-dims.ensures in
    let split : IsSplit t c.args.axis c.args.source c.args.out k c.walk_bytes.result c.args.inputs.now c.split_at.result.0.now c.split_at.result.1.now = record {
      all = c.requires.inputs;
      at = bytes_are t c.args.axis c.args.source c.args.out k c.input_walk-walk.result c.walk_bytes.result c.input_walk-walk.ensures.walk c.walk_bytes.ensures.bytes;
      long = c.split_at.ensures.front_len;
      first = c.split_at.ensures.front;
      rest = c.split_at.ensures.back;
    } in
    rw (sizes, c.dtype_of-2.ensures) (given t c.args.axis c.args.source c.args.out k c.walk_bytes.result c.args.inputs.now c.split_at.result.0.now c.split_at.result.1.now split)

pub scan_region-requires-clause-out : goal.scan_region-requires-clause-out
scan_region-requires-clause-out c =
    let t = c.args.task.now in
    let sound = c.input_walk-walk.ensures.sound in
    let m = scan_parts (task_op t) c.args.axis c.args.source c.args.out c.requires.scan in
    let k = scan_task t sound c.args.axis c.args.source c.args.out m in
    let sizes = sizes_are t c.args.axis c.args.source c.args.out k c.input_walk-walk.result c.difference-dims.result c.input_walk-walk.ensures.walk c.difference-dims.ensures in
    rw (sizes, c.dtype_of-2.ensures) (c.requires.output ∙ sym (scan_made t sound c.args.axis c.args.source c.args.out m))

pub returns-clause-values : goal.returns-clause-values
returns-clause-values c =
    let t = c.args.task.now in
    let sound = c.input_walk-walk.ensures.sound in
    let m = scan_parts (task_op t) c.args.axis c.args.source c.args.out c.requires.scan in
    let k = scan_task t sound c.args.axis c.args.source c.args.out m in
    let sizes = sizes_are t c.args.axis c.args.source c.args.out k c.input_walk-walk.result c.difference-dims.result c.input_walk-walk.ensures.walk c.difference-dims.ensures in
    let split : IsSplit t c.args.axis c.args.source c.args.out k c.walk_bytes.result c.args.inputs.now c.split_at.result.0.now c.split_at.result.1.now = record {
      all = c.requires.inputs;
      at = bytes_are t c.args.axis c.args.source c.args.out k c.input_walk-walk.result c.walk_bytes.result c.input_walk-walk.ensures.walk c.walk_bytes.ensures.bytes;
      long = c.split_at.ensures.front_len;
      first = c.split_at.ensures.front;
      rest = c.split_at.ensures.back;
    } in
    let front = c.split_at.result.0.now in
    let behind = c.split_at.result.1.now in
    let sums = subst (λ acc. ScansAs (type_at t.plan.arrays c.args.source) acc (own_sizes t c.args.axis c.args.source c.args.out k) c.args.axis front behind c.scan_region.new.out) c.dtype_of-2.ensures
    (subst (λ from. ScansAs from c.dtype_of-2.result (own_sizes t c.args.axis c.args.source c.args.out k) c.args.axis front behind c.scan_region.new.out) c.dtype_of.ensures
    (subst (λ (ds : List ℕ). ScansAs c.dtype_of.result c.dtype_of-2.result ds c.args.axis front behind c.scan_region.new.out) sizes c.scan_region.ensures)) in
    scan_values t sound c.args.axis c.args.source c.args.out m c.walk_bytes.result c.args.inputs.now front behind c.scan_region.new.out split sums

pub returns-clause-elements : goal.returns-clause-elements
returns-clause-elements c =
    let t = c.args.task.now in
    let sound = c.input_walk-walk.ensures.sound in
    let m = scan_parts (task_op t) c.args.axis c.args.source c.args.out c.requires.scan in
    let k = scan_task t sound c.args.axis c.args.source c.args.out m in
    let sizes = sizes_are t c.args.axis c.args.source c.args.out k c.input_walk-walk.result c.difference-dims.result c.input_walk-walk.ensures.walk c.difference-dims.ensures in
    elements t c.args.axis c.args.source c.args.out k c.scan_region.new.out (bytes_small c.scan_region.new.out c.type_inv.output)
