use Rattle.std.proofs.Common.{ℕ, List, sym, ◌∙◌, subst}
use Rattle.cu_num.specs.Dtype.{IsInteger}
use Rattle.cu_op.specs.TaskView.{task_op}
use Rattle.cu_op.proofs.TaskCells.{region_lengths}
use Rattle.cu_region.proofs.Whole.{bytes_small}
use Rattle.cu_task.proofs.ScanTask.{CarriesAs}
use Rattle.cu_task.proofs.SumTasks.{IsSplit, own_sizes, sizes_are, bytes_are, fits, front_long, given, elements, carry_parts, carry_task, carry_type, carry_own_rank, carry_made, carry_values}
use Rattle.cu_task.proofs.scans.carry.Goals as goal

pub difference-dims-requires : goal.difference-dims-requires
difference-dims-requires c = let e = region_lengths _ _ _ c.input_walk-walk.ensures.over.1 in e.0 ∙ sym e.1

pub dtype_of-requires : goal.dtype_of-requires
dtype_of-requires c =
    let t = c.args.task.now in
    let m = carry_parts (task_op t) c.args.axis c.args.out c.requires.carry in
    (carry_task t c.input_walk-walk.ensures.sound c.args.axis c.args.out m).out_within

pub split_at-requires : goal.split_at-requires
split_at-requires c =
    let t = c.args.task.now in
    let m = carry_parts (task_op t) c.args.axis c.args.out c.requires.carry in
    let k = carry_task t c.input_walk-walk.ensures.sound c.args.axis c.args.out m in
    fits t c.args.axis m.sums c.args.out k c.args.inputs.now c.walk_bytes.result c.requires.inputs
    (bytes_are t c.args.axis m.sums c.args.out k c.input_walk-walk.result c.walk_bytes.result c.input_walk-walk.ensures.walk c.walk_bytes.ensures.bytes)

pub carry_region-requires-clause-acc : goal.carry_region-requires-clause-acc
carry_region-requires-clause-acc c =
    let t = c.args.task.now in
    let sound = c.input_walk-walk.ensures.sound in
    let m = carry_parts (task_op t) c.args.axis c.args.out c.requires.carry in
    let k = carry_task t sound c.args.axis c.args.out m in
    let sizes = sizes_are t c.args.axis m.sums c.args.out k c.input_walk-walk.result c.difference-dims.result c.input_walk-walk.ensures.walk c.difference-dims.ensures in
    subst IsInteger (sym c.dtype_of.ensures) k.integer

pub carry_region-requires-clause-axis : goal.carry_region-requires-clause-axis
carry_region-requires-clause-axis c =
    let t = c.args.task.now in
    let sound = c.input_walk-walk.ensures.sound in
    let m = carry_parts (task_op t) c.args.axis c.args.out c.requires.carry in
    let k = carry_task t sound c.args.axis c.args.out m in
    let sizes = sizes_are t c.args.axis m.sums c.args.out k c.input_walk-walk.result c.difference-dims.result c.input_walk-walk.ensures.walk c.difference-dims.ensures in
    rw sizes (carry_own_rank t sound c.args.axis c.args.out m)

pub carry_region-requires-clause-sums : goal.carry_region-requires-clause-sums
carry_region-requires-clause-sums c =
    let t = c.args.task.now in
    let sound = c.input_walk-walk.ensures.sound in
    let m = carry_parts (task_op t) c.args.axis c.args.out c.requires.carry in
    let k = carry_task t sound c.args.axis c.args.out m in
    let sizes = sizes_are t c.args.axis m.sums c.args.out k c.input_walk-walk.result c.difference-dims.result c.input_walk-walk.ensures.walk c.difference-dims.ensures in
    let split : IsSplit t c.args.axis m.sums c.args.out k c.walk_bytes.result c.args.inputs.now c.split_at.result.0.now c.split_at.result.1.now = record {
      all = c.requires.inputs;
      at = bytes_are t c.args.axis m.sums c.args.out k c.input_walk-walk.result c.walk_bytes.result c.input_walk-walk.ensures.walk c.walk_bytes.ensures.bytes;
      long = c.split_at.ensures.front_len;
      first = c.split_at.ensures.front;
      rest = c.split_at.ensures.back;
    } in
    rw (sizes, c.dtype_of.ensures, sym (carry_type t sound c.args.axis c.args.out m)) (front_long t c.args.axis m.sums c.args.out k c.walk_bytes.result c.args.inputs.now c.split_at.result.0.now c.split_at.result.1.now split)

pub carry_region-requires-clause-above : goal.carry_region-requires-clause-above
carry_region-requires-clause-above c =
    let t = c.args.task.now in
    let sound = c.input_walk-walk.ensures.sound in
    let m = carry_parts (task_op t) c.args.axis c.args.out c.requires.carry in
    let k = carry_task t sound c.args.axis c.args.out m in
    let sizes = sizes_are t c.args.axis m.sums c.args.out k c.input_walk-walk.result c.difference-dims.result c.input_walk-walk.ensures.walk c.difference-dims.ensures in
    let split : IsSplit t c.args.axis m.sums c.args.out k c.walk_bytes.result c.args.inputs.now c.split_at.result.0.now c.split_at.result.1.now = record {
      all = c.requires.inputs;
      at = bytes_are t c.args.axis m.sums c.args.out k c.input_walk-walk.result c.walk_bytes.result c.input_walk-walk.ensures.walk c.walk_bytes.ensures.bytes;
      long = c.split_at.ensures.front_len;
      first = c.split_at.ensures.front;
      rest = c.split_at.ensures.back;
    } in
    rw (sizes, c.dtype_of.ensures) (given t c.args.axis m.sums c.args.out k c.walk_bytes.result c.args.inputs.now c.split_at.result.0.now c.split_at.result.1.now split)

pub carry_region-requires-clause-out : goal.carry_region-requires-clause-out
carry_region-requires-clause-out c =
    let t = c.args.task.now in
    let sound = c.input_walk-walk.ensures.sound in
    let m = carry_parts (task_op t) c.args.axis c.args.out c.requires.carry in
    let k = carry_task t sound c.args.axis c.args.out m in
    let sizes = sizes_are t c.args.axis m.sums c.args.out k c.input_walk-walk.result c.difference-dims.result c.input_walk-walk.ensures.walk c.difference-dims.ensures in
    rw (sizes, c.dtype_of.ensures) (c.requires.output ∙ sym (carry_made t sound c.args.axis c.args.out m))

pub returns-clause-values : goal.returns-clause-values
returns-clause-values c =
    let t = c.args.task.now in
    let sound = c.input_walk-walk.ensures.sound in
    let m = carry_parts (task_op t) c.args.axis c.args.out c.requires.carry in
    let k = carry_task t sound c.args.axis c.args.out m in
    let sizes = sizes_are t c.args.axis m.sums c.args.out k c.input_walk-walk.result c.difference-dims.result c.input_walk-walk.ensures.walk c.difference-dims.ensures in
    let split : IsSplit t c.args.axis m.sums c.args.out k c.walk_bytes.result c.args.inputs.now c.split_at.result.0.now c.split_at.result.1.now = record {
      all = c.requires.inputs;
      at = bytes_are t c.args.axis m.sums c.args.out k c.input_walk-walk.result c.walk_bytes.result c.input_walk-walk.ensures.walk c.walk_bytes.ensures.bytes;
      long = c.split_at.ensures.front_len;
      first = c.split_at.ensures.front;
      rest = c.split_at.ensures.back;
    } in
    let totals = subst (λ acc. CarriesAs acc (own_sizes t c.args.axis m.sums c.args.out k) c.args.axis c.split_at.result.0.now c.split_at.result.1.now c.carry_region.new.out) c.dtype_of.ensures
    (subst (λ (ds : List ℕ). CarriesAs c.dtype_of.result ds c.args.axis c.split_at.result.0.now c.split_at.result.1.now c.carry_region.new.out) sizes c.carry_region.ensures) in
    carry_values t sound c.args.axis c.args.out m c.walk_bytes.result c.args.inputs.now c.split_at.result.0.now c.split_at.result.1.now c.carry_region.new.out split totals

pub returns-clause-elements : goal.returns-clause-elements
returns-clause-elements c =
    let t = c.args.task.now in
    let sound = c.input_walk-walk.ensures.sound in
    let m = carry_parts (task_op t) c.args.axis c.args.out c.requires.carry in
    let k = carry_task t sound c.args.axis c.args.out m in
    let sizes = sizes_are t c.args.axis m.sums c.args.out k c.input_walk-walk.result c.difference-dims.result c.input_walk-walk.ensures.walk c.difference-dims.ensures in
    elements t c.args.axis m.sums c.args.out k c.carry_region.new.out (bytes_small c.carry_region.new.out c.type_inv.output)
