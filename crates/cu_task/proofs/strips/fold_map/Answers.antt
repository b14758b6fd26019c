use Rattle.std.proofs.Common.{length, sym, ap, ◌∙◌, arith}
use Rattle.cu_num.specs.Element.{element_at}
use Rattle.cu_num.specs.declared.layout.Endian.TheVariants.{Little}
use Rattle.cu_op.proofs.TaskCells.{region_lengths}
use Rattle.cu_op.specs.Arrays.{type_at}
use Rattle.cu_op.specs.Operation.{kernel_of}
use Rattle.cu_op.specs.declared.walks.Walk.{Walk}
use Rattle.cu_shape.specs.Index.{product, differences}
use Rattle.cu_task.proofs.PartialFolds.{fold_found, results_in}
use Rattle.cu_task.proofs.StripBytes.{written_out}
use Rattle.cu_task.proofs.StripTask.{kernel_found}
use Rattle.cu_task.specs.Inputs.{lays_from}
use Rattle.cu_task.proofs.strips.fold_map.Goals as goal

pub dtype_of-requires-2 : goal.dtype_of-requires-2
dtype_of-requires-2 c = results_in c.args.task.now c.operation.ensures.sound (sym c.operation.ensures.operation ∙ c.in-Fold.is)

pub difference-requires : goal.difference-requires
difference-requires c = let e = region_lengths _ _ _ c.input_walk-walk.ensures.over.1 in e.0 ∙ sym e.1

-- ---- the fold

pub fold_unconverted-requires-clause-types : goal.fold_unconverted-requires-clause-types
fold_unconverted-requires-clause-types c =
    (fold_found c.args.task.now c.operation.ensures.sound (sym c.operation.ensures.operation ∙ c.in-Fold.is) c.input_walk-walk.ensures.walk c.dtype_of.ensures c.dtype_of-2.ensures c.difference.ensures).types

pub fold_unconverted-requires-clause-small : goal.fold_unconverted-requires-clause-small
fold_unconverted-requires-clause-small c =
    let found = fold_found c.args.task.now c.operation.ensures.sound (sym c.operation.ensures.operation ∙ c.in-Fold.is) c.input_walk-walk.ensures.walk c.dtype_of.ensures c.dtype_of-2.ensures c.difference.ensures in
    let few = found.few in
    omega (arith, few)

pub fold_unconverted-requires-clause-strip : goal.fold_unconverted-requires-clause-strip
fold_unconverted-requires-clause-strip c =
    let found = fold_found c.args.task.now c.operation.ensures.sound (sym c.operation.ensures.operation ∙ c.in-Fold.is) c.input_walk-walk.ensures.walk c.dtype_of.ensures c.dtype_of-2.ensures c.difference.ensures in
    c.requires.strip ∙ found.input

pub fold_unconverted-requires-clause-output : goal.fold_unconverted-requires-clause-output
fold_unconverted-requires-clause-output c =
    let found = fold_found c.args.task.now c.operation.ensures.sound (sym c.operation.ensures.operation ∙ c.in-Fold.is) c.input_walk-walk.ensures.walk c.dtype_of.ensures c.dtype_of-2.ensures c.difference.ensures in
    c.requires.output ∙ found.output

-- ---- the map

pub fold_unconverted-requires-clause-kernel : goal.fold_unconverted-requires-clause-kernel
fold_unconverted-requires-clause-kernel c =
    let found = fold_found c.args.task.now c.operation.ensures.sound (sym c.operation.ensures.operation ∙ c.in-Fold.is) c.input_walk-walk.ensures.walk c.dtype_of.ensures c.dtype_of-2.ensures c.difference.ensures in
    let kernel = kernel_found c.args.map.now c.operation-2.ensures.sound c.in-Some.kernel.now (ap kernel_of (sym c.operation-2.ensures.operation) ∙ c.in-Some.ensures.kernel)
    (c.lays_of-lays.ensures ∙ ap (lays_from c.args.map.now.plan.arrays 0) c.input_walks.ensures.walks)
    (found.source ∙ ap (λ (w : Walk). type_at c.args.task.now.plan.arrays w.array) c.input_walk-walk.ensures.walk ∙ sym c.requires.map.inside.typed)
    (c.difference.ensures ∙ ap (λ (w : Walk). differences w.region.hi w.region.lo) c.input_walk-walk.ensures.walk ∙ sym c.requires.map.inside.sizes) in
    kernel.fits

pub fold_unconverted-requires-clause-lays : goal.fold_unconverted-requires-clause-lays
fold_unconverted-requires-clause-lays c =
    let found = fold_found c.args.task.now c.operation.ensures.sound (sym c.operation.ensures.operation ∙ c.in-Fold.is) c.input_walk-walk.ensures.walk c.dtype_of.ensures c.dtype_of-2.ensures c.difference.ensures in
    let kernel = kernel_found c.args.map.now c.operation-2.ensures.sound c.in-Some.kernel.now (ap kernel_of (sym c.operation-2.ensures.operation) ∙ c.in-Some.ensures.kernel)
    (c.lays_of-lays.ensures ∙ ap (lays_from c.args.map.now.plan.arrays 0) c.input_walks.ensures.walks)
    (found.source ∙ ap (λ (w : Walk). type_at c.args.task.now.plan.arrays w.array) c.input_walk-walk.ensures.walk ∙ sym c.requires.map.inside.typed)
    (c.difference.ensures ∙ ap (λ (w : Walk). differences w.region.hi w.region.lo) c.input_walk-walk.ensures.walk ∙ sym c.requires.map.inside.sizes) in
    kernel.lays_fit (length c.args.inputs.now) (omega (arith, c.requires.inputs))

-- ---- what is made

pub returns-clause-values : goal.returns-clause-values
returns-clause-values c =
    let found = fold_found c.args.task.now c.operation.ensures.sound (sym c.operation.ensures.operation ∙ c.in-Fold.is) c.input_walk-walk.ensures.walk c.dtype_of.ensures c.dtype_of-2.ensures c.difference.ensures in
    let kernel = kernel_found c.args.map.now c.operation-2.ensures.sound c.in-Some.kernel.now (ap kernel_of (sym c.operation-2.ensures.operation) ∙ c.in-Some.ensures.kernel)
    (c.lays_of-lays.ensures ∙ ap (lays_from c.args.map.now.plan.arrays 0) c.input_walks.ensures.walks)
    (found.source ∙ ap (λ (w : Walk). type_at c.args.task.now.plan.arrays w.array) c.input_walk-walk.ensures.walk ∙ sym c.requires.map.inside.typed)
    (c.difference.ensures ∙ ap (λ (w : Walk). differences w.region.hi w.region.lo) c.input_walk-walk.ensures.walk ∙ sym c.requires.map.inside.sizes) in
    let (between, made) = written_out c.dtype_of.result (product c.difference.result) _ c.fold_unconverted.ensures.values in
    record {
      between = between;
      inner_made = kernel.made c.args.inputs.now between made;
      outer_made = found.values between c.fold_unconverted.new.output
          (c.strips_law.ensures _ (element_at Little c.dtype_of.result between) c.fold_unconverted.new.output found.types found.enough (c.fold_unconverted.ensures.folded (element_at Little c.dtype_of.result between) made));
    }

pub returns-clause-elements : goal.returns-clause-elements
returns-clause-elements c =
    let found = fold_found c.args.task.now c.operation.ensures.sound (sym c.operation.ensures.operation ∙ c.in-Fold.is) c.input_walk-walk.ensures.walk c.dtype_of.ensures c.dtype_of-2.ensures c.difference.ensures in
    let (between, made) = written_out c.dtype_of.result (product c.difference.result) _ c.fold_unconverted.ensures.values in
    found.elements between c.fold_unconverted.new.output (c.fold_unconverted.auto.output ∙ c.requires.output ∙ found.output)
    (c.strips_law.ensures _ (element_at Little c.dtype_of.result between) c.fold_unconverted.new.output found.types found.enough (c.fold_unconverted.ensures.folded (element_at Little c.dtype_of.result between) made))
