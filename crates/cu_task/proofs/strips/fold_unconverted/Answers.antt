use Rattle.cu_kern.specs.Lays.{lay_types}
use Rattle.cu_kern.specs.Steps.{loaded_by_place}
use Rattle.cu_shape.specs.Index.{product}
use Rattle.cu_task.proofs.LastConversion.{folded_kept, number_kept, value_kept}
use Rattle.cu_task.proofs.strips.fold_unconverted.Goals as goal

pub returns-in-Some-clause-values : goal.returns-in-Some-clause-values
returns-in-Some-clause-values c p below =
    let map = c.args.map in
    let fold = c.args.fold.now in
    let shorter = c.in-Some.shorter in
    number_kept map.kernel.now.code.items shorter.kernel.code.items (lay_types c.as_slice.result.now) fold.from shorter.dtype
    (loaded_by_place map.lays.now.items map.inputs.now fold.dims p) c.in-Some.ensures (c.fold_strips.ensures.values p below)

pub returns-in-Some-clause-folded : goal.returns-in-Some-clause-folded
returns-in-Some-clause-folded c at is =
    let map = c.args.map in
    let fold = c.args.fold.now in
    let shorter = c.in-Some.shorter in
    let same = c.in-Some.ensures in
    folded_kept fold shorter.dtype at (product fold.dims) c.fold_strips.new.output same.held
    (c.fold_strips.ensures.folded at
    (λ p below. value_kept map.kernel.now.code.items shorter.kernel.code.items (lay_types c.as_slice.result.now) fold.from shorter.dtype
    (loaded_by_place map.lays.now.items map.inputs.now fold.dims p) c.in-Some.ensures (at p) (c.fold_strips.ensures.values p below) (is p below)))
