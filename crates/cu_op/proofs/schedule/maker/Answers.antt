use Rattle.std.proofs.Common.{◌≡◌, ℕ, ap, sym, ◌∙◌, refl, subst, arith}
use Rattle.cu_shape.specs.Index.{product}
use Rattle.cu_op.specs.declared.layout.ArrayInfo.{ArrayInfo}
use Rattle.cu_op.specs.Arrays.{grid_counts}
use Rattle.cu_op.specs.Cells.{task_grid}
use Rattle.cu_op.specs.Schedule.{op_of, task_at, WritesCell, MakesChunk}
use Rattle.cu_op.proofs.Makers.{made_ranks, made_box, made_few, made_writes, made_makes}
use Rattle.cu_op.proofs.schedule.maker.Goals as goal

pub box_of-region-requires-clause-ranks : goal.box_of-region-requires-clause-ranks
box_of-region-requires-clause-ranks c =
    let s = c.task_grid-regions.ensures.sound in
    let p = c.args.plan.now in
    let d = c.args.cell.now in
    rw (c.chunk.ensures.value, c.task_grid-regions.ensures.grid, c.chunk_region-first.ensures.lo, c.array-info.ensures.array)
    (made_ranks p s c.in_ok-operation.operation d.array d.coord c.requires.0 c.requires.1 (ap (λ (i : ArrayInfo). i.maker) (sym c.array-info.ensures.array) ∙ c.in_ok-operation.was))

pub place-requires : goal.place-requires
place-requires c =
    let s = c.task_grid-regions.ensures.sound in
    let p = c.args.plan.now in
    let d = c.args.cell.now in
    let k = c.in_ok-operation.operation in
    let made = ap (λ (i : ArrayInfo). i.maker) (sym c.array-info.ensures.array) ∙ c.in_ok-operation.was in
    let few = made_few p s k d.array d.coord c.requires.0 c.requires.1 made in
    record {
      counted = rw (c.counts.ensures.counts, c.task_grid-regions.ensures.grid) (omega (arith, few));
      inside = rw (c.counts.ensures.counts, c.box_of-region.ensures, c.chunk.ensures.value, c.task_grid-regions.ensures.grid, c.chunk_region-first.ensures.lo, c.array-info.ensures.array)
          (made_box p s k d.array d.coord c.requires.0 c.requires.1 made);
    }

pub overflow_cast-result : goal.overflow_cast-result
overflow_cast-result c =
    let s = c.task_grid-regions.ensures.sound in
    let p = c.args.plan.now in
    let d = c.args.cell.now in
    let k = c.in_ok-operation.operation in
    let made = ap (λ (i : ArrayInfo). i.maker) (sym c.array-info.ensures.array) ∙ c.in_ok-operation.was in
    let few = made_few p s k d.array d.coord c.requires.0 c.requires.1 made in
    let count : product c.counts.result ≡ product (grid_counts (task_grid p.arrays (op_of p k))) = rw (c.counts.ensures.counts, c.task_grid-regions.ensures.grid) refl in
    let below = c.place.ensures.below in
    omega (arith, few, count, below)

is_maker : (c : goal.After-place) → c.place.result ≡ task_at c.args.plan.now.arrays (op_of c.args.plan.now c.in_ok-operation.operation) c.args.cell.now
is_maker c =
    c.place.ensures.place
    ∙ rw (c.counts.ensures.counts, c.box_of-region.ensures, c.chunk.ensures.value, c.task_grid-regions.ensures.grid, c.chunk_region-first.ensures.lo, c.array-info.ensures.array) refl

pub returns-clause-makes : goal.returns-clause-makes
returns-clause-makes c =
    let s = c.task_grid-regions.ensures.sound in
    let p = c.args.plan.now in
    let d = c.args.cell.now in
    let k = c.in_ok-operation.operation in
    let made = ap (λ (i : ArrayInfo). i.maker) (sym c.array-info.ensures.array) ∙ c.in_ok-operation.was in
    subst (λ (t : ℕ). MakesChunk p k t d.array d.coord) (sym (is_maker c)) (made_makes p s k d.array d.coord c.requires.0 c.requires.1 made)

pub returns-clause-writes : goal.returns-clause-writes
returns-clause-writes c = λ stored.
    let s = c.task_grid-regions.ensures.sound in
    let p = c.args.plan.now in
    let d = c.args.cell.now in
    let k = c.in_ok-operation.operation in
    let made = ap (λ (i : ArrayInfo). i.maker) (sym c.array-info.ensures.array) ∙ c.in_ok-operation.was in
    subst (λ (t : ℕ). WritesCell p k t d.array d.coord) (sym (is_maker c)) (made_writes p s k d.array d.coord c.requires.0 c.requires.1 made stored)
