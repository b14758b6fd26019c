use Rattle.std.proofs.Common.{ap, sym, ◌∙◌, subst}
use Rattle.cu_grid.specs.Cover.{covering}
use Rattle.cu_grid.specs.declared.region.Region.{Region}
use Rattle.cu_op.specs.Arrays.{array_at, grid_at}
use Rattle.cu_op.specs.TaskView.{walk_at}
use Rattle.cu_op.specs.declared.layout.ArrayInfo.{ArrayInfo}
use Rattle.cu_op.specs.declared.walks.Walk.{Walk}
use Rattle.cu_table.specs.Sources.{IsPullOp}
use Rattle.cu_table.proofs.Needs.{array_is, walk_given, walk_is, walk_left, walk_made, walk_needs}
use Rattle.cu_table.proofs.sources.stored_source.Goals as goal

pub returns-then-is_view : goal.returns-then-is_view
returns-then-is_view c =
    let t = c.args.task.now in
    let info = array_is t c.array-array.ensures.sound c.args.undone.now c.args.place c.requires.place c.input_walks.result.now c.index-input_walks-place.result c.array-array.result.now c.input_walks.ensures.walks
    (c.array-array.ensures.array ∙ ap (λ (w : Walk). array_at t.plan.arrays w.array) c.index-input_walks-place.is) in
    walk_needs t c.array-array.ensures.sound c.args.undone.now c.args.place c.requires.place c.requires.stored
    (subst IsPullOp c.operation.ensures.operation (c.is_view.ensures.0 c.if-is_view.true)) c.in-Some.source (ap (λ (i : ArrayInfo). i.maker) info ∙ c.in-Some.is) c.if-undone-source-ne0.true

pub returns-then-is_some : goal.returns-then-is_some
returns-then-is_some c =
    let t = c.args.task.now in
    let info = array_is t c.array-array.ensures.sound c.args.undone.now c.args.place c.requires.place c.input_walks.result.now c.index-input_walks-place.result c.array-array.result.now c.input_walks.ensures.walks
    (c.array-array.ensures.array ∙ ap (λ (w : Walk). array_at t.plan.arrays w.array) c.index-input_walks-place.is) in
    let w = walk_is t c.array-array.ensures.sound c.args.undone.now c.args.place c.requires.place c.input_walks.result.now c.index-input_walks-place.result c.input_walks.ensures.walks c.index-input_walks-place.is in
    walk_left t c.array-array.ensures.sound c.args.undone.now (walk_at t c.args.place) c.in-Some.source (ap (λ (i : ArrayInfo). i.maker) info ∙ c.in-Some.is) c.if-undone-source-ne0.true
    c.cover.result c.next.result c.next.new.self
    (c.cover.ensures.chunks ∙ ap (λ (i : ArrayInfo). covering i.layout.grid.chunk c.index-input_walks-place.result.region.lo c.index-input_walks-place.result.region.hi) (sym info)
    ∙ ap (λ (r : Region). covering (grid_at t.plan.arrays (walk_at t c.args.place).array).chunk r.lo r.hi) (ap (λ (v : Walk). v.region) w))
    c.next.ensures.steps (sym c.is_some.ensures ∙ c.if-is_some.true)

pub returns-else-undone-source-ne0 : goal.returns-else-undone-source-ne0
returns-else-undone-source-ne0 c =
    let t = c.args.task.now in
    let info = array_is t c.array-array.ensures.sound c.args.undone.now c.args.place c.requires.place c.input_walks.result.now c.index-input_walks-place.result c.array-array.result.now c.input_walks.ensures.walks
    (c.array-array.ensures.array ∙ ap (λ (w : Walk). array_at t.plan.arrays w.array) c.index-input_walks-place.is) in
    walk_made t c.array-array.ensures.sound c.args.undone.now (walk_at t c.args.place) c.in-Some.source (ap (λ (i : ArrayInfo). i.maker) info ∙ c.in-Some.is) c.if-undone-source-ne0.false

pub returns-in_default : goal.returns-in_default
returns-in_default c =
    let t = c.args.task.now in
    let info = array_is t c.array-array.ensures.sound c.args.undone.now c.args.place c.requires.place c.input_walks.result.now c.index-input_walks-place.result c.array-array.result.now c.input_walks.ensures.walks
    (c.array-array.ensures.array ∙ ap (λ (w : Walk). array_at t.plan.arrays w.array) c.index-input_walks-place.is) in
    walk_given t c.array-array.ensures.sound c.args.undone.now (walk_at t c.args.place) (ap (λ (i : ArrayInfo). i.maker) info ∙ c.in_default.is)
