use Rattle.std.proofs.Common.{◌≡◌, ◌≤◌, ℕ, All, List, length, ap, arith, sym, ◌∙◌, subst, rules}
use Rattle.cu_op.specs.declared.layout.ArrayInfo.{ArrayInfo}
use Rattle.cu_op.specs.Operation.{reads_of, writes_of, IsMadeBy}
use Rattle.cu_op.specs.Kind.Pull.{shapes_at}
use Rattle.cu_op.specs.Schedule.{op_of}
use Rattle.cu_op.specs.declared.operation.Op.{Op}
use Rattle.cu_op.specs.declared.operation.Planned.{Planned}
use Rattle.cu_view.specs.Planned.{shape_at}
use Rattle.cu_view.specs.View.{IsView}
use Rattle.cu_view.proofs.PlannedViews.{IsViewOver, fit_of, view_over}
use Rattle.cu_view.proofs.planned.touches.Goals as goal

pub touches_of-requires-clause-view : goal.touches_of-requires-clause-view
touches_of-requires-clause-view c =
    let own = ap (λ (o : Planned). o.op) (sym c.operation.ensures.operation) ∙ c.in-Pull.is in
    let few : length c.in-Pull.ins.items ≤ 8 = search rules in
    let few_reads = subst (λ (op : Op). length (reads_of op) ≤ 8) (sym own) few in
    let v = view_over c.args.plan.now c.args.op (op_of c.args.plan.now c.args.op) c.operation.ensures.sound (fit_of c.args.plan.now c.args.op c.operation.ensures.sound c.requires.operation) few_reads in
    let view : IsView c.in-Pull.pull (shapes_at c.args.plan.now.arrays c.in-Pull.ins.items) (shape_at c.args.plan.now.arrays c.in-Pull.made) = subst (IsViewOver c.args.plan.now.arrays) own v in
    let shapes : c.as_slice-in-Pull.result.now ≡ shapes_at c.args.plan.now.arrays c.in-Pull.ins.items =
    c.as_slice-in-Pull.ensures.value ∙ c.shapes_of-shapes.ensures ∙ ap (shapes_at c.args.plan.now.arrays) c.as_slice.ensures.value in
    let shape : c.shape-shape.result.now ≡ shape_at c.args.plan.now.arrays c.in-Pull.made = c.shape-shape.ensures.value ∙ ap (λ (a : ArrayInfo). a.layout.grid.shape) c.array.ensures.array in
    subst (IsView c.in-Pull.pull c.as_slice-in-Pull.result.now) (sym shape)
    (subst (λ (x : List (List ℕ)). IsView c.in-Pull.pull x (shape_at c.args.plan.now.arrays c.in-Pull.made)) (sym shapes) view)

pub array-requires : goal.array-requires
array-requires c =
    let own = ap (λ (o : Planned). o.op) (sym c.operation.ensures.operation) ∙ c.in-Pull.is in
    let writes = subst (λ (op : Op). All (IsMadeBy c.args.plan.now.arrays c.args.op) (writes_of op)) own (c.operation.ensures.sound.operations c.args.op c.requires.operation).writes in
    (writes 0 0 (omega arith)).0
