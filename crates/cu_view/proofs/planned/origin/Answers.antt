use Rattle.std.proofs.Common.{◌≡◌, ◌≤◌, ℕ, List, length, ap, sym, ◌∙◌, subst, rules}
use Rattle.cu_origin.specs.Pull.{IsInSources}
use Rattle.cu_origin.specs.declared.provenance.Provenance.{Provenance}
use Rattle.cu_op.specs.declared.layout.ArrayInfo.{ArrayInfo}
use Rattle.cu_op.specs.Operation.{reads_of}
use Rattle.cu_op.specs.Kind.Pull.{shapes_at, pulled}
use Rattle.cu_op.specs.Schedule.{op_of}
use Rattle.cu_op.specs.Value.{plan_value}
use Rattle.cu_op.specs.declared.operation.Op.{Op}
use Rattle.cu_op.specs.declared.operation.Planned.{Planned}
use Rattle.cu_view.specs.Planned.{pull_origin, shape_at}
use Rattle.cu_view.specs.View.{IsView}
use Rattle.cu_view.proofs.PlannedViews.{IsViewOver, fit_of, view_over, pull_inside, value_at_origin}
use Rattle.cu_view.proofs.planned.origin.Goals as goal

pub origin_of-requires-clause-view : goal.origin_of-requires-clause-view
origin_of-requires-clause-view c =
    let own = ap (λ (o : Planned). o.op) (sym c.operation.ensures.operation) ∙ c.in-Pull.is in
    let few : length c.in-Pull.ins.items ≤ 8 = search rules in
    let few_reads = subst (λ (op : Op). length (reads_of op) ≤ 8) (sym own) few in
    let v = view_over c.args.plan.now c.args.op (op_of c.args.plan.now c.args.op) c.operation.ensures.sound (fit_of c.args.plan.now c.args.op c.operation.ensures.sound c.requires.operation) few_reads in
    let view : IsView c.in-Pull.pull (shapes_at c.args.plan.now.arrays c.in-Pull.ins.items) (shape_at c.args.plan.now.arrays c.in-Pull.out) = subst (IsViewOver c.args.plan.now.arrays) own v in
    let shapes : c.as_slice-in-Pull.result.now ≡ shapes_at c.args.plan.now.arrays c.in-Pull.ins.items =
    c.as_slice-in-Pull.ensures.value ∙ c.shapes_of-shapes.ensures ∙ ap (shapes_at c.args.plan.now.arrays) c.as_slice.ensures.value in
    let shape : c.shape-shape.result.now ≡ shape_at c.args.plan.now.arrays c.in-Pull.out = c.shape-shape.ensures.value ∙ ap (λ (a : ArrayInfo). a.layout.grid.shape) c.array.ensures.array in
    subst (IsView c.in-Pull.pull c.as_slice-in-Pull.result.now) (sym shape)
    (subst (λ (x : List (List ℕ)). IsView c.in-Pull.pull x (shape_at c.args.plan.now.arrays c.in-Pull.out)) (sym shapes) view)

pub returns-in-Pull-clause-inside : goal.returns-in-Pull-clause-inside
returns-in-Pull-clause-inside c =
    let o : c.origin_of.result ≡ pull_origin c.args.plan.now.arrays (op_of c.args.plan.now c.args.op) c.args.idx.now = search rules in
    subst (IsInSources (shapes_at c.args.plan.now.arrays (reads_of (op_of c.args.plan.now c.args.op)))) (sym o)
    (pull_inside c.args.plan.now c.args.op (op_of c.args.plan.now c.args.op) c.args.idx.now (fit_of c.args.plan.now c.args.op c.operation.ensures.sound c.requires.operation) c.requires.pull c.requires.inside)

pub returns-in-Pull-clause-value : goal.returns-in-Pull-clause-value
returns-in-Pull-clause-value c = λ env.
    let o : c.origin_of.result ≡ pull_origin c.args.plan.now.arrays (op_of c.args.plan.now c.args.op) c.args.idx.now = search rules in
    value_at_origin c.args.plan.now c.args.op env c.args.idx.now c.operation.ensures.sound c.requires.operation c.requires.pull
    ∙ ap (λ (x : Provenance). pulled (reads_of (op_of c.args.plan.now c.args.op)) (plan_value c.args.plan.now env) x) (sym o)
