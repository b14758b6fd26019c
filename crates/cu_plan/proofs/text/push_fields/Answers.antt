use Rattle.std.proofs.Common.{◌≡◌, ◌++◌, ◌∙◌, codes}
use Rattle.std.specs.Fmt.{decimal}
use Rattle.cu_op.specs.PlanView.{operation_at}
use Rattle.cu_op.specs.Within.{listed_number}
use Rattle.cu_plan.specs.Text.{fields_of}
use Rattle.cu_plan.proofs.Lines.{on_ok, pieces}
use Rattle.cu_plan.proofs.text.push_fields.Goals as goal

pub returns : goal.returns
returns c =
    on_ok (c.push_field-5.new.text.items ≡ c.push_field-4.new.text.items ++ codes " projected=" ++ decimal c.operation-planned.result.now.projected)
    (c.push_field-5.new.text.items ≡ c.args.text.now.items ++ fields_of c.args.plan.now c.args.op)
    c.push_field-5.result
    (λ last. pieces c.args.plan.now.arrays c.arrays.result.now (listed_number c.args.plan.now c.args.op) (operation_at c.args.plan.now.ops c.args.op) c.operation-planned.result.now c.args.text.now.items
    c.push_field.new.text.items c.push_kind.new.text.items c.push_field-2.new.text.items c.push_field-3.new.text.items c.push_field-4.new.text.items c.push_field-5.new.text.items
    c.from.result c.from-2.result c.from-3.result c.cells_of.result c.arrays.ensures.arrays c.operation-planned.ensures.operation
    c.in_ok-push_field.ensures (c.from.ensures ∙ c.listed_number.ensures) c.in_ok-push_kind.ensures c.in_ok-push_field-2.ensures c.from-2.ensures c.in_ok-push_field-3.ensures (c.from-3.ensures ∙ c.tasks.ensures.tasks)
    c.in_ok-push_field-4.ensures c.cells_of.ensures last)
    c.push_field-5.ensures
