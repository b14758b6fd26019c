use Rattle.std.proofs.Common.{◌∙◌, ap, subst, sym, All, List}
use Rattle.cu_expr.specs.Typing.{typed}
use Rattle.cu_expr.specs.declared.inputs.InputInfo.{InputInfo}
use Rattle.cu_op.specs.Layout.{IsLayout}
use Rattle.cu_top.proofs.DemoInputs.{both_layouts, no_plan}
use Rattle.cu_top.specs.Demo.{IsDemoRefused}
use Rattle.cu_top.proofs.demo.plan_demo.Goals as goal

pub plan-requires-clause-types : goal.plan-requires-clause-types
plan-requires-clause-types c =
    ap (λ (inputs : List InputInfo). typed inputs c.in-Ok.job.expr) (c.deref.ensures.value ∙ c.in-Ok.ensures.inputs) ∙ c.in-Ok.ensures.types

pub plan-requires-clause-layouts : goal.plan-requires-clause-layouts
plan-requires-clause-layouts c =
    subst (All (λ (i : InputInfo). IsLayout i.layout)) (sym (c.deref.ensures.value ∙ c.in-Ok.ensures.inputs)) (both_layouts c.args.size c.requires.some c.requires.few)

pub returns-in-Err-clause-refused : goal.returns-in-Err-clause-refused
returns-in-Err-clause-refused c =
    subst (IsDemoRefused c.args.options.now c.args.size) (sym c.unplanned_status.ensures)
    (no_plan c.args.options.now c.args.size c.in-Ok.job c.in-Err.fault c.in-Ok.ensures c.in-Err.ensures.refused)
