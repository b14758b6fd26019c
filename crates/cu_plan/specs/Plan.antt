-- The plan of an expression, in which maps are merged and arrays may be made where they are read
-- (this project's own rule).
use Rattle.std.specs.Prelude.{◌==◌, List, if◌then◌else◌}
use Rattle.cu_expr.specs.declared.inputs.InputInfo.{InputInfo}
use Rattle.cu_form.specs.Expression.{Expression}
use Rattle.cu_fuse.specs.Close.{fused, fused_loading_once}
use Rattle.cu_fuse.specs.Copies.{copies_joined}
use Rattle.cu_lower.specs.Plan.{plan_of}
use Rattle.cu_lower.specs.Premises.{AreOfInputs, IsLowerable}
use Rattle.cu_lower.specs.declared.options.Options.{Options}
use Rattle.cu_semantics.specs.Argument.{NodeElements}
use Rattle.cu_node.specs.declared.info.NodeInfo.{NodeInfo}
use Rattle.cu_op.specs.PlanView.{PlanView}
use Rattle.cu_op.specs.Elements.{Elements}
use Rattle.cu_op.specs.Value.{HasTypes}
use Rattle.cu_plan.specs.Inlined.{inlined_of}

-- With maps that load an array once, merged; with copies joined; and with arrays that are made
-- where they are read.
abbrev pub inlined_plan_of : PlanView → PlanView
inlined_plan_of p = inlined_of (copies_joined (fused_loading_once p))

-- The operations that its live nodes add, after the merges of the maps among them; with the option
-- `--fusion 2`, after all three steps.
unfoldable pub merged_plan_of : Expression → List NodeInfo → List InputInfo → Options → PlanView
merged_plan_of e infos inputs options =
    if options.fusion == 2
    then inlined_plan_of (plan_of e infos inputs options)
    else fused (plan_of e infos inputs options)

-- the inputs' arrays have elements of their types, and the input nodes have these
pub record HaveInputElements (e : Expression) (infos : List NodeInfo) (inputs : List InputInfo)
    (options : Options) (env : Elements) (elements : NodeElements) : Type 0 where
  pub lowerable : IsLowerable e infos inputs options
  pub typed : HasTypes (merged_plan_of e infos inputs options).arrays env
  pub given : AreOfInputs e infos env elements
