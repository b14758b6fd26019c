use Rattle.std.proofs.Common.{◌∙◌, List, subst, sym}
use Rattle.cu_need.specs.Need.{AreWithinLimits}
use Rattle.cu_node.specs.declared.info.NodeInfo.{NodeInfo}
use Rattle.cu_lower.proofs.TypedForms.{form_typed}
use Rattle.cu_plan.proofs.planning.plan.Goals as goal

pub check-requires-clause-limits : goal.check-requires-clause-limits
check-requires-clause-limits c =
    subst (λ (infos : List NodeInfo). AreWithinLimits c.args.expr.now infos) (sym (c.deref.ensures.value ∙ c.in-Ok.ensures.infos))
    (c.typed_law.ensures c.args.expr.now c.args.types.now c.in-Ok.ensures.kept
    (λ k node at. form_typed c.args.inputs.now c.args.types.now k node.form (c.infos_of.ensures.form.nodes k node at).form.args (c.typing_law.ensures.whole c.args.inputs.now c.args.expr.now c.args.types.now k node c.infos_of.ensures.form c.requires.types at)))
