use Rattle.std.proofs.Common.{sym, subst, ◌∙◌}
use Rattle.cu_lower_reduce.specs.Copies.{AreOperands}
use Rattle.cu_lower_reduce.specs.declared.copy.CopySetting.{CopySetting}
use Rattle.cu_lower.specs.Parts.{copying}
use Rattle.cu_lower.proofs.NodeLaws.{can_copy}
use Rattle.cu_lower.proofs.steps.align_operands.Goals as goal

pub align-requires-clause-operands : goal.align-requires-clause-operands
align-requires-clause-operands c =
    let can = can_copy c.args.infos.now c.args.options.now c.args.node c.args.form.now c.args.first c.requires.form in
    subst (λ (s : CopySetting). AreOperands s c.as_slice.result.now) (sym c.copying-s.ensures.setting)
    (subst (AreOperands (copying c.args.options.now c.args.first)) (sym (c.as_slice.ensures.value ∙ c.operands_of.ensures.operands)) can.operands)
