use Rattle.std.proofs.Common.{List, sym, subst}
use Rattle.cu_mean.specs.Plain.{PlainArray}
use Rattle.cu_mean.specs.Whole.{HoldMeaning}
use Rattle.cu_mean.proofs.InputNodes.{first_holds}
use Rattle.cu_mean.proofs.expression.whole.Goals as goal

pub returns-in-Ok : goal.returns-in-Ok
returns-in-Ok c env holds =
    subst (λ (plains : List PlainArray). HoldMeaning c.args.expr.now c.args.types.now env plains) (sym c.make.ensures)
    (first_holds c.args.expr.now c.args.types.now c.args.inputs c.in-Ok.list.items env c.nodes-form.ensures.form c.requires.inputs c.in-Ok.ensures holds)
