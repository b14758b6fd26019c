use Rattle.std.proofs.Common.{sym, ap, ◌∙◌}
use Rattle.cu_form.specs.declared.args.Arg.{Arg}
use Rattle.cu_node.specs.declared.info.NodeInfo.{NodeInfo}
use Rattle.cu_typing.specs.Types.{pair_type}
use Rattle.cu_expr.specs.Typing.{argument_of}
use Rattle.cu_mean.proofs.OperandTypes.{promoted_together, first_alone, second_alone, none_typed}
use Rattle.cu_mean.proofs.elementwise.pair_type.Goals as goal

pub returns-in-Node-y : goal.returns-in-Node-y
returns-in-Node-y c t h =
    promoted_together c.args.infos.now c.in-Node.a c.in-Node-y.b c.args.x c.args.y c.info_at.result c.info_at-in-Node-y.result c.promote.result c.unwrap_or.result t
    c.in-Node.is c.in-Node-y.is c.info_at.ensures c.info_at-in-Node-y.ensures c.promote.ensures.value c.unwrap_or.ensures h

pub returns-in_default-y : goal.returns-in_default-y
returns-in_default-y c t h =
    ap (λ (i : NodeInfo). i.dtype) c.info_at-in_default-y.ensures
    ∙ first_alone c.args.infos.now c.in-Node.a c.args.y t c.in_default-y.not-Node
    (ap (λ (x : Arg). pair_type (argument_of c.args.infos.now x) (argument_of c.args.infos.now c.args.y)) (sym c.in-Node.is) ∙ h)

pub returns-in-Node-y-2 : goal.returns-in-Node-y-2
returns-in-Node-y-2 c t h =
    ap (λ (i : NodeInfo). i.dtype) c.info_at-in-Node-y-2.ensures
    ∙ second_alone c.args.infos.now c.args.x c.in-Node-y-2.b t c.in_default.not-Node
    (ap (λ (y : Arg). pair_type (argument_of c.args.infos.now c.args.x) (argument_of c.args.infos.now y)) (sym c.in-Node-y-2.is) ∙ h)

pub returns-in_default-y-2 : goal.returns-in_default-y-2
returns-in_default-y-2 c t h = none_typed c.args.infos.now c.args.x c.args.y t c.in_default.not-Node c.in_default-y-2.not-Node h
