use Rattle.std.proofs.Common.{◌+◌, List, length, ap, sym, subst, arith}
use Rattle.cu_node.specs.declared.info.NodeInfo.{NodeInfo}
use Rattle.cu_mean.specs.Going.{IsGoing}
use Rattle.cu_mean.proofs.Going.{started, ended}
use Rattle.cu_mean.proofs.expression.arrays.Goals as goal

pub loop-number-init : goal.loop-number-init
loop-number-init c =
    started c.args.expr.now c.in_ok-infos.infos.items c.args.types.now c.args.inputs c.into_list-rest.result.items c.in_ok-plains.plains.items c.nodes-count.ensures.form
    c.requires.types c.requires.inputs c.in_ok-infos.ensures.infos c.in_ok-infos.ensures.kept c.into_list-rest.ensures c.in_ok-plains.ensures.items

pub push_node-requires-clause-number : goal.push_node-requires-clause-number
push_node-requires-clause-number c = omega (arith, ap length c.nodes-count.ensures.nodes)

pub push_node-requires-clause-going : goal.push_node-requires-clause-going
push_node-requires-clause-going c = (
  c.args.inputs,
  subst (λ (is : List NodeInfo). IsGoing c.args.expr.now is c.args.inputs c.loop-number.number c.loop-number.rest.items c.loop-number.plains.items) (sym c.deref.ensures.value) c.loop-number.invariant,
)

pub loop-number-preserved : goal.loop-number-preserved
loop-number-preserved c =
    subst (λ (is : List NodeInfo). IsGoing c.args.expr.now is c.args.inputs (c.loop-number.number + 1) c.push_node.new.rest.items c.push_node.new.plains.items) c.deref.ensures.value
    (c.in_ok-push_node.ensures c.args.inputs
    (subst (λ (is : List NodeInfo). IsGoing c.args.expr.now is c.args.inputs c.loop-number.number c.loop-number.rest.items c.loop-number.plains.items) (sym c.deref.ensures.value) c.loop-number.invariant))

pub returns : goal.returns
returns c =
    ended c.args.expr.now c.in_ok-infos.infos.items c.args.types.now c.args.inputs c.loop-number.number c.loop-number.rest.items c.loop-number.plains.items c.in_ok-infos.ensures.infos
    (omega (arith, ap length c.nodes-count.ensures.nodes)) c.loop-number.invariant
