use Rattle.cu_form.specs.declared.args.Arg.{Arg}
use Rattle.cu_expr.specs.Typing.{argument_of}
use Rattle.cu_expr.proofs.ToldSteps.{mapped_more, mapped_all}
use Rattle.cu_expr.proofs.told.arguments.Goals as goal

pub loop-arg-preserved : goal.loop-arg-preserved
loop-arg-preserved c =
    mapped_more (argument_of c.args.infos.now) c.args.args.now c.loop-arg.arg-index (Arg.Node 0) c.argument.result c.loop-arg.told.items c.push.new.self.items
    c.loop-arg-test.true c.loop-arg.invariant c.argument.ensures c.in_ok-push.ensures.items

pub returns : goal.returns
returns c = mapped_all (argument_of c.args.infos.now) c.args.args.now c.loop-arg.arg-index c.loop-arg.told.items c.loop-arg-test.false c.loop-arg.invariant
