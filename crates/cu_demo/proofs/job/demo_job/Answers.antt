use Rattle.std.proofs.Common.{◌∙◌, sym, ap}
use Rattle.cu_expr.specs.Typing.{typed}
use Rattle.cu_demo.proofs.Computed.{demo_number}
use Rattle.cu_demo.specs.Expression.{demo_inputs}
use Rattle.cu_demo.proofs.job.demo_job.Goals as goal

pub returns : goal.returns
returns c = record {
  said = c.in_ok-expr.ensures.said;
  compact = c.in_ok-expr.ensures.compact;
  expr = c.in_ok-expr.ensures.expr;
  inputs = c.in_ok-inputs.ensures;
  types = c.in_ok-types.ensures;
  result = demo_number c.args.size c.requires.some c.requires.few c.in_ok-types.types (ap (typed (demo_inputs c.args.size)) (sym c.in_ok-expr.ensures.expr) ∙ c.in_ok-types.ensures);
}
