use Rattle.std.specs.Prelude.{All}
use Rattle.cu_expr.specs.Premises.{HaveGrids}
use Rattle.cu_op.specs.Layout.{IsLayout}
use Rattle.test_rows.proofs.typing.inputs_of.Given as goal

abbrev pub invariant-loop-value : goal.invariant-loop-value
invariant-loop-value l = HaveGrids l.inputs.items × All (λ i. IsLayout i.layout) l.inputs.items
