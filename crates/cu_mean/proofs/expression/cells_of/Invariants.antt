use Rattle.cu_mean.specs.Going.{HasFirstElements}
use Rattle.cu_mean.proofs.expression.cells_of.Given as goal

abbrev pub invariant-loop-place : goal.invariant-loop-place
invariant-loop-place l = HasFirstElements l.form l.infos l.info l.plains l.place l.cells.items
