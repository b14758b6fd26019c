use Rattle.cu_expr.proofs.Maps.{elementwise_map}
use Rattle.cu_expr.proofs.laws.map_law.Goals as goal

pub returns : goal.returns
returns c op args t i h = elementwise_map op args t i h
