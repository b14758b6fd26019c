use Rattle.cu_expr.proofs.LayoutInfo.{has_grid}
use Rattle.cu_expr.proofs.laws.grid_law.Goals as goal

pub returns : goal.returns
returns c i h = has_grid i h
