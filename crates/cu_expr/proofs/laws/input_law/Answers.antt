use Rattle.cu_expr.proofs.LayoutInfo.{stored_info}
use Rattle.cu_expr.proofs.laws.input_law.Goals as goal

pub returns : goal.returns
returns c l stored = stored_info l stored
