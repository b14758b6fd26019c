use Rattle.std.proofs.Common.{arith}
use Rattle.std.proofs.lemmas.Map.Text.{text_keys}
use Rattle.cu_expr.proofs.inputs.add_named.Goals as goal

pub returns : goal.returns
returns c = λ q. grind (arith, text_keys, c.in_ok-insert.ensures.updates)
