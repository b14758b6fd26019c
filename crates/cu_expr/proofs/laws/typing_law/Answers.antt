use Rattle.std.proofs.Common.{sym, ◌∙◌}
use Rattle.cu_expr.proofs.Nodes.{typed_count, typed_at, over_all}
use Rattle.cu_expr.proofs.laws.typing_law.Goals as goal

pub returns-clause-count : goal.returns-clause-count
returns-clause-count c inputs e ts h = typed_count inputs e.nodes ts h

pub returns-clause-node : goal.returns-clause-node
returns-clause-node c inputs e ts k n h g = typed_at inputs e.nodes ts k n h g

pub returns-clause-whole : goal.returns-clause-whole
returns-clause-whole c inputs e ts k n form h g = sym (over_all inputs ts k n.form (form.nodes k n g).form.earlier) ∙ typed_at inputs e.nodes ts k n h g
