use Rattle.std.proofs.Common.{◌≡◌, false, Result, IfOk, subst}
use Rattle.std.specs.Prelude.{bytes_eq}
use Rattle.std.specs.List.{list_any}
use Rattle.serde_json.specs.View.{view}
use Rattle.cu_form.specs.declared.expr.Node.{Node}
use Rattle.cu_read.specs.declared.faults.NodeCode.{NodeCode}
use Rattle.cu_read.proofs.Says.{node_new}
use Rattle.cu_read.proofs.nodes.next_node.Goals as goal

pub returns-in-Ok-clause-new : goal.returns-in-Ok-clause-new
returns-in-Ok-clause-new c =
    subst (λ (r : Result Node NodeCode). IfOk r (λ n. list_any (bytes_eq n.name) c.args.ids.now ≡ false)) c.in-Ok.ensures (node_new c.args.ids.now (view c.args.value.now))
