-- A node that means nothing.
use Rattle.std.proofs.Common.{codes}
use Rattle.cu_form.specs.declared.expr.Node.{Node}
use Rattle.cu_form.specs.declared.form.Form.{Form}

abbrev pub no_node : Node
no_node = record { name = codes ""; form = Form.Input (codes "") }
