-- Elements of inputs that are numbers of the inputs' types.
use Rattle.std.specs.Prelude.{◌≡◌, ℕ, List, Some, slice_get}
use Rattle.cu_num.specs.Dtype.{InRange}
use Rattle.cu_form.specs.Expression.{Expression}
use Rattle.cu_form.specs.declared.expr.Node.{Node}
use Rattle.cu_form.specs.declared.form.Form.{Form}
use Rattle.cu_node.specs.declared.info.NodeInfo.{NodeInfo}
use Rattle.cu_semantics.specs.Argument.{NodeElements}
use Rattle.cu_semantics.specs.Typed.{type_of_node}

-- those of node k, where it is an input
abbrev pub FitsInput : List NodeInfo → NodeElements → ℕ → Form → Type 0
FitsInput infos env k (Form.Input name) = (idx : List ℕ) → InRange (type_of_node infos k) (env k idx)
FitsInput infos env k form = Unit {0}

-- those of each input
abbrev pub FitInputs : Expression → List NodeInfo → NodeElements → Type 0
FitInputs e infos env = (k : ℕ) (node : Node) → slice_get e.nodes k ≡ Some node → FitsInput infos env k node.form
