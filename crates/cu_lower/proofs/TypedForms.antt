-- Each node of an expression that was typed is typed over what is known of its arguments.
use Rattle.std.proofs.Common.{◌≡◌, ℕ, List, Ok, true}
use Rattle.cu_expr.specs.Typing.{typed_node}
use Rattle.cu_expr.specs.declared.inputs.InputInfo.{InputInfo}
use Rattle.cu_form.specs.Form.{takes_args}
use Rattle.cu_form.specs.declared.form.Form.{Form}
use Rattle.cu_need.specs.Need.{IsTyped}
use Rattle.cu_node.specs.Info.{info_at}
use Rattle.cu_node.specs.declared.info.NodeInfo.{NodeInfo}
use Rattle.cu_lower.proofs.NodeLaws.{laws_of}

pub form_typed : (inputs : List InputInfo) (infos : List NodeInfo) (k : ℕ) (form : Form) → takes_args form ≡ true → typed_node inputs infos form ≡ Ok (info_at infos k) → IsTyped infos k form
form_typed inputs infos k form takes is = (laws_of form takes).typed inputs infos k is
