-- The typing of an expression: what is known of each node's array from what is known of its arguments', or the first fault.
use Rattle.std.specs.Prelude.{ℕ, List, [], ◌∷◌, ◌++◌, length, map, Result, Ok, Err}
use Rattle.cu_result.specs.Results.{◌>>=◌}
use Rattle.cu_form.specs.Expression.{Expression}
use Rattle.cu_form.specs.Form.{args_of, group_kind}
use Rattle.cu_form.specs.declared.args.Arg.{Arg}
use Rattle.cu_node.specs.declared.literal.Literal.TheVariants as written
use Rattle.cu_form.specs.declared.expr.Node.{Node}
use Rattle.cu_form.specs.declared.form.Form.{Form}
use Rattle.cu_node.specs.Fault.{fault, code_number}
use Rattle.cu_node.specs.Info.{info_at}
use Rattle.cu_node.specs.declared.faults.FaultCode.TheVariants.{Kind}
use Rattle.cu_node.specs.declared.faults.NodeFault.{NodeFault}
use Rattle.cu_node.specs.declared.info.NodeInfo.{NodeInfo}
use Rattle.cu_typing.specs.Along.{typed_cumulative, typed_groups}
use Rattle.cu_typing.specs.Elementwise.{typed_elementwise}
use Rattle.cu_typing.specs.Joined.{arrays_of}
use Rattle.cu_typing.specs.Matmul.{typed_matmul}
use Rattle.cu_typing.specs.Reduction.{typed_reduction, typed_arg_place}
use Rattle.cu_typing.specs.declared.argument.Argument.{Argument}
use Rattle.cu_typing.specs.declared.argument.Argument.TheVariants.{Array, Written}
use Rattle.cu_expr.specs.Inputs.{named_input, stored_of}
use Rattle.cu_expr.specs.Views.{typed_any_view}
use Rattle.cu_expr.specs.declared.inputs.InputInfo.{InputInfo}
use Rattle.cu_expr.specs.declared.types.TypeFault.{TypeFault}

-- an argument: what is known of the earlier node's array, or the written value
abbrev pub argument_of : List NodeInfo → Arg → Argument
argument_of infos (Arg.Node n) = Array (info_at infos n)
argument_of infos (Arg.Int x) = Written (written.Int x)
argument_of infos (Arg.Truth b) = Written (written.Truth b)

-- the arguments of a form
abbrev pub told_of : List NodeInfo → Form → List Argument
told_of infos form = map (argument_of infos) (args_of form)

-- ---- a node by its form

-- the elements of one array together, or those of two; the last row is of the forms that are none of these
abbrev pub typed_reduced : Form → List NodeInfo → Result NodeInfo NodeFault
typed_reduced (Form.Reduce kind args axes keepdims) is = typed_reduction kind axes keepdims (info_at is 0)
typed_reduced (Form.ArgPlace least args axis keepdims) is = typed_arg_place axis keepdims (info_at is 0)
typed_reduced (Form.Matmul args) is = typed_matmul (info_at is 0) (info_at is 1)
typed_reduced form is = Err (fault Kind)

-- A node over what is told of its arguments; `stored` is what is known of the input that it uses.
abbrev pub typed_form : NodeInfo → Form → List Argument → Result NodeInfo NodeFault
typed_form stored (Form.Input name) told = Ok stored
typed_form stored (Form.Elementwise op args) told = typed_elementwise op told
typed_form stored (Form.Reduce kind args axes keepdims) told = typed_reduced (Form.Reduce kind args axes keepdims) (arrays_of told)
typed_form stored (Form.ArgPlace least args axis keepdims) told = typed_reduced (Form.ArgPlace least args axis keepdims) (arrays_of told)
typed_form stored (Form.Matmul args) told = typed_reduced (Form.Matmul args) (arrays_of told)
typed_form stored (Form.CumulativeSum args axis) told = typed_cumulative axis (info_at (arrays_of told) 0)
typed_form stored (Form.GroupBy least args axis groups) told =
    typed_groups (group_kind least) axis groups (info_at (arrays_of told) 0) (info_at (arrays_of told) 1)
typed_form stored form told = typed_any_view form (arrays_of told)

-- ---- the nodes of an expression

-- a node over what is known of the inputs and of the nodes before it
abbrev pub typed_node : List InputInfo → List NodeInfo → Form → Result NodeInfo NodeFault
typed_node inputs infos form = typed_form (stored_of (named_input inputs) form) form (told_of infos form)

-- a node's fault with the node's number
abbrev pub at_node : ℕ → Result NodeInfo NodeFault → Result NodeInfo TypeFault
at_node number (Ok i) = Ok i
at_node number (Err f) = Err (record { code = code_number f.code; node = number; place = f.place })

-- the nodes in order, behind those that are known; or the fault of the first that has one
abbrev pub typed_after : List InputInfo → List NodeInfo → List Node → Result (List NodeInfo) TypeFault
typed_after inputs infos [] = Ok infos
typed_after inputs infos (n ∷ ns) = at_node (length infos) (typed_node inputs infos n.form) >>= λ i. typed_after inputs (infos ++ i ∷ []) ns

abbrev pub typed : List InputInfo → Expression → Result (List NodeInfo) TypeFault
typed inputs e = typed_after inputs [] e.nodes
