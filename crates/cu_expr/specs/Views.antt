-- The typing of views by their forms: of one array, of several that are put together, and of none, which are made from nothing.
use Rattle.std.specs.Prelude.{List, Result, Err}
use Rattle.cu_form.specs.declared.form.Form.{Form}
use Rattle.cu_node.specs.Fault.{fault}
use Rattle.cu_node.specs.Info.{info_at}
use Rattle.cu_node.specs.declared.faults.FaultCode.TheVariants.{Kind}
use Rattle.cu_node.specs.declared.faults.NodeFault.{NodeFault}
use Rattle.cu_node.specs.declared.info.NodeInfo.{NodeInfo}
use Rattle.cu_typing_view.specs.Creation.{typed_full, typed_arange, typed_eye}
use Rattle.cu_typing_view.specs.Entries.{typed_index}
use Rattle.cu_typing_view.specs.NewShapes.{typed_new_shape}
use Rattle.cu_typing_view.specs.Pieces.{typed_concat, typed_stack}
use Rattle.cu_typing_view.specs.Rearranged.{typed_triangle, typed_permute, typed_flip, typed_roll}
use Rattle.cu_typing_view.specs.Reshaped.{typed_broadcast, typed_rechunk}

-- views of one array, and the same elements in other chunks; the last row is of all other forms
abbrev pub typed_view : Form → NodeInfo → Result NodeInfo NodeFault
typed_view (Form.Triangle lower args k) i = typed_triangle i
typed_view (Form.Index args items) i = typed_index i items
typed_view (Form.PermuteDims args axes) i = typed_permute i axes
typed_view (Form.Reshape args shape) i = typed_new_shape i shape
typed_view (Form.Flip args axes) i = typed_flip i axes
typed_view (Form.Roll args shifts axes) i = typed_roll i shifts axes
typed_view (Form.BroadcastTo args shape chunk) i = typed_broadcast i shape chunk
typed_view (Form.Rechunk args chunk) i = typed_rechunk i chunk
typed_view form i = Err (fault Kind)

-- the same, and arrays that are put together or made from nothing, over what is known of the arrays that they read
abbrev pub typed_any_view : Form → List NodeInfo → Result NodeInfo NodeFault
typed_any_view (Form.Full shape t value chunk) is = typed_full shape t value chunk
typed_any_view (Form.Arange start stop step t chunk) is = typed_arange start stop step t chunk
typed_any_view (Form.Eye rows cols k t chunk) is = typed_eye rows cols t chunk
typed_any_view (Form.Concat args axis) is = typed_concat is axis
typed_any_view (Form.Stack args axis) is = typed_stack is axis
typed_any_view form is = typed_view form (info_at is 0)
