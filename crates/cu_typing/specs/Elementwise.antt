-- The typing of an elementwise function (Python array API, "Element-wise Functions"; `where` of "Searching Functions";
-- `astype`; the order of the faults is this project's rule).
use Rattle.std.specs.Prelude.{List, Result}
use Rattle.cu_result.specs.Results.{◌>>=◌}
use Rattle.cu_node.specs.declared.element_op.ElementOp.{ElementOp}
use Rattle.cu_node.specs.Limited.{limited_beside}
use Rattle.cu_node.specs.declared.faults.NodeFault.{NodeFault}
use Rattle.cu_node.specs.declared.info.NodeInfo.{NodeInfo}
use Rattle.cu_typing.specs.Joined.{arrays_of, joined_shape, joined_chunk, aligned_within}
use Rattle.cu_typing.specs.Types.{typed_elements}
use Rattle.cu_typing.specs.declared.argument.Argument.{Argument}
use Rattle.cu_num.specs.declared.types.Dtype.{Dtype}
use Rattle.std.specs.Prelude.{ℕ}

-- the array of this type and shape that arrays make together
abbrev pub joined_array : Dtype → List NodeInfo → List ℕ → Result NodeInfo NodeFault
joined_array t is shape = limited_beside (aligned_within shape (joined_chunk shape is) is) t shape (joined_chunk shape is)

abbrev pub typed_elementwise : ElementOp → List Argument → Result NodeInfo NodeFault
typed_elementwise op args = do
  t ← typed_elements op args
  shape ← joined_shape (arrays_of args)
  joined_array t (arrays_of args) shape
