-- What an accepted elementwise function gives a map.
use Rattle.std.proofs.Common.{◌≡◌, List, length, ap, ◌∙◌}
use Rattle.std.proofs.lemmas.List.Elements.{All-weaker}
use Rattle.cu_num.specs.declared.types.Dtype.{Dtype}
use Rattle.cu_node.specs.declared.element_op.ElementOp.{ElementOp}
use Rattle.cu_node.specs.declared.info.NodeInfo.{NodeInfo}
use Rattle.cu_op.specs.Aligned.{IsAligned}
use Rattle.cu_typing.specs.Accepted.{GoesInto, IsElementwise}
use Rattle.cu_typing.specs.Joined.{arrays_of}
use Rattle.cu_typing.specs.declared.argument.Argument.{Argument}
use Rattle.cu_typing.proofs.Chunks.{length-joined_chunk}
use Rattle.cu_expr.specs.Kernel.{aligned_grid, result_grid, IsMap}
use Rattle.cu_expr.proofs.AlignedChunks.{aligned_is_aligned}
use Rattle.cu_expr.proofs.Kernels.{kernel_fits}

pub elementwise_map : (op : ElementOp) (args : List Argument) (t : Dtype) (i : NodeInfo) → IsElementwise op args t i → IsMap op args t i
elementwise_map op args t i h =
    let ranks : length i.chunk ≡ length i.dims = ap length h.chunk ∙ length-joined_chunk i.dims (arrays_of args) in
    record {
      aligned = All-weaker (λ a. GoesInto a.dims i.dims) (λ a. IsAligned (aligned_grid i a) (result_grid i)) (λ a g. aligned_is_aligned i a ranks g) (arrays_of args) h.broadcast;
      kernel = rw h.dtype (kernel_fits op args t h.accepted h.shared);
    }
