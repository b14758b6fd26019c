-- The chunks of a node's array and of an argument's that is aligned to it (this project's own rule).
use Rattle.std.specs.Prelude.{ℕ, ◌*◌, Bool, List, [], ◌∷◌, bytes_eq}
use Rattle.cu_form.specs.declared.args.Arg.{Arg}
use Rattle.cu_node.specs.Info.{info_at}
use Rattle.cu_node.specs.declared.info.NodeInfo.{NodeInfo}
use Rattle.cu_num.specs.Dtype.{size_of}
use Rattle.cu_shape.specs.Index.{product}
pub use Rattle.cu_copy.specs.Chunks.{chunk_count}
use Rattle.cu_typing.specs.Joined.{aligned_chunk}

-- the arrays among the arguments of a node, in order; one that is an argument twice stands twice
abbrev pub arrays_in : List NodeInfo → List Arg → List NodeInfo
arrays_in infos [] = []
arrays_in infos (Arg.Node n ∷ args) = info_at infos n ∷ arrays_in infos args
arrays_in infos (arg ∷ args) = arrays_in infos args

-- the bytes of the chunk to which an argument's array is aligned
abbrev pub aligned_bytes : NodeInfo → NodeInfo → ℕ
aligned_bytes result i = product (aligned_chunk result.dims result.chunk i) * size_of i.dtype

-- an argument's array has the chunk to which it is aligned
abbrev pub is_aligned : NodeInfo → NodeInfo → Bool
is_aligned result i = bytes_eq i.chunk (aligned_chunk result.dims result.chunk i)
