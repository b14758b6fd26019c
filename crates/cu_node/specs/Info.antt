-- What is known of the nodes of an expression, by their numbers.
use Rattle.std.specs.Prelude.{◌≡◌, ℕ, ◌*◌, ◌^◌, ◌<◌, ◌≤◌, List, [], length, get_or, All}
use Rattle.cu_num.specs.Dtype.{size_of}
use Rattle.cu_num.specs.declared.types.Dtype.{Dtype}
use Rattle.cu_num.specs.declared.types.Dtype.TheVariants.{Bool}
use Rattle.cu_shape.specs.Counts.{counts_of, at_least_one}
use Rattle.cu_shape.specs.Index.{product}
use Rattle.cu_node.specs.declared.info.NodeInfo.{NodeInfo}

-- an array of this type, shape and chunk shape
abbrev pub info_of : Dtype → List ℕ → List ℕ → NodeInfo
info_of t shape chunk = record { dtype = t; dims = shape; chunk = chunk }

-- what is known of no node: a bool of rank 0
abbrev pub no_info : NodeInfo
no_info = info_of Bool [] []

-- what is known of the node of a number
abbrev pub info_at : List NodeInfo → ℕ → NodeInfo
info_at infos k = get_or infos k no_info

-- the bytes of a chunk
abbrev pub chunk_bytes : NodeInfo → ℕ
chunk_bytes i = product i.chunk * size_of i.dtype

-- What each node's array keeps (this project's limits): a chunk size for each axis, none of them 0, at most 6 axes, 2^40
-- elements, 65,536 chunks and 2^28 bytes a chunk, an axis of size 0 counting as one element and one chunk.
pub record IsInfo (i : NodeInfo) : Type 0 where
  pub ranks : length i.chunk ≡ length i.dims
  pub short : length i.dims ≤ 6
  pub positive : All (λ c. 0 < c) i.chunk
  pub elements : product (at_least_one i.dims) ≤ 2 ^ 40
  pub chunks : product (at_least_one (counts_of i.dims i.chunk)) ≤ 65536
  pub bytes : product i.chunk * size_of i.dtype ≤ 2 ^ 28
