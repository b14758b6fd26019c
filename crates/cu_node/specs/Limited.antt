-- The limits of a node's array (this project's rule), in the order in which they are tested.
use Rattle.std.specs.Prelude.{ℕ, ◌*◌, ◌^◌, nat_le, Bool, ◌&&◌, true, List, length, Result, Ok}
use Rattle.cu_result.specs.Results.{◌>>=◌, check}
use Rattle.cu_num.specs.Dtype.{size_of}
use Rattle.cu_num.specs.declared.types.Dtype.{Dtype}
use Rattle.cu_shape.specs.Counts.{counts_of, at_least_one}
use Rattle.cu_shape.specs.Index.{product}
use Rattle.cu_node.specs.Fault.{fault_at}
use Rattle.cu_node.specs.Info.{info_of}
use Rattle.cu_node.specs.declared.faults.FaultCode.TheVariants.{Limit}
use Rattle.cu_node.specs.declared.faults.NodeFault.{NodeFault}
use Rattle.cu_node.specs.declared.info.NodeInfo.{NodeInfo}

-- a limit that is exceeded: 1 rank, 2 elements, 3 bytes of a chunk, 4 chunks
abbrev pub limit : ℕ → NodeFault
limit place = fault_at Limit place

-- a chunk of elements of the type has at most 2^28 bytes
abbrev pub is_chunk_within : Dtype → List ℕ → Bool
is_chunk_within t chunk = nat_le (product chunk * size_of t) (2 ^ 28)

-- The array of this type, shape and chunk shape, where it keeps the limits: at most 6 axes, 2^40 elements, 2^28 bytes in a
-- chunk and 65,536 chunks, an axis of size 0 counting as one element and one chunk. `beside` says that the other chunks that
-- the node needs, those to which its arguments are aligned, keep the limit of bytes.
abbrev pub limited_beside : Bool → Dtype → List ℕ → List ℕ → Result NodeInfo NodeFault
limited_beside beside t shape chunk = do
  _ ← check (nat_le (length shape) 6) (limit 1)
  _ ← check (nat_le (product (at_least_one shape)) (2 ^ 40)) (limit 2)
  _ ← check (is_chunk_within t chunk && beside) (limit 3)
  _ ← check (nat_le (product (at_least_one (counts_of shape chunk))) 65536) (limit 4)
  Ok (info_of t shape chunk)

-- the same of a node that needs no other chunk
abbrev pub limited : Dtype → List ℕ → List ℕ → Result NodeInfo NodeFault
limited = limited_beside true
