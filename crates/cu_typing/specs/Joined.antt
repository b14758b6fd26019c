-- Arrays that broadcast together (Python array API, "Broadcasting"; the chunk sizes are this project's rule).
use Rattle.std.specs.Prelude.{ℕ, ◌+◌, ◌-◌, ◌==◌, nat_le, Bool, ◌&&◌, if◌then◌else◌, List, [], ◌∷◌, length, map, max, replicate, slice_index, Option, Some, None, Result, Ok, Err}
use Rattle.std.specs.List.{range_with_len, list_all}
use Rattle.cu_result.specs.Results.{◌>>=◌}
use Rattle.cu_shape.specs.Broadcast.{mismatch_of, broadcast_of}
use Rattle.cu_node.specs.Fault.{fault_at}
use Rattle.cu_node.specs.Limited.{is_chunk_within}
use Rattle.cu_node.specs.declared.faults.FaultCode.TheVariants.{Shape}
use Rattle.cu_node.specs.declared.faults.NodeFault.{NodeFault}
use Rattle.cu_node.specs.declared.info.NodeInfo.{NodeInfo}
use Rattle.cu_typing.specs.declared.argument.Argument.{Argument}
use Rattle.cu_typing.specs.declared.argument.Argument.TheVariants.{Array, Written}

-- the arguments that are arrays, in order
abbrev pub arrays_of : List Argument → List NodeInfo
arrays_of [] = []
arrays_of (Array i ∷ xs) = i ∷ arrays_of xs
arrays_of (Written v ∷ xs) = arrays_of xs

-- ---- the shape

-- the rank of the result: the greatest
abbrev pub joined_rank : List NodeInfo → ℕ
joined_rank [] = 0
joined_rank (i ∷ is) = max (length i.dims) (joined_rank is)

-- two shapes broadcast; where they don't, the fault has the last axis of the result on which they differ
abbrev pub joined_or : Option ℕ → List ℕ → Result (List ℕ) NodeFault
joined_or None shape = Ok shape
joined_or (Some axis) shape = Err (fault_at Shape axis)

abbrev pub joined_with : List ℕ → List ℕ → Result (List ℕ) NodeFault
joined_with a b = joined_or (mismatch_of a b) (broadcast_of a b)

-- a shape broadcast with those of the arrays, from the left
abbrev pub joined_after : List ℕ → List NodeInfo → Result (List ℕ) NodeFault
joined_after shape [] = Ok shape
joined_after shape (i ∷ is) = joined_with shape i.dims >>= λ joined. joined_after joined is

-- The shape of the result. It begins with its rank, so that an axis of a fault is one of the result.
abbrev pub joined_shape : List NodeInfo → Result (List ℕ) NodeFault
joined_shape is = joined_after (replicate (joined_rank is) 1) is

-- ---- the chunks

-- how many axes of the result come before those of an array
abbrev pub lead_of : List ℕ → NodeInfo → ℕ
lead_of shape i = length shape - length i.dims

-- an array has the axis of the result, and isn't stretched there
abbrev pub fills : List ℕ → NodeInfo → ℕ → Bool
fills shape i axis = nat_le (lead_of shape i) axis && slice_index i.dims (axis - lead_of shape i) == slice_index shape axis

-- the chunk size of the result on an axis: that of the first array that fills it
abbrev pub joined_chunk_on : List ℕ → List NodeInfo → ℕ → ℕ
joined_chunk_on shape [] axis = 1
joined_chunk_on shape (i ∷ is) axis = if fills shape i axis then slice_index i.chunk (axis - lead_of shape i) else joined_chunk_on shape is axis

abbrev pub joined_chunk : List ℕ → List NodeInfo → List ℕ
joined_chunk shape is = map (joined_chunk_on shape is) (range_with_len 0 (length shape))

-- the aligned chunk of an array: the result's chunk size on each axis that it fills, and its own elsewhere
abbrev pub aligned_on : List ℕ → List ℕ → NodeInfo → ℕ → ℕ
aligned_on shape chunk i axis = if fills shape i (axis + lead_of shape i) then slice_index chunk (axis + lead_of shape i) else slice_index i.chunk axis

abbrev pub aligned_chunk : List ℕ → List ℕ → NodeInfo → List ℕ
aligned_chunk shape chunk i = map (aligned_on shape chunk i) (range_with_len 0 (length i.dims))

-- each aligned chunk keeps the limit of bytes
abbrev pub aligned_within : List ℕ → List ℕ → List NodeInfo → Bool
aligned_within shape chunk is = list_all (λ i. is_chunk_within i.dtype (aligned_chunk shape chunk i)) is
