-- The memory of an elementwise node, in bytes, and when its arguments are as it needs them (this project's own rule). `reserved` are
-- the bytes that are kept for everything else, `arrays` the arguments that are arrays.
use Rattle.std.specs.Prelude.{ℕ, ◌+◌, ◌*◌, Bool, List, ◌∷◌, map, sum_by}
use Rattle.std.specs.List.{list_all}
use Rattle.cu_node.specs.declared.element_op.ElementOp.{ElementOp}
use Rattle.cu_node.specs.declared.element_op.ElementOp.TheVariants.{Extreme, Clip}
use Rattle.cu_node.specs.declared.info.NodeInfo.{NodeInfo}
use Rattle.cu_copy.specs.Copies.{in_chunks}
use Rattle.cu_copy.specs.declared.copies.Rechunk.{Rechunk}
use Rattle.cu_need.specs.Chunks.{aligned_bytes, is_aligned}
use Rattle.cu_shape.specs.Counts.{largest}
use Rattle.cu_node.specs.Info.{chunk_bytes}
use Rattle.cu_typing.specs.Joined.{aligned_chunk}

-- an argument: the result's chunks on each axis that it fills, and its own where it is stretched
abbrev pub in_aligned : NodeInfo → NodeInfo → Rechunk
in_aligned made i = in_chunks i (aligned_chunk made.dims made.chunk i)

-- each argument's array has the chunk to which it is aligned
abbrev pub are_aligned : NodeInfo → List NodeInfo → Bool
are_aligned result arrays = list_all (is_aligned result) arrays

-- The instructions of a function's kernel besides those of its arguments: a test and a choice for an extreme; for `clip` its two
-- bounds, and a test and a choice for each.
abbrev pub own_instructions : ElementOp → ℕ
own_instructions (Extreme least) = 2
own_instructions (Clip min max) = 6
own_instructions op = 1

-- The function itself: the greatest chunk as scratch, an aligned chunk of each array, a chunk of the result, and 512 for each
-- instruction, of which there is one for each argument and those of the function.
abbrev pub function_bytes : NodeInfo → ℕ → List NodeInfo → ℕ
function_bytes result instructions arrays =
    largest (chunk_bytes result ∷ map (aligned_bytes result) arrays) + sum_by (aligned_bytes result) arrays + chunk_bytes result + 512 * instructions

abbrev pub function_need : ℕ → NodeInfo → ℕ → List NodeInfo → ℕ
function_need reserved result instructions arrays = reserved + function_bytes result instructions arrays
