-- The typing of views with another shape or chunk shape (Python array API, "Manipulation Functions": `reshape`,
-- `broadcast_to`; `rechunk`, the chunk shapes and the order of the faults are this project's rules).
use Rattle.std.specs.Prelude.{ℕ, ◌-◌, ◌/◌, ◌%◌, ◌==◌, nat_le, ℤ, pos, negsuc, int_lt, not, ◌&&◌, ◌||◌, if◌then◌else◌, Bool, true, false, List, [], ◌∷◌, length, drop, min, max, Result}
use Rattle.std.specs.List.{list_any}
use Rattle.cu_result.specs.Results.{◌>>=◌, check}
use Rattle.cu_shape.specs.Index.{product}
use Rattle.cu_node.specs.Fault.{fault}
use Rattle.cu_node.specs.Limited.{limited}
use Rattle.cu_node.specs.declared.faults.FaultCode.TheVariants.{Shape, ReshapeSize}
use Rattle.cu_node.specs.declared.faults.NodeFault.{NodeFault}
use Rattle.cu_node.specs.declared.info.NodeInfo.{NodeInfo}

-- the sizes that are given; a negative one stands for the size that is left
abbrev pub given : List ℤ → List ℕ
given [] = []
given (pos n ∷ ns) = n ∷ given ns
given (negsuc d ∷ ns) = given ns

abbrev pub leaves_one : List ℤ → Bool
leaves_one = list_any (λ n. int_lt n (pos 0))

-- the sizes hold so many elements; with one that is left, the others multiply to a divisor of them that is not 0
abbrev pub can_hold : ℕ → List ℤ → Bool
can_hold count shape =
    if leaves_one shape then not (product (given shape) == 0) && (count % product (given shape) == 0)
    else product (given shape) == count

-- the sizes, with this number for the one that is left
abbrev pub filled : ℕ → List ℤ → List ℕ
filled left [] = []
filled left (pos n ∷ ns) = n ∷ filled left ns
filled left (negsuc d ∷ ns) = left ∷ filled left ns

abbrev pub reshaped_sizes : ℕ → List ℤ → List ℕ
reshaped_sizes count shape = filled (count / product (given shape)) shape

-- How many of so many elements of a chunk are left for the axes before these, which take them from the last axis on: on an
-- axis the chunk has as many as are left, up to the axis' size.
abbrev pub chunk_size : ℕ → ℕ → ℕ
chunk_size left n = min (max 1 n) (max 1 left)

abbrev pub left_before : ℕ → List ℕ → ℕ
left_before count [] = count
left_before count (n ∷ ns) = left_before count ns / chunk_size (left_before count ns) n

abbrev pub chunk_of : ℕ → List ℕ → List ℕ
chunk_of count [] = []
chunk_of count (n ∷ ns) = chunk_size (left_before count ns) n ∷ chunk_of count ns

abbrev pub typed_reshape : NodeInfo → List ℤ → Result NodeInfo NodeFault
typed_reshape a shape = let sizes = reshaped_sizes (product a.dims) shape in do
  _ ← check (can_hold (product a.dims) shape) (fault ReshapeSize)
  limited a.dtype sizes (chunk_of (product a.chunk) sizes)

-- each size is 1 or that of the other shape
abbrev pub are_stretched : List ℕ → List ℕ → Bool
are_stretched (n ∷ ns) (m ∷ ms) = (n == 1 || n == m) && are_stretched ns ms
are_stretched [] [] = true
are_stretched [] (m ∷ ms) = false
are_stretched (n ∷ ns) [] = false

-- a shape broadcasts to another, from whose last axes on it is read
abbrev pub stretches_to : List ℕ → List ℕ → Bool
stretches_to a shape = nat_le (length a) (length shape) && are_stretched a (drop (length shape - length a) shape)

abbrev pub typed_broadcast : NodeInfo → List ℕ → List ℕ → Result NodeInfo NodeFault
typed_broadcast a shape chunk = do
  _ ← check (stretches_to a.dims shape && length chunk == length shape) (fault Shape)
  limited a.dtype shape chunk

-- the same elements in other chunks
abbrev pub typed_rechunk : NodeInfo → List ℕ → Result NodeInfo NodeFault
typed_rechunk a chunk = do
  _ ← check (length chunk == length a.dims) (fault Shape)
  limited a.dtype a.dims chunk
