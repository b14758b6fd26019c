-- The typing of matrix products (Python array API, "Linear Algebra Functions": `matmul`; the types that are accepted, the
-- chunk sizes and the order of the faults are this project's rules).
use Rattle.std.specs.Prelude.{ℕ, ◌-◌, ◌==◌, nat_le, not, ◌&&◌, if◌then◌else◌, Bool, List, [], ◌∷◌, ◌++◌, length, take, slice_index, Result, Ok}
use Rattle.cu_result.specs.Results.{◌>>=◌, check, need}
use Rattle.cu_num.specs.Dtype.{is_integer}
use Rattle.cu_num.specs.Promotion.{promotion}
use Rattle.cu_num.specs.declared.types.Dtype.{Dtype}
use Rattle.cu_node.specs.Fault.{fault}
use Rattle.cu_node.specs.Info.{info_of}
use Rattle.cu_node.specs.Limited.{limit, is_chunk_within, limited_beside}
use Rattle.cu_node.specs.declared.faults.FaultCode.TheVariants.{Kind, Promote, Axis, Shape}
use Rattle.cu_node.specs.declared.faults.NodeFault.{NodeFault}
use Rattle.cu_node.specs.declared.info.NodeInfo.{NodeInfo}
use Rattle.cu_typing.specs.Joined.{joined_shape, joined_chunk, aligned_chunk}

-- The last two axes are a matrix; a one-dimensional operand is one row on the left and one column on the right, of which the
-- result keeps nothing. The lists are those of the shape or of the chunk.

-- the axes before the matrix
abbrev pub leading : List ℕ → List ℕ
leading sizes = take (length sizes - 2) sizes

-- the rows of a left operand and the columns of a right one; none of a one-dimensional operand
abbrev pub rows : List ℕ → List ℕ
rows sizes = if nat_le 2 (length sizes) then slice_index sizes (length sizes - 2) ∷ [] else []

abbrev pub columns : List ℕ → List ℕ
columns sizes = if nat_le 2 (length sizes) then slice_index sizes (length sizes - 1) ∷ [] else []

-- the axis over which products are summed
abbrev pub left_summed : List ℕ → ℕ
left_summed sizes = slice_index sizes (length sizes - 1)

abbrev pub right_summed : List ℕ → ℕ
right_summed sizes = slice_index sizes (length sizes - 2)

-- the leading axes as an array
abbrev pub leading_array : NodeInfo → NodeInfo
leading_array i = info_of i.dtype (leading i.dims) (leading i.chunk)

abbrev pub leading_arrays : NodeInfo → NodeInfo → List NodeInfo
leading_arrays l r = leading_array l ∷ leading_array r ∷ []

-- the chunk sizes of the result's leading axes
abbrev pub leading_chunk : List ℕ → NodeInfo → NodeInfo → List ℕ
leading_chunk lead l r = joined_chunk lead (leading_arrays l r)

-- The aligned chunks: on the leading axes as for elementwise functions; the rows are the left's, the columns the right's, the
-- inner chunk is the left's.
abbrev pub left_aligned : List ℕ → NodeInfo → NodeInfo → List ℕ
left_aligned lead l r = aligned_chunk lead (leading_chunk lead l r) (leading_array l) ++ rows l.chunk ++ left_summed l.chunk ∷ []

abbrev pub right_aligned : List ℕ → NodeInfo → NodeInfo → List ℕ
right_aligned lead l r = aligned_chunk lead (leading_chunk lead l r) (leading_array r) ++ left_summed l.chunk ∷ [] ++ columns r.chunk

abbrev pub product_shape : List ℕ → NodeInfo → NodeInfo → List ℕ
product_shape lead l r = lead ++ rows l.dims ++ columns r.dims

abbrev pub product_chunk : List ℕ → NodeInfo → NodeInfo → List ℕ
product_chunk lead l r = leading_chunk lead l r ++ rows l.chunk ++ columns r.chunk

abbrev pub are_within : List ℕ → NodeInfo → NodeInfo → Bool
are_within lead l r = is_chunk_within l.dtype (left_aligned lead l r) && is_chunk_within r.dtype (right_aligned lead l r)

-- the type of the products, or the first fault of the operands' types
abbrev pub product_type : NodeInfo → NodeInfo → Result Dtype NodeFault
product_type l r = do
  _ ← check (is_integer l.dtype && is_integer r.dtype) (fault Kind)
  need (promotion l.dtype r.dtype) (fault Promote)

-- the leading axes of the result, or the first fault of the operands' shapes: no operand has rank 0, the leading axes
-- broadcast, and the inner sizes agree
abbrev pub product_lead : NodeInfo → NodeInfo → Result (List ℕ) NodeFault
product_lead l r = do
  _ ← check (not (length l.dims == 0) && not (length r.dims == 0)) (fault Axis)
  lead ← joined_shape (leading_arrays l r)
  _ ← check (left_summed l.dims == right_summed r.dims) (fault Shape)
  Ok lead

-- a product has at most 5 axes
abbrev pub product_limited : Bool → Dtype → List ℕ → List ℕ → Result NodeInfo NodeFault
product_limited beside t shape chunk = do
  _ ← check (nat_le (length shape) 5) (limit 1)
  limited_beside beside t shape chunk

abbrev pub product_array : Dtype → List ℕ → NodeInfo → NodeInfo → Result NodeInfo NodeFault
product_array t lead l r = product_limited (are_within lead l r) t (product_shape lead l r) (product_chunk lead l r)

abbrev pub typed_matmul : NodeInfo → NodeInfo → Result NodeInfo NodeFault
typed_matmul l r = do
  t ← product_type l r
  lead ← product_lead l r
  product_array t lead l r
