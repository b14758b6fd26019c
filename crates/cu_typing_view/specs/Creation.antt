-- The typing of arrays that are made (Python array API, "Creation Functions": `full`, `arange`, `eye`; the types that are
-- accepted, the chunk shapes and the order of the faults are this project's rules).
use Rattle.std.specs.Prelude.{ℕ, ◌-◌, ◌==◌, not, ◌&&◌, if◌then◌else◌, true, ℤ, pos, ◌+ℤ◌, ◌*ℤ◌, List, [], ◌∷◌, length, Result}
use Rattle.std.specs.Prelude.{Bool as Test}
use Rattle.std.specs.Int.{div_ceil}
use Rattle.std.specs.Int.RustNames.{unsigned_abs}
use Rattle.std.specs.Ordering.{int_eq}
use Rattle.cu_result.specs.Results.{◌>>=◌, check}
use Rattle.cu_num.specs.declared.types.Dtype.{Dtype}
use Rattle.cu_shape.specs.Slice.{gap_between, at_least_zero}
use Rattle.cu_node.specs.declared.literal.Literal.{Literal}
use Rattle.cu_node.specs.Fault.{fault}
use Rattle.cu_node.specs.Limited.{limited}
use Rattle.cu_node.specs.Literal.{suits}
use Rattle.cu_node.specs.Types.{is_integer, in_range}
use Rattle.cu_node.specs.declared.faults.FaultCode.TheVariants.{Kind, Scalar, Index, Shape}
use Rattle.cu_node.specs.declared.faults.NodeFault.{NodeFault}
use Rattle.cu_node.specs.declared.info.NodeInfo.{NodeInfo}

-- one value everywhere
abbrev pub typed_full : List ℕ → Dtype → Literal → List ℕ → Result NodeInfo NodeFault
typed_full shape t value chunk = do
  _ ← check (suits t value) (fault Scalar)
  _ ← check (length chunk == length shape) (fault Shape)
  limited t shape chunk

-- how many of the numbers start, start + step, and so on come before stop: max(0, ceil((stop - start) / step))
unfoldable pub arange_count : ℤ → ℤ → ℤ → ℕ
arange_count start stop step = if int_eq step (pos 0) then 0 else div_ceil (at_least_zero (gap_between start stop step)) (unsigned_abs step)

-- number k of them
abbrev pub arange_element : ℤ → ℤ → ℕ → ℤ
arange_element start step k = start +ℤ pos k *ℤ step

-- the first and the last of n are numbers of the type
unfoldable pub holds_ends : Dtype → ℤ → ℤ → ℕ → Test
holds_ends t start step n = if n == 0 then true else in_range t (arange_element start step 0) && in_range t (arange_element start step (n - 1))

-- n numbers from start on
abbrev pub typed_numbers : ℤ → ℤ → ℕ → Dtype → List ℕ → Result NodeInfo NodeFault
typed_numbers start step n t chunk = do
  _ ← check (holds_ends t start step n) (fault Scalar)
  _ ← check (not (int_eq step (pos 0))) (fault Index)
  _ ← check (length chunk == 1) (fault Shape)
  limited t (n ∷ []) chunk

abbrev pub typed_arange : ℤ → ℤ → ℤ → Dtype → List ℕ → Result NodeInfo NodeFault
typed_arange start stop step t chunk = do
  _ ← check (is_integer t) (fault Kind)
  typed_numbers start step (arange_count start stop step) t chunk

-- 1 on a diagonal, and 0 elsewhere
abbrev pub typed_eye : ℕ → ℕ → Dtype → List ℕ → Result NodeInfo NodeFault
typed_eye rows cols t chunk = do
  _ ← check (is_integer t) (fault Kind)
  _ ← check (length chunk == 2) (fault Shape)
  limited t (rows ∷ cols ∷ []) chunk
