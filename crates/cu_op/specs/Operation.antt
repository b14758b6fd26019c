-- What each kind of operation reads and writes, and how its arrays stand to one another.
use Rattle.cu_op.specs.Arrays.{maker_at, grid_at}
use Rattle.cu_op.specs.Route.{Route}
use Rattle.cu_op.specs.Kinds.{kind_of}
use Rattle.cu_op.specs.declared.kernel.Instr.{Instr}
use Rattle.cu_op.specs.declared.layout.ArrayInfo.{ArrayInfo}
use Rattle.cu_op.specs.declared.operation.Op.{Op}
use Rattle.std.specs.Prelude.{◌≡◌, ℕ, ◌<◌, ◌≤◌, Bool, List, length, Option, None, Some, IsTrue}

-- the arrays that it reads, in order, and those that it writes
abbrev pub reads_of : Op → List ℕ
reads_of op = (kind_of op).reads

abbrev pub writes_of : Op → List ℕ
writes_of op = (kind_of op).writes

-- the array that the tasks go over: the last that it writes
abbrev pub target_of : Op → ℕ
target_of op = (kind_of op).target

-- the kernel of a map; no other operation has one
abbrev pub kernel_of : Op → Option (List Instr)
kernel_of op = (kind_of op).kernel

-- each of its tasks writes one chunk, and nothing else
abbrev pub writes_one_chunk : Op → Bool
writes_one_chunk op = (kind_of op).one_chunk

-- each of its tasks reads one chunk of the array, and no two the same
abbrev pub reads_by_chunk : List ArrayInfo → Op → ℕ → Bool
reads_by_chunk arrays op a = (kind_of op).by_chunk arrays a

abbrev pub ReadsByChunk : List ArrayInfo → Op → ℕ → Type 0
ReadsByChunk arrays op a = IsTrue (reads_by_chunk arrays op a)

-- an operation fits its arrays; the partial results that a merge reads have the type of its own
abbrev pub Fits : List ArrayInfo → Op → Type 0
Fits arrays op = (kind_of op).fits arrays

-- an input, or an array that an operation before this one makes
abbrev pub IsBefore : Option ℕ → ℕ → Type 0
IsBefore None number = Unit {0}
IsBefore (Some maker) number = maker < number

abbrev pub IsReadable : List ArrayInfo → ℕ → ℕ → Type 0
IsReadable arrays number a = (a < length arrays) × IsBefore (maker_at arrays a) number

-- this operation makes the array
abbrev pub IsMadeBy : List ArrayInfo → ℕ → ℕ → Type 0
IsMadeBy arrays number a = (a < length arrays) × (maker_at arrays a ≡ Some number)

-- an array of the plan that has no more axes than a result with this coordinate
abbrev pub IsNoLonger : List ArrayInfo → List ℕ → ℕ → Type 0
IsNoLonger arrays coord a = (a < length arrays) × (length (grid_at arrays a).shape ≤ length coord)

-- the operation over arrays with these numbers
abbrev pub renumbered : (ℕ → ℕ) → Op → Op
renumbered f op = (kind_of op).renumbered f

-- the route by which its tasks come by the elements that they write
abbrev pub route_of : Op → Route
route_of op = (kind_of op).route

-- the array whose elements a search compares, and the array of their values, where it is stored
abbrev pub compared_array : Op → Option ℕ
compared_array op = (kind_of op).compared

abbrev pub value_array : Op → Option ℕ
value_array op = (kind_of op).stored
