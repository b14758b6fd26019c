-- The typing of an index (Python array API, "Indexing": multi-axis indexing with integers, slices, new axes and an
-- ellipsis; the chunk shapes and the places of faults are this project's rules).
use Rattle.std.specs.Prelude.{ℕ, ◌+◌, ◌-◌, not, nat_lt, ◌&&◌, ◌||◌, if◌then◌else◌, Bool, true, false, ℤ, pos, negsuc, slice_index, List, [], ◌∷◌, ◌++◌, length, take, drop, count_by, min, max, Option, Some, None, unwrap_or, Result, Err}
use Rattle.std.specs.Ordering.{int_eq}
use Rattle.cu_shape.specs.Index.{axis_by_axis}
use Rattle.cu_shape.specs.Slice.{count_of}
use Rattle.cu_node.specs.declared.index_item.IndexItem.{IndexItem}
use Rattle.cu_node.specs.declared.index_item.IndexItem.TheVariants.{At, Slice, New, Ellipsis}
use Rattle.cu_node.specs.Fault.{fault_at}
use Rattle.cu_node.specs.Limited.{limited}
use Rattle.cu_node.specs.declared.faults.FaultCode.TheVariants.{Index}
use Rattle.cu_node.specs.declared.faults.NodeFault.{NodeFault}
use Rattle.cu_node.specs.declared.info.NodeInfo.{NodeInfo}

-- ---- an entry

-- it takes one axis
abbrev pub takes_axis : IndexItem → Bool
takes_axis New = false
takes_axis Ellipsis = false
takes_axis item = true

abbrev pub is_ellipsis : IndexItem → Bool
is_ellipsis Ellipsis = true
is_ellipsis item = false

-- how many axes it takes, where the ellipsis stands for `more` of them
abbrev pub width_of : ℕ → IndexItem → ℕ
width_of more New = 0
width_of more Ellipsis = more
width_of more item = 1

-- an integer from -n to n - 1
abbrev pub is_index : ℤ → ℕ → Bool
is_index (pos i) n = nat_lt i n
is_index (negsuc i) n = nat_lt i n

-- the step of a slice, where none is given 1
abbrev pub step_of : Option ℤ → ℤ
step_of step = unwrap_or step (pos 1)

-- it suits an axis of size n: an integer is an index of it, and the step of a slice isn't 0
abbrev pub suits_axis : IndexItem → ℕ → Bool
suits_axis (At i) n = is_index i n
suits_axis (Slice start stop step) n = not (int_eq (step_of step) (pos 0))
suits_axis item n = true

-- how many indices a slice whose step isn't 0 takes of an axis of size n
unfoldable pub count_taken : Option ℤ → Option ℤ → Option ℤ → ℕ → ℕ
count_taken start stop step n = if int_eq (step_of step) (pos 0) then 0 else count_of start stop (step_of step) n

-- the chunk size of an axis on which n indices are taken
abbrev pub clipped_chunk_size : ℕ → ℕ → ℕ
clipped_chunk_size n c = min c (max 1 n)

-- ---- the entries, each with the sizes and chunk sizes of the axes that are left for it and those behind it

-- how many axes no entry takes, of an array of this rank; the ellipsis stands for them
abbrev pub untaken : ℕ → List IndexItem → ℕ
untaken rank items = rank - count_by takes_axis items

-- it takes an axis, and none is left or that doesn't suit; or it is a second ellipsis
abbrev pub is_wrong : Bool → IndexItem → List ℕ → Bool
is_wrong seen item [] = takes_axis item || (is_ellipsis item && seen)
is_wrong seen item (n ∷ ns) = not (suits_axis item n) || (is_ellipsis item && seen)

-- the first wrong entry, counted from k
abbrev pub first_wrong : ℕ → Bool → ℕ → List IndexItem → List ℕ → Option ℕ
first_wrong more seen k [] ns = None
first_wrong more seen k (item ∷ items) ns =
    if is_wrong seen item ns then Some k
    else first_wrong more (seen || is_ellipsis item) (k + 1) items (drop (width_of more item) ns)

-- the sizes that an entry leaves: an integer none, a slice the number of its indices, a new axis 1
abbrev pub sizes_left : ℕ → IndexItem → List ℕ → List ℕ
sizes_left more (At i) ns = []
sizes_left more (Slice start stop step) ns = count_taken start stop step (slice_index ns 0) ∷ []
sizes_left more New ns = 1 ∷ []
sizes_left more Ellipsis ns = take more ns

-- the shape of the result: axes that no entry takes follow at the end
abbrev pub index_shape : ℕ → List IndexItem → List ℕ → List ℕ
index_shape more [] ns = ns
index_shape more (item ∷ items) ns = sizes_left more item ns ++ index_shape more items (drop (width_of more item) ns)

abbrev pub chunk_left : ℕ → IndexItem → List ℕ → List ℕ → List ℕ
chunk_left more (At i) ns cs = []
chunk_left more (Slice start stop step) ns cs = clipped_chunk_size (count_taken start stop step (slice_index ns 0)) (slice_index cs 0) ∷ []
chunk_left more New ns cs = 1 ∷ []
chunk_left more Ellipsis ns cs = axis_by_axis clipped_chunk_size (take more ns) (take more cs)

-- the chunk shape of the result
abbrev pub index_chunk : ℕ → List IndexItem → List ℕ → List ℕ → List ℕ
index_chunk more [] ns cs = axis_by_axis clipped_chunk_size ns cs
index_chunk more (item ∷ items) ns cs = chunk_left more item ns cs ++ index_chunk more items (drop (width_of more item) ns) (drop (width_of more item) cs)

-- an index has no wrong entry
abbrev pub unless_wrong : Option ℕ → Result NodeInfo NodeFault → Result NodeInfo NodeFault
unless_wrong None typed = typed
unless_wrong (Some k) typed = Err (fault_at Index k)

abbrev pub typed_index : NodeInfo → List IndexItem → Result NodeInfo NodeFault
typed_index a items =
    let more = untaken (length a.dims) items in
    unless_wrong (first_wrong more false 0 items a.dims) (limited a.dtype (index_shape more items a.dims) (index_chunk more items a.dims a.chunk))
