-- The sizes by which an array is copied from one grid of chunks to another (after Rechunker, whose rule may choose other sizes;
-- this choice is the project's own rule). `room` is how many elements the memory holds.
use Rattle.std.specs.Prelude.{ℕ, ◌*◌, ◌/◌, nat_lt, nat_le, ◌&&◌, if◌then◌else◌, List, [], ◌∷◌, min, max}
use Rattle.cu_shape.specs.Index.{product, axis_by_axis}

-- a chunk's sizes cut to the array's, of which 0 counts as 1
abbrev pub cut : List ℕ → List ℕ → List ℕ
cut shape chunk = axis_by_axis (λ c n. min c (max n 1)) chunk shape

-- ---- consolidation

-- the greatest multiple of a size that is at most a bound
abbrev pub multiple_within : ℕ → ℕ → ℕ
multiple_within size bound = bound / size * size

-- A chunk's size c on an axis of size n, where at most `most` fit beside the other axes. Below both n and the limit it becomes n
-- where the limit and the memory allow that, else its greatest multiple that they allow.
abbrev pub grown : ℕ → ℕ → ℕ → ℕ → ℕ
grown most n c limit =
    if nat_lt c (min n limit) then (if nat_le n (min limit most) then n else multiple_within c (min limit most)) else c

abbrev pub with_axis : ℕ → ℕ → ℕ → ℕ → ℕ → List ℕ → List ℕ
with_axis room lead n c l rest = grown (room / (lead * product rest)) n c l ∷ rest

-- a chunk consolidated from the last axis to the first, where the axes before have `lead` elements
abbrev pub consolidated : ℕ → ℕ → List ℕ → List ℕ → List ℕ → List ℕ
consolidated room lead (n ∷ ns) (c ∷ cs) (l ∷ ls) = with_axis room lead n c l (consolidated room (lead * c) ns cs ls)
consolidated room lead ns cs ls = []

-- ---- the stages

-- a region's size r, less than the array's size n and greater than w, becomes its greatest multiple of w
abbrev pub lowered_size : ℕ → ℕ → ℕ → ℕ
lowered_size n r w = if nat_lt r n && nat_lt w r then multiple_within w r else r

abbrev pub lowered_along : List ℕ → List ℕ → List ℕ → List ℕ
lowered_along (n ∷ ns) (r ∷ rs) (w ∷ ws) = lowered_size n r w ∷ lowered_along ns rs ws
lowered_along ns rs ws = []

abbrev pub write_sizes : List ℕ → List ℕ → ℕ → List ℕ
write_sizes shape target room = consolidated room 1 shape (cut shape target) shape

-- what is read grows on an axis up to what is written
abbrev pub wide_sizes : List ℕ → List ℕ → List ℕ → ℕ → List ℕ
wide_sizes shape source target room =
    consolidated room 1 shape (cut shape source) (axis_by_axis max (cut shape source) (write_sizes shape target room))

abbrev pub read_sizes : List ℕ → List ℕ → List ℕ → ℕ → List ℕ
read_sizes shape source target room = lowered_along shape (wide_sizes shape source target room) (write_sizes shape target room)

abbrev pub middle_sizes : List ℕ → List ℕ → List ℕ → ℕ → List ℕ
middle_sizes shape source target room = axis_by_axis min (read_sizes shape source target room) (write_sizes shape target room)

-- the bytes of the greater chunk
abbrev pub greater_bytes : List ℕ → List ℕ → ℕ → ℕ
greater_bytes source target item = max (product source) (product target) * item
