-- Where each element of a view comes from (Python array API 2022.12, "Manipulation Functions", "Indexing", "Creation Functions"): the
-- source and the index in it, or a number.
use Rattle.std.specs.Prelude.{ℕ, ◌+◌, ◌-◌, ◌<◌, ◌==◌, nat_lt, ℤ, pos, ◌+ℤ◌, ◌-ℤ◌, ◌*ℤ◌, int_le, Bool, List, [], ◌∷◌, length, map, slice_index, slice_index_or, slice_set, remove, if◌then◌else◌}
use Rattle.std.specs.Int.{int_rem_euclid, bit_at}
use Rattle.std.specs.List.{range_with_len, position_or_len}
use Rattle.std.specs.Ordering.{int_eq}
use Rattle.cu_shape.specs.Index.{place_of, index_at, back, IsInside}
use Rattle.cu_shape.specs.Slice.{at_least_zero, index_taken}
use Rattle.cu_shape.specs.declared.slice.Run.{Run}
use Rattle.cu_origin.specs.declared.axes.Axes.{Axes}
use Rattle.cu_origin.specs.declared.provenance.Provenance.{Provenance}
use Rattle.cu_origin.specs.declared.provenance.Provenance.TheVariants.{From, Const}
use Rattle.cu_origin.specs.declared.pull.Pull.{Pull}
use Rattle.cu_origin.specs.declared.pull.Pull.TheVariants.{Slice, Permute, Reshape, Concat, Stack, Flip, Roll, Broadcast, Triangle, Full, Arange, Eye}

-- the list of this length that has a number for each axis
abbrev pub for_each_axis : ℕ → (ℕ → ℕ) → List ℕ
for_each_axis rank number = map number (range_with_len 0 rank)

-- the axis is in the set
abbrev pub has_axis : Axes → ℕ → Bool
has_axis axes d = bit_at axes.0 d == 1

-- the shape of the only source
abbrev pub only : List (List ℕ) → List ℕ
only sources = slice_index_or sources 0 []

-- ---- the index of the source that is read, of views of one array

-- how many indices each run takes
abbrev pub counts_of_runs : List Run → List ℕ
counts_of_runs runs = map (λ run. run.count) runs

-- the index that each run takes
abbrev pub taken_by : List Run → List ℕ → List ℕ
taken_by (run ∷ runs) (i ∷ is) = at_least_zero (index_taken run i) ∷ taken_by runs is
taken_by [] is = []
taken_by (run ∷ runs) [] = []

-- what the runs take at the index's row-major place, which axes of size 1 don't change
abbrev pub sliced : List Run → List ℕ → List ℕ → List ℕ
sliced runs shape idx = taken_by runs (index_at (counts_of_runs runs) (place_of shape idx))

-- axis axes[j] of the source is axis j of the result
abbrev pub permuted_on : List ℕ → List ℕ → ℕ → ℕ
permuted_on axes idx d = slice_index idx (position_or_len (λ axis. axis == d) axes)

abbrev pub permuted : List ℕ → List ℕ → List ℕ
permuted axes idx = for_each_axis (length axes) (permuted_on axes idx)

-- counted from the other end on the axes of the set
abbrev pub flipped_on : Axes → List ℕ → List ℕ → ℕ → ℕ
flipped_on axes shape idx d = if has_axis axes d then slice_index shape d - 1 - slice_index idx d else slice_index idx d

abbrev pub flipped : Axes → List ℕ → List ℕ → List ℕ
flipped axes shape idx = for_each_axis (length shape) (flipped_on axes shape idx)

-- (i - shift) mod n on each axis
abbrev pub rolled_on : List ℤ → List ℕ → List ℕ → ℕ → ℕ
rolled_on shifts shape idx d = at_least_zero (int_rem_euclid (pos (slice_index idx d) -ℤ slice_index_or shifts d (pos 0)) (pos (slice_index shape d)))

abbrev pub rolled : List ℤ → List ℕ → List ℕ → List ℕ
rolled shifts shape idx = for_each_axis (length shape) (rolled_on shifts shape idx)

-- ---- several sources

-- the source whose range on the axis holds the index, counted from number k on: the sizes of those before it are taken off
abbrev pub concat_from : ℕ → ℕ → List (List ℕ) → List ℕ → Provenance
concat_from axis k [] idx = Const (pos 0)
concat_from axis k (source ∷ sources) idx =
    if nat_lt (slice_index idx axis) (slice_index source axis) then From k idx
    else concat_from axis (k + 1) sources (slice_set idx axis (slice_index idx axis - slice_index source axis))

-- ---- numbers

-- how far the last two numbers of an index lie from the main diagonal, upward
abbrev pub diagonal_of : List ℕ → ℤ
diagonal_of idx = pos (slice_index idx (length idx - 1)) -ℤ pos (slice_index idx (length idx - 2))

-- on or below the k-th diagonal where `lower` holds, else on or above it
abbrev pub is_in_triangle : Bool → ℤ → List ℕ → Bool
is_in_triangle lower k idx = if lower then int_le (diagonal_of idx) k else int_le k (diagonal_of idx)

-- ---- the rule: the view, the shapes of the sources and of the result, and an index of the result

abbrev pub origin_of : Pull → List (List ℕ) → List ℕ → List ℕ → Provenance
origin_of (Slice runs taken) sources shape idx = From 0 (sliced runs.items shape idx)
origin_of (Permute axes) sources shape idx = From 0 (permuted axes.items idx)
origin_of Reshape sources shape idx = From 0 (index_at (only sources) (place_of shape idx))
origin_of (Concat axis) sources shape idx = concat_from axis 0 sources idx
origin_of (Stack axis) sources shape idx = From (slice_index idx axis) (remove idx axis)
origin_of (Flip axes) sources shape idx = From 0 (flipped axes shape idx)
origin_of (Roll shifts) sources shape idx = From 0 (rolled shifts.items shape idx)
origin_of Broadcast sources shape idx = From 0 (back (only sources) idx)
origin_of (Triangle lower k) sources shape idx = if is_in_triangle lower k idx then From 0 idx else Const (pos 0)
origin_of (Full value) sources shape idx = Const value
origin_of (Arange start step) sources shape idx = Const (start +ℤ pos (slice_index idx 0) *ℤ step)
origin_of (Eye k) sources shape idx = if int_eq (diagonal_of idx) k then Const (pos 1) else Const (pos 0)

-- what comes from a source comes from an index inside it
abbrev pub IsInSources : List (List ℕ) → Provenance → Type 0
IsInSources sources (From k idx) = (k < length sources) × IsInside (slice_index_or sources k []) idx
IsInSources sources (Const value) = Unit {0}
