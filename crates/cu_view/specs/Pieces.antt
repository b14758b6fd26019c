-- How the result of a view is parted into boxes over each of which one source is read in one way an axis. This project's own rules.
use Rattle.std.specs.Prelude.{◌≡◌, ◌↔◌, ℕ, ◌≤◌, ◌==◌, nat_lt, ℤ, pos, IsTrue, List, [], length, slice_index, slice_index_or, if◌then◌else◌}
use Rattle.std.specs.Int.{int_rem_euclid}
use Rattle.cu_shape.specs.Index.{product, place_of, IsInside}
use Rattle.cu_shape.specs.Slice.{at_least_zero}
use Rattle.cu_grid.specs.Counts.{IsWithin}
use Rattle.cu_origin.specs.Pull.{for_each_axis, is_in_triangle, origin_of}
use Rattle.cu_origin.specs.declared.provenance.Provenance.{Provenance}
use Rattle.cu_origin.specs.declared.provenance.Provenance.TheVariants.{From, Const}
use Rattle.cu_origin.specs.declared.pull.Pull.{Pull}
use Rattle.cu_origin.specs.declared.pull.Pull.TheVariants.{Reshape, Concat, Stack, Roll, Triangle, Full, Arange, Eye}
use Rattle.cu_view_box.specs.Piece.{read_at, IsPieceOfResult}
use Rattle.cu_view_box.specs.declared.piece.Piece.{Piece}

-- how far an axis is rolled towards its end, below its size
abbrev pub turn_of : ℤ → ℕ → ℕ
turn_of shift n = if n == 0 then 0 else at_least_zero (int_rem_euclid shift (pos n))

abbrev pub turn_on : List ℤ → List ℕ → ℕ → ℕ
turn_on shifts shape d = turn_of (slice_index_or shifts d (pos 0)) (slice_index shape d)

-- in how many ranges a roll parts each axis: in two where it is turned
abbrev pub ranges_on : List ℤ → List ℕ → ℕ → ℕ
ranges_on shifts shape d = if turn_on shifts shape d == 0 then 1 else 2

abbrev pub ranges_of : List ℤ → List ℕ → List ℕ
ranges_of shifts shape = for_each_axis (length shape) (ranges_on shifts shape)

-- the range of each axis in which an index lies: range 1 has what came round from the axis' end
abbrev pub range_on : List ℤ → List ℕ → List ℕ → ℕ → ℕ
range_on shifts shape idx d = if nat_lt (slice_index idx d) (turn_on shifts shape d) then 1 else 0

abbrev pub range_at : List ℤ → List ℕ → List ℕ → List ℕ
range_at shifts shape idx = for_each_axis (length shape) (range_on shifts shape idx)

-- the number of a source that an element comes from, 0 for a number
abbrev pub source_number : Provenance → ℕ
source_number (From s i) = s
source_number (Const x) = 0

-- how many pieces a result has: views of one array have one, concat and stack one a source, a roll one for each way to choose a
-- range on each axis; a reshape and what is made from nothing aren't parted so
abbrev pub pieces_of : Pull → List (List ℕ) → List ℕ → ℕ
pieces_of (Concat axis) sources shape = length sources
pieces_of (Stack axis) sources shape = length sources
pieces_of (Roll shifts) sources shape = product (ranges_of shifts.items shape)
pieces_of Reshape sources shape = 0
pieces_of (Full value) sources shape = 0
pieces_of (Arange start step) sources shape = 0
pieces_of (Eye k) sources shape = 0
pieces_of pull sources shape = 1

-- the number of the piece in which an index of the result lies
abbrev pub number_at : Pull → List (List ℕ) → List ℕ → List ℕ → ℕ
number_at (Roll shifts) sources shape idx = place_of (ranges_of shifts.items shape) (range_at shifts.items shape idx)
number_at (Concat axis) sources shape idx = source_number (origin_of (Concat axis) sources shape idx)
number_at (Stack axis) sources shape idx = source_number (origin_of (Stack axis) sources shape idx)
number_at pull sources shape idx = 0

-- the result has its source's element here, and not the 0 outside a triangle
abbrev pub IsShown : Pull → List ℕ → Type 0
IsShown (Triangle lower k) idx = IsTrue (is_in_triangle lower k idx)
IsShown pull idx = Unit {0}

-- a triangle has two axes
abbrev pub HasAxes : Pull → ℕ → Type 0
HasAxes (Triangle lower k) rank = 2 ≤ rank
HasAxes pull rank = Unit {0}

-- a piece by its number: its box has exactly the indices with this number, and what it reads there is where the element comes from,
-- but for those outside a triangle
pub record IsNumbered (pull : Pull) (sources : List (List ℕ)) (shape : List ℕ) (number : ℕ) (piece : Piece) : Type 0 where
  pub is_piece : IsPieceOfResult shape sources piece
  pub rank : length piece.ways.items ≡ length (slice_index_or sources piece.source [])
  pub exactly : (idx : List ℕ) → IsInside shape idx → IsWithin piece.region.lo piece.region.hi idx ↔ (number_at pull sources shape idx ≡ number)
  pub comes : (idx : List ℕ) → IsWithin piece.region.lo piece.region.hi idx → IsShown pull idx → origin_of pull sources shape idx ≡ From piece.source (read_at piece idx)
