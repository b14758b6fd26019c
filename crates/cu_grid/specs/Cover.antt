-- The chunks that share an element with a region.
use Rattle.std.specs.Prelude.{◌≡◌, ℕ, ◌+◌, ◌-◌, ◌/◌, ◌^◌, ◌<◌, nat_lt, if◌then◌else◌, List, [], ◌∷◌, length, map, slice_index}
use Rattle.std.specs.List.{range_with_len}
use Rattle.std.specs.Int.{div_ceil}
use Rattle.cu_shape.specs.Index.{product, index_at, quotients, sums}
use Rattle.cu_grid.specs.Counts.{IsWithin}
use Rattle.cu_grid.specs.Grid.{RegularGrid, IsCoordinate, IsInChunk}

-- a chunk of the grid meets a region: some index lies in both
abbrev pub Meets : RegularGrid → List ℕ → List ℕ → List ℕ → Type 0
Meets g lo hi coord = IsCoordinate g coord × ((idx : List ℕ) × IsWithin lo hi idx × IsInChunk g coord idx)

-- how many chunks of a size an interval of an axis meets
abbrev pub span_on : ℕ → ℕ → ℕ → ℕ
span_on lo hi size = if nat_lt lo hi then div_ceil hi size - lo / size else 0

abbrev pub spans_of : List ℕ → List ℕ → List ℕ → List ℕ
spans_of (l ∷ ls) (h ∷ hs) (c ∷ cs) = span_on l h c ∷ spans_of ls hs cs
spans_of (l ∷ ls) (h ∷ hs) [] = []
spans_of (l ∷ ls) [] chunk = []
spans_of [] hs chunk = []

-- coordinates of a box of chunks in row-major order: its corner plus the index at each of `left` places
abbrev pub coordinates_from : List ℕ → List ℕ → ℕ → ℕ → List (List ℕ)
coordinates_from corner spans place left = map (λ p. sums corner (index_at spans p)) (range_with_len place left)

-- the chunks that a region meets: from the chunk of `lo` on, on each axis as many as the interval meets
abbrev pub covering : List ℕ → List ℕ → List ℕ → List (List ℕ)
covering chunk lo hi = coordinates_from (quotients lo chunk) (spans_of lo hi chunk) 0 (product (spans_of lo hi chunk))

-- what a walk over a box of chunks keeps: the places that are left are those up to the box's last, and
-- its coordinates fit 64 bits
pub record IsWalk (corner spans : List ℕ) (place left : ℕ) : Type 0 where
  pub ranks : length corner ≡ length spans
  pub rest : place + left ≡ product spans
  pub places : product spans < 2 ^ 64
  pub coordinates : (k : ℕ) → slice_index corner k + slice_index spans k < 2 ^ 64
