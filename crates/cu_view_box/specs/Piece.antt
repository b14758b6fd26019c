-- Boxes of a view's result, over each of which one source is read in one way an axis. This project's own rules.
use Rattle.std.specs.Prelude.{◌≡◌, ℕ, ◌-◌, ◌<◌, List, [], All, length, map, slice_index, slice_index_or}
use Rattle.cu_shape.specs.Index.{IsInside}
use Rattle.cu_grid.specs.Counts.{IsRegion, IsWithin}
use Rattle.cu_grid.specs.declared.region.Region.{Region}
use Rattle.cu_view_box.specs.Way.{IsWay, read_by}
use Rattle.cu_view_box.specs.declared.piece.Piece.{Piece}
use Rattle.cu_view_box.specs.declared.way.Way.{Way}
use Rattle.cu_view_box.specs.declared.way.Way.TheVariants.{Fixed, Up, Down}

-- how far an index lies from the first one of a box, along a way's axis of the result
abbrev pub count_along : List ℕ → List ℕ → Way → ℕ
count_along lo idx (Fixed index) = 0
count_along lo idx (Up axis first step) = slice_index idx axis - slice_index lo axis
count_along lo idx (Down axis first step) = slice_index idx axis - slice_index lo axis

-- the index of the source that the ways read, at an index of a box of the result that begins at `lo`
abbrev pub read_by_ways : List ℕ → List Way → List ℕ → List ℕ
read_by_ways lo ways idx = map (λ way. read_by way (count_along lo idx way)) ways

abbrev pub read_at : Piece → List ℕ → List ℕ
read_at piece idx = read_by_ways piece.region.lo piece.ways.items idx

-- a way goes along an axis of the box, if any, and never below index 0 in the box
abbrev pub IsWayOver : List ℕ → List ℕ → Way → Type 0
IsWayOver lo hi (Fixed index) = Unit {0}
IsWayOver lo hi (Up axis first step) = (axis < length lo) × IsWay (slice_index hi axis - slice_index lo axis) (Up axis first step)
IsWayOver lo hi (Down axis first step) = (axis < length lo) × IsWay (slice_index hi axis - slice_index lo axis) (Down axis first step)

-- a piece of a result of this shape: its box lies in the result, its ways go along axes of it, and what is read lies in its source
pub record IsPieceOfResult (shape : List ℕ) (sources : List (List ℕ)) (piece : Piece) : Type 0 where
  pub region : IsRegion shape piece.region.lo piece.region.hi
  pub source : piece.source < length sources
  pub ways : All (IsWayOver piece.region.lo piece.region.hi) piece.ways.items
  pub inside : (idx : List ℕ) → IsWithin piece.region.lo piece.region.hi idx → IsInside (slice_index_or sources piece.source []) (read_at piece idx)

-- an index of the piece's box that lies in the region `lo` to `hi` of the result, and reads the region `plo` to `phi` of the source
pub record IsSharedIndex (piece : Piece) (lo hi plo phi idx : List ℕ) : Type 0 where
  pub of_piece : IsWithin piece.region.lo piece.region.hi idx
  pub of_out : IsWithin lo hi idx
  pub of_part : IsWithin plo phi (read_at piece idx)

-- regions of the result and of the source have an axis for each of the piece's
pub record HaveRanks (piece : Piece) (out part : Region) : Type 0 where
  pub of_piece : length piece.region.hi ≡ length piece.region.lo
  pub out_lo : length out.lo ≡ length piece.region.lo
  pub out_hi : length out.hi ≡ length piece.region.lo
  pub part_lo : length part.lo ≡ length piece.ways.items
  pub part_hi : length part.hi ≡ length piece.ways.items
