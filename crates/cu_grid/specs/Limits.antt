-- The limits of a stored array's grid (this project's rule), in the order in which they are tested.
use Rattle.std.specs.Prelude.{ℕ, ◌*◌, ◌^◌, ◌≤◌, ◌==◌, nat_lt, not, if◌then◌else◌, Option, None, Some, List, length}
use Rattle.std.specs.List.{list_any}
use Rattle.cu_shape.specs.Index.{product}
use Rattle.cu_grid.specs.Counts.{counts_of, at_least_one}
use Rattle.cu_grid.specs.Grid.{RegularGrid}
use Rattle.cu_grid.specs.declared.fault.GridFault.{GridFault}
use Rattle.cu_grid.specs.declared.fault.GridFault.TheVariants.{ZeroChunk, Rank, TooManyElements, TooManyChunks, ChunkTooLarge}

-- the first fault of a shape and a chunk shape of elements of `size` bytes
abbrev pub first_fault : List ℕ → List ℕ → ℕ → Option GridFault
first_fault shape chunk size =
    if list_any (λ c. c == 0) chunk then Some ZeroChunk
    else if not (length shape == length chunk) then Some Rank
    else if nat_lt (2 ^ 40) (product (at_least_one shape)) then Some TooManyElements
    else if nat_lt 65536 (product (at_least_one (counts_of shape chunk))) then Some TooManyChunks
    else if nat_lt (2 ^ 28) (product chunk * size) then Some ChunkTooLarge
    else None

-- what a stored array's grid keeps within
pub record IsWithinLimits (g : RegularGrid) (size : ℕ) : Type 0 where
  pub elements : product (at_least_one g.shape) ≤ 2 ^ 40
  pub chunks : product (at_least_one (counts_of g.shape g.chunk)) ≤ 65536
  pub bytes : product g.chunk * size ≤ 2 ^ 28
