-- The region of all indices of an array.
use Rattle.std.proofs.Common.{ℕ, ◌<◌, List, length}
use Rattle.cu_grid.proofs.WholeRegions.{whole_region}
pub use Rattle.cu_grid.proofs.WholeRegions.{whole_within}
use Rattle.cu_op.specs.declared.layout.ArrayInfo.{ArrayInfo}
use Rattle.cu_op.specs.Arrays.{grid_at}
use Rattle.cu_op.specs.Walks.{IsWalkOver}
use Rattle.cu_op.specs.Chunks.{whole_walk}

pub whole_over : (arrays : List ArrayInfo) (a : ℕ) → a < length arrays → IsWalkOver arrays (whole_walk arrays a)
whole_over arrays a within = (within, whole_region (grid_at arrays a).shape)
