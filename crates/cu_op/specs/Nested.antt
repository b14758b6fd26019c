-- Chunks that lie whole in the chunks of another grid.
use Rattle.std.specs.Prelude.{◌≡◌}
use Rattle.cu_grid.specs.Grid.{RegularGrid}
pub use Rattle.cu_rechunk.specs.Nested.{IsNestedAlong}

-- Each chunk of the first grid lies whole in one chunk of the second, over the same sizes.
pub record IsNested (g regions : RegularGrid) : Type 0 where
  pub shape : regions.shape ≡ g.shape
  pub axes : IsNestedAlong g.shape g.chunk regions.chunk
