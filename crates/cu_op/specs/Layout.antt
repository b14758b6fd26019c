-- The layout of an array of a plan, as the record that the definitions of a stored array take.
use Rattle.std.specs.Prelude.{◌≤◌, length}
use Rattle.cu_num.specs.Dtype.{InRange}
use Rattle.cu_grid.specs.Grid.{IsGrid}
use Rattle.cu_zarr.specs.Layout.{ArrayLayout}
use Rattle.cu_op.specs.declared.layout.Layout.{Layout}
use Rattle.cu_op.specs.declared.layout.ArrayInfo.{ArrayInfo}

-- a layout with its shape and chunk shape in place of the grid
abbrev pub layout_view : Layout → ArrayLayout
layout_view l = record { dtype = l.dtype; shape = l.grid.shape; chunk = l.grid.chunk; encoding = l.encoding; endian = l.endian; fill = l.fill }

-- the fill value is a number of the type (Zarr v3 core, "Fill value")
abbrev pub IsLayout : Layout → Type 0
IsLayout l = InRange l.dtype l.fill

-- an array that a plan may have: a prefix of at most 45 bytes (this project's rule), a grid, and such a layout
pub record IsArray (a : ArrayInfo) : Type 0 where
  pub short : length a.prefix ≤ 45
  pub grid : IsGrid a.layout.grid
  pub fill : IsLayout a.layout
