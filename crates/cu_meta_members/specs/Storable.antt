-- The layouts whose written metadata is read back.
use Rattle.std.specs.Prelude.{◌≡◌, ◌≤◌, None, length}
use Rattle.cu_num.specs.Dtype.{size_of, InRange}
use Rattle.cu_num.specs.declared.layout.Endian.TheVariants.{Little}
use Rattle.cu_grid.specs.Limits.{first_fault}
use Rattle.cu_zarr.specs.Layout.{ArrayLayout}

-- a layout in which an array may be stored: at most 6 axes and a grid without a fault (this project's rule), a fill value of the
-- type (Zarr v3 core, "Fill value"), and the byte order little where an element is one byte (the codec "bytes" leaves it out there)
pub record IsStorable (l : ArrayLayout) : Type 0 where
  pub axes : length l.shape ≤ 6
  pub grid : first_fault l.shape l.chunk (size_of l.dtype) ≡ None
  pub fill : InRange l.dtype l.fill
  pub endian : size_of l.dtype ≡ 1 → l.endian ≡ Little
