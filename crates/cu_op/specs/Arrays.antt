-- The arrays of a plan by their numbers. Past the end stands an array that means nothing.
use Rattle.std.specs.Prelude.{◌≡◌, ℕ, ◌&&◌, bytes_eq, pos, Bool, false, List, [], All, Option, None, slice_index_or}
use Rattle.cu_num.specs.declared.types.Dtype.{Dtype}
use Rattle.cu_num.specs.declared.types.Dtype.TheVariants as types
use Rattle.cu_num.specs.declared.layout.Encoding.TheVariants.{Plain}
use Rattle.cu_num.specs.declared.layout.Sep.TheVariants.{Slash}
use Rattle.cu_num.specs.declared.layout.Endian.TheVariants.{Little}
use Rattle.cu_shape.specs.Index.{product}
use Rattle.cu_grid.specs.Counts.{counts_of}
use Rattle.cu_grid.specs.Grid.{RegularGrid}
use Rattle.cu_zarr.specs.Layout.{ArrayLayout, stored_chunk_bytes}
use Rattle.cu_op.specs.declared.layout.ArrayInfo.{ArrayInfo}
use Rattle.cu_op.specs.Layout.{layout_view}

abbrev pub no_array : ArrayInfo
no_array = record {
  prefix = [];
  layout = record { dtype = types.Bool; grid = record { shape = []; chunk = [] }; encoding = Plain Slash; endian = Little; fill = pos 0 };
  maker = None;
  inlined = false;
}

abbrev pub array_at : List ArrayInfo → ℕ → ArrayInfo
array_at arrays a = slice_index_or arrays a no_array

abbrev pub layout_at : List ArrayInfo → ℕ → ArrayLayout
layout_at arrays a = layout_view (array_at arrays a).layout

abbrev pub grid_at : List ArrayInfo → ℕ → RegularGrid
grid_at arrays a = (array_at arrays a).layout.grid

-- whether two grids have the same shape and the same chunk shape
abbrev pub same_grid : RegularGrid → RegularGrid → Bool
same_grid g h = bytes_eq g.shape h.shape && bytes_eq g.chunk h.chunk

abbrev pub type_at : List ArrayInfo → ℕ → Dtype
type_at arrays a = (array_at arrays a).layout.dtype

abbrev pub maker_at : List ArrayInfo → ℕ → Option ℕ
maker_at arrays a = (array_at arrays a).maker

-- an array whose chunks are made where they are read, and never stored
abbrev pub is_inlined : List ArrayInfo → ℕ → Bool
is_inlined arrays a = (array_at arrays a).inlined

abbrev pub AllStored : List ArrayInfo → Type 0
AllStored arrays = All (λ a. a.inlined ≡ false) arrays

-- the bytes of a chunk of an array, also at the edge
abbrev pub chunk_room : List ArrayInfo → ℕ → ℕ
chunk_room arrays a = stored_chunk_bytes (layout_at arrays a)

-- how many chunks an array has on each axis, and in all
abbrev pub grid_counts : RegularGrid → List ℕ
grid_counts g = counts_of g.shape g.chunk

abbrev pub array_chunk_count : ArrayInfo → ℕ
array_chunk_count a = product (grid_counts a.layout.grid)

-- an array has the same layout under its new number
abbrev pub HasLayoutOf : (ℕ → ℕ) → List ArrayInfo → List ArrayInfo → ℕ → Type 0
HasLayoutOf f old new a = (array_at new (f a)).layout ≡ (array_at old a).layout
