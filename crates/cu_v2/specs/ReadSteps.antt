-- The reading of a `.zarray` in steps: the members that have to be there, and the layout that they say.
use Rattle.std.specs.Prelude.{codes, is_some, Option, Some, Result, Ok, ok_or}
use Rattle.serde_json.specs.Data.{Data}
use Rattle.serde_json.specs.Find.{get, as_object}
use Rattle.serde_json.specs.View.{view}
use Rattle.cu_num.specs.declared.layout.Encoding.TheVariants.{V2}
use Rattle.cu_num.specs.declared.layout.Sep.TheVariants.{Dot}
use Rattle.cu_zarr.specs.Layout.{ArrayLayout}
use Rattle.cu_result.specs.Results.{◌>>=◌, check}
use Rattle.cu_json.specs.Form.{is_text, is_number}
use Rattle.cu_meta_members.specs.Members.{separator_of}
use Rattle.cu_v2.specs.Fault.{ZarrayFault, no_object, not_version_2, no_type, no_grid, no_separator, no_fill, coded, not_row_major}
use Rattle.cu_v2.specs.Members.{element_of, plain_grid_of, is_uncoded, fill_or_null}
use Rattle.cu_v2.specs.Zarray.{held_member}
use Rattle.cu_v2.specs.declared.read.HeldMembers.{HeldMembers}

-- the members that have to be there
pub record HeldData : Type 0 where
  pub shape : Data
  pub chunks : Data
  pub dtype : Data
  pub compressor : Data
  pub fill_value : Data
  pub order : Data
  pub filters : Data

abbrev pub held_view : HeldMembers → HeldData
held_view r = record {
  shape = view r.shape.now;
  chunks = view r.chunks.now;
  dtype = view r.dtype.now;
  compressor = view r.compressor.now;
  fill_value = view r.fill_value.now;
  order = view r.order.now;
  filters = view r.filters.now;
}

abbrev pub held_members : Data → Result HeldData ZarrayFault
held_members d = do
  shape ← held_member (codes "shape") d
  chunks ← held_member (codes "chunks") d
  dtype ← held_member (codes "dtype") d
  compressor ← held_member (codes "compressor") d
  fill_value ← held_member (codes "fill_value") d
  order ← held_member (codes "order") d
  filters ← held_member (codes "filters") d
  Ok (record {
    shape = shape;
    chunks = chunks;
    dtype = dtype;
    compressor = compressor;
    fill_value = fill_value;
    order = order;
    filters = filters;
  })

-- the layout that they say, with this separator beside them
abbrev pub held_layout : HeldData → Option Data → Result ArrayLayout ZarrayFault
held_layout r separator = do
  element ← ok_or (element_of r.dtype) no_type
  g ← ok_or (plain_grid_of element.0 r.shape r.chunks) no_grid
  _ ← check (is_uncoded r.compressor r.filters) coded
  _ ← check (is_text (codes "C") (Some r.order)) not_row_major
  x ← ok_or (fill_or_null element.0 r.fill_value) no_fill
  sep ← ok_or (separator_of Dot separator) no_separator
  Ok (record { dtype = element.0; shape = g.shape; chunk = g.chunk; encoding = V2 sep; endian = element.1; fill = x })

-- the layout that a value says
abbrev pub zarray_by_steps : Data → Result ArrayLayout ZarrayFault
zarray_by_steps d = do
  _ ← check (is_some (as_object d)) no_object
  _ ← check (is_number 2 (get (codes "zarr_format") d)) not_version_2
  held ← held_members d
  held_layout held (get (codes "dimension_separator") d)
