-- Reading a `.zarray` (Zarr storage specification, version 2, "Metadata"): its layout, or the first fault in this project's order.
use Rattle.std.specs.Prelude.{ℕ, nat_le, List, length, codes, is_some, Result, Some, Ok, ok_or}
use Rattle.std.specs.Str.{is_utf8}
use Rattle.serde_json.specs.Data.{Data}
use Rattle.serde_json.specs.Find.{get, as_object}
use Rattle.serde_json.specs.Read.{read}
use Rattle.cu_num.specs.declared.layout.Encoding.TheVariants.{V2}
use Rattle.cu_num.specs.declared.layout.Sep.TheVariants.{Dot}
use Rattle.cu_zarr.specs.Layout.{ArrayLayout}
use Rattle.cu_result.specs.Results.{◌>>=◌, check}
use Rattle.cu_json.specs.Form.{is_text, is_number}
use Rattle.cu_meta_members.specs.Members.{separator_of}
use Rattle.cu_v2.specs.Fault.{ZarrayFault, no_object, not_version_2, no_member, no_type, no_grid, no_separator, no_fill, coded, not_row_major, over_length}
use Rattle.cu_v2.specs.Members.{element_of, plain_grid_of, is_uncoded, fill_or_null}

-- a member that has to be there
abbrev pub held_member : List ℕ → Data → Result Data ZarrayFault
held_member name d = ok_or (get name d) (no_member name)

-- the layout that a value says; members of other names are passed over
abbrev pub zarray_in : Data → Result ArrayLayout ZarrayFault
zarray_in d = do
  _ ← check (is_some (as_object d)) no_object
  _ ← check (is_number 2 (get (codes "zarr_format") d)) not_version_2
  shape ← held_member (codes "shape") d
  chunks ← held_member (codes "chunks") d
  dtype ← held_member (codes "dtype") d
  compressor ← held_member (codes "compressor") d
  fill_value ← held_member (codes "fill_value") d
  order ← held_member (codes "order") d
  filters ← held_member (codes "filters") d
  element ← ok_or (element_of dtype) no_type
  g ← ok_or (plain_grid_of element.0 shape chunks) no_grid
  _ ← check (is_uncoded compressor filters) coded
  _ ← check (is_text (codes "C") (Some order)) not_row_major
  x ← ok_or (fill_or_null element.0 fill_value) no_fill
  sep ← ok_or (separator_of Dot (get (codes "dimension_separator") d)) no_separator
  Ok (record { dtype = element.0; shape = g.shape; chunk = g.chunk; encoding = V2 sep; endian = element.1; fill = x })

-- the layout that a text of at most 1048576 bytes says
unfoldable pub zarray_layout : List ℕ → Result ArrayLayout ZarrayFault
zarray_layout bytes = do
  _ ← check (nat_le (length bytes) 1048576) over_length
  _ ← check (is_utf8 bytes) no_object
  d ← ok_or (read bytes) no_object
  zarray_in d
