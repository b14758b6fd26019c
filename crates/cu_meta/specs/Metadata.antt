-- Reading the metadata of an array (Zarr v3 core, "Array metadata"): its layout, or the first fault in this project's order.
use Rattle.std.specs.Prelude.{ℕ, ◌&&◌, nat_le, List, length, codes, Result, Ok, ok_or}
use Rattle.std.specs.Str.{is_utf8}
use Rattle.serde_json.specs.Data.{Data}
use Rattle.serde_json.specs.Find.{get, as_object}
use Rattle.serde_json.specs.Read.{read}
use Rattle.cu_zarr.specs.Layout.{ArrayLayout}
use Rattle.cu_result.specs.Results.{◌>>=◌, check}
use Rattle.cu_json.specs.Form.{is_text, is_number}
use Rattle.cu_meta.specs.Fault.{Fault, json, format, field, dtype, grid, key_encoding, fill, codec, unknown, too_long}
use Rattle.cu_meta.specs.Members.{data_type_of, chunk_grid_of, encoding_of, endian_of, are_attributes, are_dimension_names, are_no_transformers, are_understood}
use Rattle.cu_meta_members.specs.Members.{fill_of}

-- a member that has to be there
abbrev pub required_member : List ℕ → Data → Result Data Fault
required_member name d = ok_or (get name d) (field name)

-- the layout that a value says
abbrev pub layout_in : Data → Result ArrayLayout Fault
layout_in d = do
  members ← ok_or (as_object d) json
  _ ← check (is_number 3 (get (codes "zarr_format") d) && is_text (codes "array") (get (codes "node_type") d)) format
  shape ← required_member (codes "shape") d
  data_type ← required_member (codes "data_type") d
  chunk_grid ← required_member (codes "chunk_grid") d
  chunk_key_encoding ← required_member (codes "chunk_key_encoding") d
  fill_value ← required_member (codes "fill_value") d
  codecs ← required_member (codes "codecs") d
  t ← ok_or (data_type_of data_type) dtype
  g ← ok_or (chunk_grid_of t shape chunk_grid) grid
  encoding ← ok_or (encoding_of chunk_key_encoding) key_encoding
  x ← ok_or (fill_of t fill_value) fill
  endian ← ok_or (endian_of t codecs) codec
  _ ← check (are_attributes (get (codes "attributes") d)) (field (codes "attributes"))
  _ ← check (are_dimension_names (length g.shape) (get (codes "dimension_names") d)) (field (codes "dimension_names"))
  _ ← check (are_no_transformers (get (codes "storage_transformers") d)) (field (codes "storage_transformers"))
  _ ← check (are_understood members) unknown
  Ok (record { dtype = t; shape = g.shape; chunk = g.chunk; encoding = encoding; endian = endian; fill = x })

-- the layout that a text of at most 1048576 bytes says
unfoldable pub read_metadata : List ℕ → Result ArrayLayout Fault
read_metadata bytes = do
  _ ← check (nat_le (length bytes) 1048576) too_long
  _ ← check (is_utf8 bytes) json
  d ← ok_or (read bytes) json
  layout_in d
