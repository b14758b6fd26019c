-- The reading of an array's metadata in steps: the members that have to be there, what they say, and the members that may be there.
use Rattle.std.specs.Prelude.{ℕ, ◌&&◌, length, codes, Result, Ok, ok_or, ⊤}
use Rattle.serde_json.specs.Data.{Data, Members}
use Rattle.serde_json.specs.Find.{get, as_object}
use Rattle.serde_json.specs.View.{view}
use Rattle.cu_zarr.specs.Layout.{ArrayLayout}
use Rattle.cu_result.specs.Results.{◌>>=◌, check}
use Rattle.cu_json.specs.Form.{is_text, is_number}
use Rattle.cu_meta.specs.Fault.{Fault, json, format, field, dtype, grid, key_encoding, fill, codec, unknown}
use Rattle.cu_meta.specs.Members.{data_type_of, chunk_grid_of, encoding_of, endian_of, are_attributes, are_dimension_names, are_no_transformers, are_understood}
use Rattle.cu_meta_members.specs.Members.{fill_of}
use Rattle.cu_meta.specs.Metadata.{required_member}
use Rattle.cu_meta.specs.declared.read.Required.{Required}

-- the members that have to be there
pub record RequiredData : Type 0 where
  pub shape : Data
  pub data_type : Data
  pub chunk_grid : Data
  pub chunk_key_encoding : Data
  pub fill_value : Data
  pub codecs : Data

abbrev pub required_view : Required → RequiredData
required_view r = record {
  shape = view r.shape.now;
  data_type = view r.data_type.now;
  chunk_grid = view r.chunk_grid.now;
  chunk_key_encoding = view r.chunk_key_encoding.now;
  fill_value = view r.fill_value.now;
  codecs = view r.codecs.now;
}

abbrev pub required_members : Data → Result RequiredData Fault
required_members d = do
  shape ← required_member (codes "shape") d
  data_type ← required_member (codes "data_type") d
  chunk_grid ← required_member (codes "chunk_grid") d
  chunk_key_encoding ← required_member (codes "chunk_key_encoding") d
  fill_value ← required_member (codes "fill_value") d
  codecs ← required_member (codes "codecs") d
  Ok (record {
    shape = shape;
    data_type = data_type;
    chunk_grid = chunk_grid;
    chunk_key_encoding = chunk_key_encoding;
    fill_value = fill_value;
    codecs = codecs;
  })

-- the layout that they say
abbrev pub said_layout : RequiredData → Result ArrayLayout Fault
said_layout r = do
  t ← ok_or (data_type_of r.data_type) dtype
  g ← ok_or (chunk_grid_of t r.shape r.chunk_grid) grid
  encoding ← ok_or (encoding_of r.chunk_key_encoding) key_encoding
  x ← ok_or (fill_of t r.fill_value) fill
  endian ← ok_or (endian_of t r.codecs) codec
  Ok (record { dtype = t; shape = g.shape; chunk = g.chunk; encoding = encoding; endian = endian; fill = x })

-- the members that may be there, at an array of so many axes
abbrev pub optional_members : ℕ → Data → Members → Result ⊤ Fault
optional_members rank d members = do
  _ ← check (are_attributes (get (codes "attributes") d)) (field (codes "attributes"))
  _ ← check (are_dimension_names rank (get (codes "dimension_names") d)) (field (codes "dimension_names"))
  _ ← check (are_no_transformers (get (codes "storage_transformers") d)) (field (codes "storage_transformers"))
  check (are_understood members) unknown

-- the layout that a value says
abbrev pub layout_by_steps : Data → Result ArrayLayout Fault
layout_by_steps d = do
  members ← ok_or (as_object d) json
  _ ← check (is_number 3 (get (codes "zarr_format") d) && is_text (codes "array") (get (codes "node_type") d)) format
  required ← required_members d
  layout ← said_layout required
  _ ← optional_members (length layout.shape) d members
  Ok layout
