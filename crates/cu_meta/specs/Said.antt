-- Which values and which texts say a layout (Zarr v3 core, "Array metadata"): each member by itself, with no order of faults.
use Rattle.std.specs.Prelude.{◌≡◌, ◌≤◌, ℕ, true, List, length, codes, Some}
use Rattle.std.specs.Str.{is_utf8}
use Rattle.serde_json.specs.Data.{Data, Members}
use Rattle.serde_json.specs.Find.{get, as_object}
use Rattle.serde_json.specs.Read.{read}
use Rattle.cu_grid.specs.Grid.{RegularGrid}
use Rattle.cu_zarr.specs.Layout.{ArrayLayout}
use Rattle.cu_json.specs.Form.{is_text, is_number}
use Rattle.cu_meta.specs.Members.{data_type_of, chunk_grid_of, encoding_of, endian_of}
use Rattle.cu_meta_members.specs.Members.{fill_of}
use Rattle.cu_meta.specs.Members.{are_attributes, are_dimension_names, are_no_transformers}
use Rattle.cu_meta.specs.Members.{are_understood}

-- the member is there, with a fact of its value
abbrev pub HasMember : List ℕ → Data → (Data → Type 0) → Type 0
HasMember name d fact = (value : Data) × (get name d ≡ Some value) × fact value

-- the array's shape and the shape of a whole chunk
abbrev pub said_grid : ArrayLayout → RegularGrid
said_grid l = record { shape = l.shape; chunk = l.chunk }

-- the two members that say the grid
abbrev pub SaysGrid : Data → ArrayLayout → Type 0
SaysGrid d l = HasMember (codes "shape") d (λ shape.
    HasMember (codes "chunk_grid") d (λ part. chunk_grid_of l.dtype shape part ≡ Some (said_grid l)))

-- The value is an object that says it is an array's of format 3. Each member that has to be there says its part of the layout, those
-- that may be there are of their forms, and each other one may be passed over.
pub record SaysLayout (d : Data) (l : ArrayLayout) : Type 0 where
  pub format : is_number 3 (get (codes "zarr_format") d) ≡ true
  pub node_type : is_text (codes "array") (get (codes "node_type") d) ≡ true
  pub data_type : HasMember (codes "data_type") d (λ value. data_type_of value ≡ Some l.dtype)
  pub grid : SaysGrid d l
  pub encoding : HasMember (codes "chunk_key_encoding") d (λ value. encoding_of value ≡ Some l.encoding)
  pub fill : HasMember (codes "fill_value") d (λ value. fill_of l.dtype value ≡ Some l.fill)
  pub endian : HasMember (codes "codecs") d (λ value. endian_of l.dtype value ≡ Some l.endian)
  pub attributes : are_attributes (get (codes "attributes") d) ≡ true
  pub dimension_names : are_dimension_names (length l.shape) (get (codes "dimension_names") d) ≡ true
  pub transformers : are_no_transformers (get (codes "storage_transformers") d) ≡ true
  pub members : Members
  pub object : as_object d ≡ Some members
  pub understood : are_understood members ≡ true

-- the text is the JSON text of such a value, in UTF-8, and of at most 1048576 bytes
pub record IsMetadataOf (text : List ℕ) (l : ArrayLayout) : Type 0 where
  pub short : length text ≤ 1048576
  pub utf8 : is_utf8 text ≡ true
  pub value : Data
  pub reads : read text ≡ Some value
  pub says : SaysLayout value l
