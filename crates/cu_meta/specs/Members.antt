-- The members of an array's metadata (Zarr v3 core, "Array metadata"), each by itself; what is accepted is this project's choice.
use Rattle.std.specs.Prelude.{ℕ, ◌&&◌, ◌||◌, ◌==◌, not, List, codes, bytes_eq, is_some, is_none, Option, Some, None, option_map, option_and_then, unwrap_or, if◌then◌else◌}
use Rattle.std.specs.Prelude.{Bool as Test, true, false}
use Rattle.serde_json.specs.Data.{Data, Members}
use Rattle.serde_json.specs.Find.{get, at, as_null, as_str, as_bool, as_array, as_object}
use Rattle.cu_num.specs.Dtype.{size_of}
use Rattle.cu_num.specs.declared.types.Dtype.{Dtype}
use Rattle.cu_num.specs.declared.layout.Encoding.{Encoding}
use Rattle.cu_num.specs.declared.layout.Encoding.TheVariants.{Plain, V2}
use Rattle.cu_num.specs.declared.layout.Sep.TheVariants.{Slash, Dot}
use Rattle.cu_num.specs.declared.layout.Endian.{Endian}
use Rattle.cu_num.specs.declared.layout.Endian.TheVariants.{Little, Big}
use Rattle.cu_num.specs.TypeName.{dtype_named}
use Rattle.cu_grid.specs.Grid.{RegularGrid}
use Rattle.cu_grid.specs.Limits.{first_fault}
use Rattle.cu_json.specs.Form.{is_text, is_list_of, each_item, each_member, naturals_of}
use Rattle.cu_result.specs.Options.{◌>>=◌, when}
use Rattle.cu_meta_members.specs.Members.{separator_of}
use Rattle.cu_meta.specs.Part.{is_part, is_part_of, part_name, configuration_member, sets_nothing}

-- `data_type`: a part that sets nothing
abbrev pub data_type_of : Data → Option Dtype
data_type_of d = do
  _ ← when (is_part d && sets_nothing d)
  name ← part_name d
  dtype_named name

-- `shape` and `chunk_grid`: a regular grid within the limits
abbrev pub chunk_grid_of : Dtype → Data → Data → Option RegularGrid
chunk_grid_of t shape part = do
  sizes ← naturals_of 6 shape
  _ ← when (is_part_of (codes "regular") (codes "chunk_shape") part)
  chunks ← configuration_member (codes "chunk_shape") part
  chunk ← naturals_of 6 chunks
  _ ← when (is_none (first_fault sizes chunk (size_of t)))
  Some (record { shape = sizes; chunk = chunk })

-- `chunk_key_encoding`
abbrev pub encoding_of : Data → Option Encoding
encoding_of part =
    if is_part_of (codes "default") (codes "separator") part then option_map Plain (separator_of Slash (configuration_member (codes "separator") part))
    else if is_part_of (codes "v2") (codes "separator") part then option_map V2 (separator_of Dot (configuration_member (codes "separator") part))
    else None

-- the byte order that is set; it may be left out for types of one byte, which are always little-endian
abbrev pub endian_set : Dtype → Option Data → Option Endian
endian_set t value =
    if is_none value then (if size_of t == 1 then Some Little else None)
    else if is_text (codes "little") value then Some Little
    else if is_text (codes "big") value then Some (if size_of t == 1 then Little else Big)
    else None

-- `codecs`: the one codec that writes elements as bytes
abbrev pub endian_of : Dtype → Data → Option Endian
endian_of t codecs = do
  _ ← when (is_list_of 1 codecs)
  codec ← at 0 codecs
  _ ← when (is_part_of (codes "bytes") (codes "endian") codec)
  endian_set t (configuration_member (codes "endian") codec)

-- `attributes`: any object
abbrev pub are_attributes : Option Data → Test
are_attributes value = unwrap_or (option_map (λ d. is_some (as_object d)) value) true

abbrev pub is_text_or_null : Data → Test
is_text_or_null d = is_some (as_str d) || is_some (as_null d)

-- `dimension_names`: null, or a text or null for each axis
abbrev pub are_dimension_names : ℕ → Option Data → Test
are_dimension_names rank value = unwrap_or (option_map (λ d. is_some (as_null d)
    || (is_list_of rank d && unwrap_or (option_map (each_item is_text_or_null) (as_array d)) false)) value) true

-- `storage_transformers`: none
abbrev pub are_no_transformers : Option Data → Test
are_no_transformers value = unwrap_or (option_map (λ d. is_list_of 0 d) value) true

-- the name of a member that says what the array is
abbrev pub names_array : List ℕ → Test
names_array k = bytes_eq k (codes "zarr_format") || bytes_eq k (codes "node_type") || bytes_eq k (codes "shape")
    || bytes_eq k (codes "data_type")

-- the name of a member that says how the chunks are stored
abbrev pub names_chunks : List ℕ → Test
names_chunks k = bytes_eq k (codes "chunk_grid") || bytes_eq k (codes "chunk_key_encoding") || bytes_eq k (codes "fill_value")
    || bytes_eq k (codes "codecs")

-- the name of a member that may be absent
abbrev pub names_optional : List ℕ → Test
names_optional k = bytes_eq k (codes "attributes") || bytes_eq k (codes "dimension_names") || bytes_eq k (codes "storage_transformers")

-- the name of one of the eleven members
abbrev pub is_known : List ℕ → Test
is_known k = bytes_eq k (codes "zarr_format") || bytes_eq k (codes "node_type") || bytes_eq k (codes "shape") || bytes_eq k (codes "data_type")
    || bytes_eq k (codes "chunk_grid") || bytes_eq k (codes "chunk_key_encoding") || bytes_eq k (codes "fill_value") || bytes_eq k (codes "codecs")
    || bytes_eq k (codes "attributes") || bytes_eq k (codes "dimension_names") || bytes_eq k (codes "storage_transformers")

-- a member that says that a reader need not understand it
abbrev pub may_be_passed_over : Data → Test
may_be_passed_over d = unwrap_or (option_map not (option_and_then as_bool (get (codes "must_understand") d))) false

-- each member is one of the eleven, or may be passed over
abbrev pub are_understood : Members → Test
are_understood ms = each_member (λ k d. is_known k || may_be_passed_over d) ms
