-- The members of a `.zarray` (Zarr storage specification, version 2, "Metadata"), each by itself; what is accepted is this project's choice.
use Rattle.std.specs.Prelude.{ℕ, ◌&&◌, ◌||◌, ◌==◌, ℤ, pos, List, [], ◌∷◌, codes, bytes_eq, is_some, is_none, Option, Some, None, if◌then◌else◌}
use Rattle.std.specs.Prelude.{Bool as Test}
use Rattle.std.specs.Option.{option_or}
use Rattle.serde_json.specs.Data.{Data}
use Rattle.serde_json.specs.Find.{as_null, as_str}
use Rattle.cu_num.specs.Dtype.{size_of}
use Rattle.cu_num.specs.declared.types.Dtype.{Dtype}
use Rattle.cu_num.specs.declared.types.Dtype.TheVariants.{Bool, Int8, Int16, Int32, Int64, Uint8, Uint16, Uint32, Uint64}
use Rattle.cu_num.specs.declared.layout.Endian.{Endian}
use Rattle.cu_num.specs.declared.layout.Endian.TheVariants.{Little, Big}
use Rattle.cu_grid.specs.Grid.{RegularGrid}
use Rattle.cu_grid.specs.Limits.{first_fault}
use Rattle.cu_json.specs.Form.{is_list_of, naturals_of}
use Rattle.cu_result.specs.Options.{◌>>=◌, when}
use Rattle.cu_meta_members.specs.Members.{whole_of, fill_of}

-- the type of a code: its kind and its count of bytes (NumPy, "The array interface", typestr)
abbrev pub type_of_code : List ℕ → Option Dtype
type_of_code code =
    if bytes_eq code (codes "b1") then Some Bool
    else if bytes_eq code (codes "i1") then Some Int8
    else if bytes_eq code (codes "i2") then Some Int16
    else if bytes_eq code (codes "i4") then Some Int32
    else if bytes_eq code (codes "i8") then Some Int64
    else if bytes_eq code (codes "u1") then Some Uint8
    else if bytes_eq code (codes "u2") then Some Uint16
    else if bytes_eq code (codes "u4") then Some Uint32
    else if bytes_eq code (codes "u8") then Some Uint64
    else None

-- the byte order of the sign in front: `<` (60) little, `>` (62) big, `|` (124) none; types of one byte are always little-endian
abbrev pub order_of_sign : ℕ → Dtype → Option Endian
order_of_sign sign t =
    if sign == 60 then Some Little
    else if sign == 62 then Some (if size_of t == 1 then Little else Big)
    else if sign == 124 && size_of t == 1 then Some Little
    else None

-- a sign, and then a code
abbrev pub element_of_text : List ℕ → Option (Dtype × Endian)
element_of_text [] = None
element_of_text (sign ∷ code) = do
  t ← type_of_code code
  e ← order_of_sign sign t
  Some (t, e)

-- `dtype`: such a text
abbrev pub element_of : Data → Option (Dtype × Endian)
element_of d = do
  text ← as_str d
  element_of_text text

-- `shape` and `chunks`: a regular grid within the limits
abbrev pub plain_grid_of : Dtype → Data → Data → Option RegularGrid
plain_grid_of t shape chunks = do
  sizes ← naturals_of 6 shape
  chunk ← naturals_of 6 chunks
  _ ← when (is_none (first_fault sizes chunk (size_of t)))
  Some (record { shape = sizes; chunk = chunk })

-- `compressor` and `filters`: none of either
abbrev pub is_uncoded : Data → Data → Test
is_uncoded compressor filters = is_some (as_null compressor) && (is_some (as_null filters) || is_list_of 0 filters)

-- `fill_value`: null stands for 0, and a truth value may be written as the number 0 or 1
abbrev pub fill_or_null : Dtype → Data → Option ℤ
fill_or_null t d = if is_some (as_null d) then Some (pos 0) else option_or (fill_of t d) (whole_of t d)
