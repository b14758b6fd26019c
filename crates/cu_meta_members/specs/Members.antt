-- The members of an array's metadata that both versions of Zarr have (Zarr v3 core, "Array metadata"; Zarr v2, "Metadata"), each by itself.
use Rattle.std.specs.Prelude.{◌&&◌, not, ℤ, pos, int_lt, codes, is_none, Option, Some, None, option_map, if◌then◌else◌}
use Rattle.std.specs.Prelude.{Bool as Test, true, false}
use Rattle.serde_json.specs.Data.{Data}
use Rattle.serde_json.specs.Find.{as_bool, as_number, as_integer}
use Rattle.cu_num.specs.Dtype.{least, greatest}
use Rattle.cu_num.specs.declared.types.Dtype.{Dtype}
use Rattle.cu_num.specs.declared.types.Dtype.TheVariants.{Bool, Int8, Int16, Int32, Int64, Uint8, Uint16, Uint32, Uint64}
use Rattle.cu_num.specs.declared.layout.Sep.{Sep}
use Rattle.cu_num.specs.declared.layout.Sep.TheVariants.{Slash, Dot}
use Rattle.cu_json.specs.Form.{is_text}
use Rattle.cu_result.specs.Options.{◌>>=◌}

-- the separator that is set, or else the usual one of the encoding
abbrev pub separator_of : Sep → Option Data → Option Sep
separator_of usual value =
    if is_none value then Some usual
    else if is_text (codes "/") value then Some Slash
    else if is_text (codes ".") value then Some Dot
    else None

-- a number of the type
abbrev pub within : Dtype → ℤ → Test
within t x = not (int_lt x (least t)) && not (int_lt (greatest t) x)

-- a truth value as a number
abbrev pub truth : Test → ℤ
truth true = pos 1
truth false = pos 0

-- an integer of the type
abbrev pub whole_of : Dtype → Data → Option ℤ
whole_of t d = do
  number ← as_number d
  x ← as_integer number
  if within t x then Some x else None

-- `fill_value`
abbrev pub fill_of : Dtype → Data → Option ℤ
fill_of Bool d = option_map truth (as_bool d)
fill_of Int8 d = whole_of Int8 d
fill_of Int16 d = whole_of Int16 d
fill_of Int32 d = whole_of Int32 d
fill_of Int64 d = whole_of Int64 d
fill_of Uint8 d = whole_of Uint8 d
fill_of Uint16 d = whole_of Uint16 d
fill_of Uint32 d = whole_of Uint32 d
fill_of Uint64 d = whole_of Uint64 d
