-- The names of the element types (Zarr v3 core, "Data types"; for the truth values and integers the Python array API has the same names).
use Rattle.std.specs.Prelude.{ℕ, List, codes, bytes_eq, Option, Some, None, if◌then◌else◌}
use Rattle.cu_num.specs.declared.types.Dtype.{Dtype}
use Rattle.cu_num.specs.declared.types.Dtype.TheVariants.{Bool, Int8, Int16, Int32, Int64, Uint8, Uint16, Uint32, Uint64}

-- the name of a type
abbrev pub type_name : Dtype → List ℕ
type_name Bool = codes "bool"
type_name Int8 = codes "int8"
type_name Int16 = codes "int16"
type_name Int32 = codes "int32"
type_name Int64 = codes "int64"
type_name Uint8 = codes "uint8"
type_name Uint16 = codes "uint16"
type_name Uint32 = codes "uint32"
type_name Uint64 = codes "uint64"

-- the type of a name
abbrev pub dtype_named : List ℕ → Option Dtype
dtype_named name =
    if bytes_eq name (codes "bool") then Some Bool
    else if bytes_eq name (codes "int8") then Some Int8
    else if bytes_eq name (codes "int16") then Some Int16
    else if bytes_eq name (codes "int32") then Some Int32
    else if bytes_eq name (codes "int64") then Some Int64
    else if bytes_eq name (codes "uint8") then Some Uint8
    else if bytes_eq name (codes "uint16") then Some Uint16
    else if bytes_eq name (codes "uint32") then Some Uint32
    else if bytes_eq name (codes "uint64") then Some Uint64
    else None
