-- The one text in which this project writes the metadata of an array (Zarr v3 core, "Array metadata"; its members in byte order).
use Rattle.std.specs.Prelude.{ℕ, ℤ, pos, negsuc, zero, suc, List, [], ◌∷◌, ◌++◌, codes}
use Rattle.std.specs.Fmt.{decimal, signed_decimal}
use Rattle.cu_num.specs.declared.types.Dtype.{Dtype}
use Rattle.cu_num.specs.declared.types.Dtype.TheVariants.{Bool, Int8, Int16, Int32, Int64, Uint8, Uint16, Uint32, Uint64}
use Rattle.cu_num.specs.declared.layout.Encoding.{Encoding}
use Rattle.cu_num.specs.declared.layout.Encoding.TheVariants.{Plain, V2}
use Rattle.cu_num.specs.declared.layout.Sep.{Sep}
use Rattle.cu_num.specs.declared.layout.Sep.TheVariants.{Slash, Dot}
use Rattle.cu_num.specs.declared.layout.Endian.{Endian}
use Rattle.cu_num.specs.declared.layout.Endian.TheVariants.{Little, Big}
use Rattle.cu_num.specs.TypeName.{type_name}
use Rattle.cu_zarr.specs.Layout.{ArrayLayout}

-- numbers in decimal, each with a comma in front
abbrev pub more_numbers : List ℕ → List ℕ
more_numbers [] = []
more_numbers (n ∷ ns) = 44 ∷ decimal n ++ more_numbers ns

-- a list of numbers, as `[4,2]`
abbrev pub number_list : List ℕ → List ℕ
number_list [] = codes "[]"
number_list (n ∷ ns) = codes "[" ++ decimal n ++ more_numbers ns ++ codes "]"

abbrev pub separator_name : Sep → List ℕ
separator_name Slash = codes "/"
separator_name Dot = codes "."

abbrev pub encoding_part : Sep → List ℕ → List ℕ
encoding_part sep name = codes "{\"configuration\":{\"separator\":\"" ++ separator_name sep ++ codes "\"},\"name\":\"" ++ name ++ codes "\"}"

abbrev pub encoding_text : Encoding → List ℕ
encoding_text (Plain sep) = encoding_part sep (codes "default")
encoding_text (V2 sep) = encoding_part sep (codes "v2")

abbrev pub endian_name : Endian → List ℕ
endian_name Little = codes "little"
endian_name Big = codes "big"

abbrev pub codec_with_endian : Endian → List ℕ
codec_with_endian e = codes "{\"configuration\":{\"endian\":\"" ++ endian_name e ++ codes "\"},\"name\":\"bytes\"}"

-- types of one byte have no byte order
abbrev pub codec_text : Dtype → Endian → List ℕ
codec_text Bool e = codes "{\"name\":\"bytes\"}"
codec_text Int8 e = codes "{\"name\":\"bytes\"}"
codec_text Uint8 e = codes "{\"name\":\"bytes\"}"
codec_text Int16 e = codec_with_endian e
codec_text Int32 e = codec_with_endian e
codec_text Int64 e = codec_with_endian e
codec_text Uint16 e = codec_with_endian e
codec_text Uint32 e = codec_with_endian e
codec_text Uint64 e = codec_with_endian e

-- a truth value, and else the number in decimal
abbrev pub truth_text : ℤ → List ℕ
truth_text (pos zero) = codes "false"
truth_text (pos (suc n)) = codes "true"
truth_text (negsuc n) = codes "true"

abbrev pub fill_text : Dtype → ℤ → List ℕ
fill_text Bool x = truth_text x
fill_text Int8 x = signed_decimal x
fill_text Int16 x = signed_decimal x
fill_text Int32 x = signed_decimal x
fill_text Int64 x = signed_decimal x
fill_text Uint8 x = signed_decimal x
fill_text Uint16 x = signed_decimal x
fill_text Uint32 x = signed_decimal x
fill_text Uint64 x = signed_decimal x

-- the written metadata
abbrev pub metadata_text : ArrayLayout → List ℕ
metadata_text l = codes "{\"chunk_grid\":{\"configuration\":{\"chunk_shape\":" ++ number_list l.chunk ++ codes "},\"name\":\"regular\"},\"chunk_key_encoding\":"
    ++ encoding_text l.encoding ++ codes ",\"codecs\":[" ++ codec_text l.dtype l.endian ++ codes "],\"data_type\":\"" ++ type_name l.dtype
    ++ codes "\",\"fill_value\":" ++ fill_text l.dtype l.fill ++ codes ",\"node_type\":\"array\",\"shape\":" ++ number_list l.shape ++ codes ",\"zarr_format\":3}"
