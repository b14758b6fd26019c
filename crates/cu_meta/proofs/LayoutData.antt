-- The value that the written metadata of an array is, as JSON data.
use Rattle.std.proofs.Common.{◌≡◌, ℕ, zero, suc, ℤ, pos, negsuc, List, [], ◌∷◌, ◌++◌, codes, decimal, refl, sym, ap, ◌∙◌, append_assoc}
use Rattle.std.specs.Prelude.{Bool as Test, true, false}
use Rattle.cu_json.proofs.Compact.{escape, escape_byte}
use Rattle.std.specs.Fmt.{digits}
use Rattle.serde_json.specs.Data.{unsigned, Data, boolean, number, string, array, object, Items, no_items, item, no_members, member}
use Rattle.serde_json.specs.Find.{of_integer}
use Rattle.serde_json.specs.Written.{compact_text, items_text}
use Rattle.cu_num.specs.declared.types.Dtype.{Dtype}
use Rattle.cu_num.specs.declared.types.Dtype.TheVariants.{Bool, Int8, Int16, Int32, Int64, Uint8, Uint16, Uint32, Uint64}
use Rattle.cu_num.specs.declared.layout.Encoding.{Encoding}
use Rattle.cu_num.specs.declared.layout.Encoding.TheVariants.{Plain, V2}
use Rattle.cu_num.specs.declared.layout.Sep.TheVariants.{Slash, Dot}
use Rattle.cu_num.specs.declared.layout.Endian.{Endian}
use Rattle.cu_num.specs.declared.layout.Endian.TheVariants.{Little, Big}
use Rattle.cu_zarr.specs.Layout.{ArrayLayout}
use Rattle.cu_zarr.specs.Metadata.{more_numbers, number_list, separator_name, encoding_text, endian_name, codec_with_endian, codec_text, truth_text, fill_text, metadata_text}
use Rattle.cu_num.specs.TypeName.{type_name}
use Rattle.cu_meta.specs.Written.{text_of}
use Rattle.cu_meta.proofs.Assembled.{assembled}

-- a list of numbers
abbrev pub numbers : List ℕ → Items
numbers [] = no_items
numbers (n ∷ ns) = item (number (unsigned n)) (numbers ns)

-- a part of this name with one setting
abbrev pub configured : List ℕ → Data → List ℕ → Data
configured key value name = object (member (codes "configuration") (object (member key value no_members)) (member (codes "name") (string name) no_members))

-- the encoding of the chunks' keys
abbrev pub encoding_data : Encoding → Data
encoding_data (Plain sep) = configured (codes "separator") (string (separator_name sep)) (codes "default")
encoding_data (V2 sep) = configured (codes "separator") (string (separator_name sep)) (codes "v2")

-- the codec with a byte order
abbrev pub endian_data : Endian → Data
endian_data e = configured (codes "endian") (string (endian_name e)) (codes "bytes")

-- the codec: types of one byte have no byte order
abbrev pub codec_data : Dtype → Endian → Data
codec_data Bool e = object (member (codes "name") (string (codes "bytes")) no_members)
codec_data Int8 e = object (member (codes "name") (string (codes "bytes")) no_members)
codec_data Uint8 e = object (member (codes "name") (string (codes "bytes")) no_members)
codec_data Int16 e = endian_data e
codec_data Int32 e = endian_data e
codec_data Int64 e = endian_data e
codec_data Uint16 e = endian_data e
codec_data Uint32 e = endian_data e
codec_data Uint64 e = endian_data e

-- the truth value that a number is written as
abbrev pub truth_of : ℤ → Test
truth_of (pos zero) = false
truth_of (pos (suc n)) = true
truth_of (negsuc n) = true

-- the fill value
abbrev pub fill_data : Dtype → ℤ → Data
fill_data Bool x = boolean (truth_of x)
fill_data Int8 x = number (of_integer x)
fill_data Int16 x = number (of_integer x)
fill_data Int32 x = number (of_integer x)
fill_data Int64 x = number (of_integer x)
fill_data Uint8 x = number (of_integer x)
fill_data Uint16 x = number (of_integer x)
fill_data Uint32 x = number (of_integer x)
fill_data Uint64 x = number (of_integer x)

-- the whole, from its parts
abbrev pub whole_data : Data → Data → Data → List ℕ → Data → Data → Data
whole_data chunk encoding codec name fill shape =
    object (member (codes "chunk_grid") (configured (codes "chunk_shape") chunk (codes "regular"))
    (member (codes "chunk_key_encoding") encoding
    (member (codes "codecs") (array (item codec no_items))
    (member (codes "data_type") (string name)
    (member (codes "fill_value") fill
    (member (codes "node_type") (string (codes "array"))
    (member (codes "shape") shape
    (member (codes "zarr_format") (number (unsigned 3)) no_members))))))))

-- the whole, of a layout
abbrev pub layout_data : ArrayLayout → Data
layout_data l = whole_data (array (numbers l.chunk)) (encoding_data l.encoding) (codec_data l.dtype l.endian) (type_name l.dtype) (fill_data l.dtype l.fill) (array (numbers l.shape))

-- ---- the texts of the parts

more_text : (ns : List ℕ) → items_text true (numbers ns) ≡ more_numbers ns ++ codes "]"
more_text [] = refl
more_text (n ∷ ns) = ap (λ s. 44 ∷ (decimal n ++ s)) (more_text ns) ∙ ap (λ s. 44 ∷ s) (sym (append_assoc (decimal n) (more_numbers ns) (codes "]")))

numbers_text : (ns : List ℕ) → compact_text (array (numbers ns)) ≡ number_list ns
numbers_text [] = refl
numbers_text (n ∷ ns) = ap (λ s. 91 ∷ (decimal n ++ s)) (more_text ns) ∙ ap (λ s. 91 ∷ s) (sym (append_assoc (decimal n) (more_numbers ns) (codes "]")))

encoding_data_text : (e : Encoding) → compact_text (encoding_data e) ≡ encoding_text e
unfolding escape_byte
encoding_data_text (Plain Slash) = refl
encoding_data_text (Plain Dot) = refl
encoding_data_text (V2 Slash) = refl
encoding_data_text (V2 Dot) = refl

endian_data_text : (e : Endian) → compact_text (endian_data e) ≡ codec_with_endian e
unfolding escape_byte
endian_data_text Little = refl
endian_data_text Big = refl

codec_data_text : (t : Dtype) (e : Endian) → compact_text (codec_data t e) ≡ codec_text t e
unfolding escape_byte
codec_data_text Bool e = refl
codec_data_text Int8 e = refl
codec_data_text Uint8 e = refl
codec_data_text Int16 e = endian_data_text e
codec_data_text Int32 e = endian_data_text e
codec_data_text Int64 e = endian_data_text e
codec_data_text Uint16 e = endian_data_text e
codec_data_text Uint32 e = endian_data_text e
codec_data_text Uint64 e = endian_data_text e

truth_of_text : (x : ℤ) → compact_text (boolean (truth_of x)) ≡ truth_text x
truth_of_text (pos zero) = refl
truth_of_text (pos (suc n)) = refl
truth_of_text (negsuc n) = refl

integer_text : (x : ℤ) → compact_text (number (of_integer x)) ≡ fill_text Int8 x
integer_text (pos n) = refl
integer_text (negsuc n) = refl

fill_data_text : (t : Dtype) (x : ℤ) → compact_text (fill_data t x) ≡ fill_text t x
fill_data_text Bool x = truth_of_text x
fill_data_text Int8 x = integer_text x
fill_data_text Int16 x = integer_text x
fill_data_text Int32 x = integer_text x
fill_data_text Int64 x = integer_text x
fill_data_text Uint8 x = integer_text x
fill_data_text Uint16 x = integer_text x
fill_data_text Uint32 x = integer_text x
fill_data_text Uint64 x = integer_text x

name_text : (t : Dtype) → escape (type_name t) ≡ type_name t
unfolding escape_byte
name_text Bool = refl
name_text t = refl

whole_text : (chunk encoding codec fill shape : Data) (name : List ℕ)
    → compact_text (whole_data chunk encoding codec name fill shape) ≡ text_of (compact_text chunk) (compact_text encoding) (compact_text codec) (escape name) (compact_text fill) (compact_text shape)
unfolding escape_byte digits
whole_text chunk encoding codec fill shape name = simp append_assoc refl

-- the text of the data is the written text
pub layout_data_text : (l : ArrayLayout) → compact_text (layout_data l) ≡ metadata_text l
layout_data_text l =
    whole_text (array (numbers l.chunk)) (encoding_data l.encoding) (codec_data l.dtype l.endian) (fill_data l.dtype l.fill) (array (numbers l.shape)) (type_name l.dtype)
    ∙ assembled l _ _ _ _ _ _ (numbers_text l.chunk) (encoding_data_text l.encoding) (codec_data_text l.dtype l.endian) (name_text l.dtype) (fill_data_text l.dtype l.fill) (numbers_text l.shape)
