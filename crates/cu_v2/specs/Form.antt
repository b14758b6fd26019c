-- The form of a `.zarray` of a layout (Zarr storage specification, version 2, "Metadata"), as the values that its members may have.
use Rattle.std.specs.Prelude.{◌≡◌, ◌≤◌, ◌==◌, ◌⊎◌, ℕ, ℤ, pos, List, [], ◌∷◌, length, codes, Option, Some, None, Contains, IsUtf8, if◌then◌else◌}
use Rattle.serde_json.specs.Data.{unsigned, Data, null, boolean, number, string, array, object, Items, no_items, item}
use Rattle.serde_json.specs.Find.{get, as_integer}
use Rattle.serde_json.specs.Read.{read}
use Rattle.cu_num.specs.Dtype.{size_of, InRange}
use Rattle.cu_num.specs.declared.types.Dtype.{Dtype}
use Rattle.cu_num.specs.declared.types.Dtype.TheVariants.{Bool, Int8, Int16, Int32, Int64, Uint8, Uint16, Uint32, Uint64}
use Rattle.cu_num.specs.declared.layout.Encoding.{Encoding}
use Rattle.cu_num.specs.declared.layout.Encoding.TheVariants.{Plain, V2}
use Rattle.cu_num.specs.declared.layout.Sep.TheVariants.{Slash, Dot}
use Rattle.cu_num.specs.declared.layout.Endian.{Endian}
use Rattle.cu_num.specs.declared.layout.Endian.TheVariants.{Little, Big}
use Rattle.cu_grid.specs.Limits.{first_fault}
use Rattle.cu_zarr.specs.Layout.{ArrayLayout}
use Rattle.cu_meta_members.specs.Members.{truth}

-- a list of numbers
abbrev pub number_items : List ℕ → Items
number_items [] = no_items
number_items (n ∷ ns) = item (number (unsigned n)) (number_items ns)

-- what stands behind the sign in the text of a type (NumPy, "The array interface", typestr)
abbrev pub code_of_type : Dtype → List ℕ
code_of_type Bool = codes "b1"
code_of_type Int8 = codes "i1"
code_of_type Int16 = codes "i2"
code_of_type Int32 = codes "i4"
code_of_type Int64 = codes "i8"
code_of_type Uint8 = codes "u1"
code_of_type Uint16 = codes "u2"
code_of_type Uint32 = codes "u4"
code_of_type Uint64 = codes "u8"

-- the signs of a byte order: `<` little, `>` big; a type of one byte may have any sign, and is always little-endian
abbrev pub order_signs : Dtype → Endian → List ℕ
order_signs t Little = if size_of t == 1 then codes "<>|" else codes "<"
order_signs t Big = if size_of t == 1 then [] else codes ">"

-- a text of a type in this byte order
abbrev pub IsTypeText : List ℕ → Dtype → Endian → Type 0
IsTypeText text t e = (sign : ℕ) × (text ≡ sign ∷ code_of_type t) × Contains (order_signs t e) sign

-- a fill value: null for 0, a truth value of the type of truth values, and a number of any type
abbrev pub IsFillOf : Dtype → Data → ℤ → Type 0
IsFillOf t null x = x ≡ pos 0
IsFillOf t (boolean b) x = (t ≡ Bool) × (x ≡ truth b)
IsFillOf t (number n) x = (as_integer n ≡ Some x) × InRange t x
IsFillOf t (string s) x = ⊥
IsFillOf t (array items) x = ⊥
IsFillOf t (object ms) x = ⊥

-- a separator of the coordinates in a key, where "." may be left out
abbrev pub IsSeparatorOf : Option Data → Encoding → Type 0
IsSeparatorOf value (Plain sep) = ⊥
IsSeparatorOf value (V2 Dot) = (value ≡ None) ⊎ (value ≡ Some (string (codes ".")))
IsSeparatorOf value (V2 Slash) = value ≡ Some (string (codes "/"))

-- the members of the value of a `.zarray` of this layout; members of other names may stand beside them
pub record IsZarrayValue (d : Data) (l : ArrayLayout) : Type 0 where
  pub version : get (codes "zarr_format") d ≡ Some (number (unsigned 2))
  pub shape : get (codes "shape") d ≡ Some (array (number_items l.shape))
  pub chunks : get (codes "chunks") d ≡ Some (array (number_items l.chunk))
  pub dtype : (text : List ℕ) × (get (codes "dtype") d ≡ Some (string text)) × IsTypeText text l.dtype l.endian
  pub compressor : get (codes "compressor") d ≡ Some null
  pub filters : (get (codes "filters") d ≡ Some null) ⊎ (get (codes "filters") d ≡ Some (array no_items))
  pub order : get (codes "order") d ≡ Some (string (codes "C"))
  pub fill : (value : Data) × (get (codes "fill_value") d ≡ Some value) × IsFillOf l.dtype value l.fill
  pub separator : IsSeparatorOf (get (codes "dimension_separator") d) l.encoding
  pub axes : length l.shape ≤ 6
  pub grid : first_fault l.shape l.chunk (size_of l.dtype) ≡ None

-- a text of a `.zarray` of this layout, of at most 1048576 bytes
pub record IsZarray (bytes : List ℕ) (l : ArrayLayout) : Type 0 where
  pub short : length bytes ≤ 1048576
  pub utf8 : IsUtf8 bytes
  pub value : Data
  pub reads : read bytes ≡ Some value
  pub says : IsZarrayValue value l
