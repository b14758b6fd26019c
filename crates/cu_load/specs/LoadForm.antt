-- The load form: the JSON text (RFC 8259) by which one array is given. This project's own form.
use Rattle.std.specs.Prelude.{◌≡◌, ℕ, ◌&&◌, ◌==◌, nat_le, ℤ, pos, Bool, true, List, [], ◌∷◌, ◌++◌, length, codes, All, Option, Some, option_and_then, is_some, is_none, Result, Ok, ok_or}
use Rattle.std.specs.Str.{is_utf8}
use Rattle.serde_json.specs.Data.{Data, Items, no_items, item}
use Rattle.serde_json.specs.Events.{items_len}
use Rattle.serde_json.specs.Find.{get, as_str, as_array}
use Rattle.serde_json.specs.Read.{read}
use Rattle.cu_num.specs.Dtype.{size_of, InRange}
use Rattle.cu_num.specs.declared.types.Dtype.{Dtype}
use Rattle.cu_num.specs.declared.layout.Encoding.TheVariants.{Plain}
use Rattle.cu_num.specs.declared.layout.Sep.TheVariants.{Slash}
use Rattle.cu_num.specs.declared.layout.Endian.TheVariants.{Little}
use Rattle.cu_shape.specs.Index.{product}
use Rattle.cu_grid.specs.Grid.{RegularGrid}
use Rattle.cu_grid.specs.Limits.{first_fault}
use Rattle.cu_zarr.specs.Layout.{ArrayLayout}
use Rattle.cu_result.specs.Results.{◌>>=◌, check}
use Rattle.cu_json.specs.Form.{is_object_of, naturals_of}
use Rattle.cu_meta_members.specs.Members.{fill_of}
use Rattle.cu_num.specs.TypeName.{dtype_named}
use Rattle.cu_meta_members.specs.Storable.{IsStorable}
use Rattle.cu_op.specs.Layout.{layout_view}
use Rattle.cu_load.specs.Name.{name_in}
use Rattle.cu_name.specs.Name.{is_name}
use Rattle.cu_load.specs.declared.load_form.Head.{Head}
use Rattle.cu_load.specs.declared.load_form.LoadForm.{LoadForm}
use Rattle.cu_load.specs.declared.load_form.LoadRefused.{LoadRefused}

-- the name and the layout of an array
pub record NamedLayout : Type 0 where
  pub name : List ℕ
  pub layout : ArrayLayout

-- an array: its name, its layout and its elements in row-major order
pub record GivenArray : Type 0 where
  pub name : List ℕ
  pub layout : ArrayLayout
  pub elements : List ℤ

-- the name and the layout that were read
abbrev pub head_view : Head → NamedLayout
head_view h = record { name = h.name; layout = layout_view h.layout }

-- the array of a form that was read
abbrev pub given_by : LoadForm → GivenArray
given_by f = record { name = f.name; layout = layout_view f.layout; elements = f.elements.items }

-- where the refusal has a code, the code has the property; want of memory says nothing
abbrev pub IfCode : LoadRefused → (ℕ → Type 0) → Type 0
IfCode (LoadRefused.Code code) P = P code
IfCode LoadRefused.NoMemory P = Unit {0}

-- the member is there, and is a text
abbrev pub text_member : List ℕ → Data → Option (List ℕ)
text_member name d = option_and_then as_str (get name d)

-- the member is there, and is a list
abbrev pub list_member : List ℕ → Data → Option Items
list_member name d = option_and_then as_array (get name d)

-- exactly the five members, two texts and three lists
abbrev pub has_form : Data → Bool
has_form d = is_object_of 5 d && is_some (text_member (codes "name") d) && is_some (text_member (codes "data_type") d)
    && is_some (list_member (codes "shape") d) && is_some (list_member (codes "chunk_shape") d) && is_some (list_member (codes "elements") d)

-- the sizes of at most six axes
abbrev pub sizes_at : List ℕ → Data → Option (List ℕ)
sizes_at name d = option_and_then (naturals_of 6) (get name d)

-- The layout of a given array: keys as `c/0`, the lower bytes first, and fill value 0.
abbrev pub layout_given : Dtype → RegularGrid → ArrayLayout
layout_given t g = record { dtype = t; shape = g.shape; chunk = g.chunk; encoding = Plain Slash; endian = Little; fill = pos 0 }

-- the elements in front, and then those of the items: true or false for bool, and else integers of the type
abbrev pub elements_after : Dtype → List ℤ → Items → Option (List ℤ)
elements_after t front no_items = Some front
elements_after t front (item d ds) = option_and_then (λ x. elements_after t (front ++ x ∷ []) ds) (fill_of t d)

-- The name and the layout that a value says, or the first of the codes 2 for another form, 3 for a name that is none, 4 for a type
-- that is none of the nine, and 5 for a shape and a chunk shape that are no grid.
abbrev pub head_in : Data → Result NamedLayout ℕ
head_in d = do
  _ ← check (has_form d) 2
  name ← ok_or (name_in (get (codes "name") d)) 3
  t ← ok_or (option_and_then dtype_named (text_member (codes "data_type") d)) 4
  shape ← ok_or (sizes_at (codes "shape") d) 5
  chunk ← ok_or (sizes_at (codes "chunk_shape") d) 5
  _ ← check (is_none (first_fault shape chunk (size_of t))) 5
  Ok (record { name = name; layout = layout_given t (record { shape = shape; chunk = chunk }) })

-- The array that a value says. Behind those codes come 6 for a count of elements that is not the shape's, and 7 for one that is
-- none of the type.
abbrev pub array_in : Data → Result GivenArray ℕ
array_in d = do
  head ← head_in d
  items ← ok_or (list_member (codes "elements") d) 2
  _ ← check (items_len items == product head.layout.shape) 6
  elements ← ok_or (elements_after head.layout.dtype [] items) 7
  Ok (record { name = head.name; layout = head.layout; elements = elements })

-- The array that a text says. Before those codes come 8 for a text of more than 1048576 bytes, and 1 for one that is no JSON value.
unfoldable pub load_of : List ℕ → Result GivenArray ℕ
load_of text = do
  _ ← check (nat_le (length text) 1048576) 8
  _ ← check (is_utf8 text) 1
  d ← ok_or (read text) 1
  array_in d

-- what each given array has: a name, a layout in which an array may be stored, the lower bytes first, and as many elements of its
-- type as its shape says
pub record IsGivenArray (a : GivenArray) : Type 0 where
  pub name : is_name a.name ≡ true
  pub layout : IsStorable a.layout
  pub order : a.layout.endian ≡ Little
  pub count : length a.elements ≡ product a.layout.shape
  pub elements : All (InRange a.layout.dtype) a.elements
