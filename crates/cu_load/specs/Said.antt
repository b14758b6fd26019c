-- Which values and which texts say an array: each member by itself, with no order of faults.
use Rattle.std.specs.Prelude.{◌≡◌, ◌≤◌, ℕ, ℤ, true, List, [], ◌∷◌, length, codes, Some, None, option_and_then}
use Rattle.std.specs.Str.{is_utf8}
use Rattle.serde_json.specs.Data.{Data, Items, no_items, item}
use Rattle.serde_json.specs.Events.{items_len}
use Rattle.serde_json.specs.Find.{get}
use Rattle.serde_json.specs.Read.{read}
use Rattle.cu_num.specs.Dtype.{size_of}
use Rattle.cu_num.specs.declared.types.Dtype.{Dtype}
use Rattle.cu_num.specs.TypeName.{dtype_named}
use Rattle.cu_shape.specs.Index.{product}
use Rattle.cu_grid.specs.Limits.{first_fault}
use Rattle.cu_meta_members.specs.Members.{fill_of}
use Rattle.cu_meta.specs.Said.{said_grid}
use Rattle.cu_load.specs.Name.{name_in}
use Rattle.cu_load.specs.LoadForm.{GivenArray, has_form, text_member, list_member, sizes_at, layout_given}

-- each item is the element of its place: true or false for bool, and else an integer of the type
abbrev pub SayElements : Dtype → Items → List ℤ → Type 0
SayElements t no_items [] = Unit {0}
SayElements t (item d ds) (x ∷ xs) = (fill_of t d ≡ Some x) × SayElements t ds xs
SayElements t no_items (x ∷ xs) = ⊥
SayElements t (item d ds) [] = ⊥

-- the value is an object of the five members, and each says its part of the array
pub record SaysArray (d : Data) (a : GivenArray) : Type 0 where
  pub form : has_form d ≡ true
  pub name : name_in (get (codes "name") d) ≡ Some a.name
  pub dtype : option_and_then dtype_named (text_member (codes "data_type") d) ≡ Some a.layout.dtype
  pub shape : sizes_at (codes "shape") d ≡ Some a.layout.shape
  pub chunk : sizes_at (codes "chunk_shape") d ≡ Some a.layout.chunk
  pub grid : first_fault a.layout.shape a.layout.chunk (size_of a.layout.dtype) ≡ None
  pub layout : a.layout ≡ layout_given a.layout.dtype (said_grid a.layout)
  pub items : Items
  pub listed : list_member (codes "elements") d ≡ Some items
  pub count : items_len items ≡ product a.layout.shape
  pub elements : SayElements a.layout.dtype items a.elements

-- the text is the JSON text of such a value, in UTF-8, and of at most 1048576 bytes
pub record IsTextOf (text : List ℕ) (a : GivenArray) : Type 0 where
  pub short : length text ≤ 1048576
  pub utf8 : is_utf8 text ≡ true
  pub value : Data
  pub reads : read text ≡ Some value
  pub says : SaysArray value a
